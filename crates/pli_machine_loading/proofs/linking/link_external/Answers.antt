use Rattle.std.proofs.Common.{◌∷◌, Some, refl, sym, subst}
use Rattle.pli_program.specs.Program as programs
use Rattle.pli_code.specs.CodeTables as tables
use Rattle.pli_code.specs.CodeTables.{globals_linked, variable_at}
use Rattle.pli_code.specs.views.CodeView.{code_view}
use Rattle.pli_machine_loading.specs.answers.MadeGlobals.{Links}
use Rattle.pli_machine_loading.proofs.LinkedGlobals.{variable_links}
use Rattle.pli_machine_loading.proofs.linking.link_external.Goals as goal

pub returns : goal.returns
returns c = λ name more links unit number statics externals known.
    let code = code_view c.args.code.now in
    let rest = globals_linked code more links in
    let old = c.args.shared.now in
    let new = c.place_external.new.shared in
    let kind = c.args.kind in
    let external = c.args.external in
    subst (Links unit number statics externals (globals_linked code (tables.ExternalVariable name kind c.args.template ∷ more) (external ∷ links)) rest old new)
    (sym c.as_global.ensures)
    (variable_links code unit number statics externals rest (programs.ExternalVariable external kind) kind (Some external) (λ v. refl) (λ v. refl) old new
    (variable_at code c.args.template) c.place_external.result (c.place_external.ensures statics externals known))
