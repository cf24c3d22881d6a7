use Rattle.std.proofs.Common.{◌∷◌, None, refl, sym, subst}
use Rattle.pli_program.specs.Program as programs
use Rattle.pli_code.specs.CodeTables as tables
use Rattle.pli_code.specs.CodeTables.{globals_linked, variable_at}
use Rattle.pli_code.specs.views.CodeView.{code_view}
use Rattle.pli_machine_loading.specs.answers.MadeGlobals.{Links}
use Rattle.pli_machine_loading.proofs.ExternalPlaces.{own_placed}
use Rattle.pli_machine_loading.proofs.LinkedGlobals.{variable_links}
use Rattle.pli_machine_loading.proofs.linking.link_own.Goals as goal

pub returns : goal.returns
returns c = λ more links unit number statics externals known.
    let code = code_view c.args.code.now in
    let rest = globals_linked code more links in
    let old = c.args.shared.now in
    let new = c.make_variable.new.shared in
    let kind = c.args.kind in
    let v = variable_at code c.args.template in
    subst (Links unit number statics externals (globals_linked code (tables.OwnVariable kind c.args.template ∷ more) links) rest old new) (sym c.as_global.ensures)
    (variable_links code unit number statics externals rest (programs.OwnVariable kind) kind None (λ v. refl) (λ v. refl) old new v c.make_variable.result
    (own_placed kind v old new statics externals c.make_variable.result known c.make_variable.ensures.same (c.make_variable.ensures.placed statics)))
