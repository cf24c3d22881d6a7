use Rattle.std.proofs.Common.{None, sym, ap, ◌∙◌}
use Rattle.std.specs.Prelude.{get_or}
use Rattle.pli_code.specs.CodeTables.{variable_at}
use Rattle.pli_code.specs.views.CodeView.{code_view}
use Rattle.pli_machine_loading.proofs.ExternalPlaces.{again_placed}
use Rattle.pli_machine_loading.proofs.linking.place_external.Goals as goal

pub returns-in-Some : goal.returns-in-Some
returns-in-Some c = λ statics externals known.
    again_placed c.args.kind (variable_at (code_view c.args.code.now) c.args.template) c.args.number c.in-Some.standing c.again.result c.args.shared.now statics externals known
    (ap (λ xs. get_or xs c.args.number None) (sym c.deref.ensures.value) ∙ sym c.known_standing.ensures ∙ c.in-Some.is) c.again.ensures
