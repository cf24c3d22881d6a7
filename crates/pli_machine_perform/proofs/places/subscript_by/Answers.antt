use Rattle.std.proofs.Common.{◌∙◌, rules, w64, SFits}
use Rattle.std.proofs.lemmas.Int.{to_z-of_z}
use Rattle.std.proofs.lemmas.Result.{IfOk-weaker}
use Rattle.pli_store.specs.views.StorageView.{place_view}
use Rattle.pli_machine_operate.specs.views.OperandView.{stack}
use Rattle.pli_machine_perform.proofs.AlongMoves.{dimension_gives, no_dimension_gives}
use Rattle.pli_machine_perform.proofs.places.subscript_by.Goals as goal

pub returns-in-Some : goal.returns-in-Some
returns-in-Some c =
    let number : SFits w64 c.args.subscript = search rules in
    let leads = rw (to_z-of_z w64 c.args.subscript number) at c.lead_along.ensures in
    let found = rw c.in-Some.is at c.nth_dimension.ensures in
    IfOk-weaker c.lead_along.result _ _
    (λ s acts here frames w left.
    dimension_gives (stack c.args.operands.now.items) here frames w left c.args.number c.args.subscript (place_view c.args.place) c.in-Some.dimension found
    ∙ acts here frames w left)
    leads

pub returns-in-None : goal.returns-in-None
returns-in-None c = λ here frames w left.
    let none = rw c.in-None.is at c.nth_dimension.ensures in
    no_dimension_gives (stack c.args.operands.now.items) here frames w left c.args.number c.args.subscript (place_view c.args.place) none
