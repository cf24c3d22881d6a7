use Rattle.std.proofs.Common.{ap, sym, ◌∙◌, rules, w16, w64, SFits}
use Rattle.std.proofs.lemmas.Int.{to_z-of_z}
use Rattle.pli_value.specs.Value.{Number}
use Rattle.pli_machine_step.specs.Machine.{OfValue, At, pushes, with_operands}
use Rattle.pli_store.specs.views.StorageView.{place_view}
use Rattle.pli_machine_operate.specs.views.OperandView.{stack}
use Rattle.pli_machine_activations.specs.views.MachineView.{leads, Running}
use Rattle.pli_machine_perform.proofs.AlongMoves.{bound_gives, no_bound_gives}
use Rattle.pli_machine_perform.proofs.places.bound.Goals as goal

pub returns-in_ok-push-in-Some : goal.returns-in_ok-push-in-Some
returns-in_ok-push-in-Some c = λ here frames w left.
    let found = rw c.in-Some.is at c.nth_dimension.ensures in
    let ops = stack c.args.operands.now.items in
    let small : SFits w16 c.of.result = search rules in
    let number : SFits w64 c.from-bound.result = search rules in
    bound_gives ops here frames w left c.args.which c.args.number (place_view c.args.place) c.in-Some.dimension found
    ∙ ap (λ x. leads (pushes here frames (OfValue (Number x)) ops w) left)
    (sym c.of.ensures ∙ sym (to_z-of_z w16 c.of.result small) ∙ sym c.from-bound.ensures ∙ sym (to_z-of_z w64 c.from-bound.result number))
    ∙ ap (λ xs. Running (At (with_operands xs here) frames w left)) (sym c.in_ok-push-in-Some.ensures)

pub returns-in-None : goal.returns-in-None
returns-in-None c = λ here frames w left.
    let none = rw c.in-None.is at c.nth_dimension.ensures in
    no_bound_gives (stack c.args.operands.now.items) here frames w left c.args.which c.args.number (place_view c.args.place) none
