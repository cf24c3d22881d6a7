use Rattle.std.proofs.Common.{[], ◌∷◌, ap, ◌∙◌, SFits, w64, rules}
use Rattle.std.proofs.lemmas.Int.{to_z-of_z}
use Rattle.pli_value.specs.Value.{Number}
use Rattle.pli_machine_step.specs.Machine.{values_off}
use Rattle.pli_machine_operate.specs.views.CalculationView.{immediate_view}
use Rattle.pli_machine_perform.proofs.OperationLemmas.{operates_with}
use Rattle.pli_machine_passes.proofs.CalculatedLemmas.{of_two}
use Rattle.pli_machine_perform.proofs.operate.operate_with.Goals as goal

pub returns-in_ok-immediate-in-Some : goal.returns-in_ok-immediate-in-Some
returns-in_ok-immediate-in-Some c =
    let left : SFits w64 c.in-Some.left = search rules in
    let right : SFits w64 c.in-Some.right = search rules in
    operates_with (immediate_view c.in_ok-immediate-in-Some.immediate)
    c.args.operands.now.items c.take_two_numbers.new.operands.items c.give_immediate.new.operands.items c.give_immediate.result
    c.args.greatest c.args.operation 2 (Number c.in-Some.left ∷ Number c.in-Some.right ∷ []) (ap (values_off 2 []) (rw c.in-Some.is at c.take_two_numbers.ensures))
    (rw (to_z-of_z w64 c.in-Some.left left, to_z-of_z w64 c.in-Some.right right) at c.in_ok-immediate-in-Some.ensures
    ∙ of_two c.args.greatest c.args.operation (Number c.in-Some.left) (Number c.in-Some.right)) c.give_immediate.ensures
