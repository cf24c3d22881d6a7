use Rattle.std.proofs.Common.{[], ◌∷◌, ap, ◌∙◌, SFits, w64, rules}
use Rattle.std.proofs.lemmas.Int.{to_z-of_z}
use Rattle.pli_operation.specs.Operations.{Calculates}
use Rattle.pli_operation.specs.declared.operation.Operation.TheVariants.{Within}
use Rattle.pli_value.specs.Value.{Number, Bits}
use Rattle.pli_machine_step.specs.Machine.{values_off}
use Rattle.pli_machine_perform.proofs.OperationLemmas.{operates}
use Rattle.pli_machine_passes.proofs.CalculatedLemmas.{of_three}
use Rattle.pli_machine_perform.proofs.operate.operate_within.Goals as goal

pub returns-in-Some : goal.returns-in-Some
returns-in-Some c =
    let number : SFits w64 c.in-Some.number = search rules in
    let limit : SFits w64 c.in-Some.limit = search rules in
    let step : SFits w64 c.in-Some.step = search rules in
    operates (Calculates (Bits (c.is_within.result ∷ [])))
    c.args.operands.now.items c.take_three_numbers.new.operands.items c.give_immediate.new.operands.items c.give_immediate.result
    Within 3 (Number c.in-Some.number ∷ Number c.in-Some.limit ∷ Number c.in-Some.step ∷ [])
    (ap (values_off 3 []) (rw c.in-Some.is at c.take_three_numbers.ensures))
    (λ greatest.
    rw (to_z-of_z w64 c.in-Some.number number, to_z-of_z w64 c.in-Some.limit limit, to_z-of_z w64 c.in-Some.step step) at c.is_within.ensures
    ∙ of_three greatest Within (Number c.in-Some.number) (Number c.in-Some.limit) (Number c.in-Some.step)) c.give_immediate.ensures
