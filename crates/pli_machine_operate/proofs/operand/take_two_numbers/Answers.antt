use Rattle.std.proofs.Common.{sym, ap, ◌∙◌, w64, SFits, arith, rules}
use Rattle.std.proofs.lemmas.Int.{to_z-of_z}
use Rattle.pli_machine_step.specs.Machine.{OfValue}
use Rattle.pli_value.specs.Value.{Number}
use Rattle.pli_machine_operate.proofs.StackLemmas.{two_taken}
use Rattle.pli_machine_operate.proofs.operand.take_two_numbers.Goals as goal

pub returns : goal.returns
returns c =
    let operands = c.args.operands.now in
    let left : SFits w64 c.in_ok-left.left = search rules in
    let right : SFits w64 c.in_ok-right.right = search rules in
    two_taken operands.items c.truncate.new.self.items c.len-count.result c.index.result.now c.index-2.result.now _ _
    (omega (arith, operands.ok.0)) (omega arith) c.index.ensures c.index-2.ensures c.truncate.ensures.items
    (c.in_ok-left.ensures ∙ ap (λ z. OfValue (Number z)) (sym (to_z-of_z w64 c.in_ok-left.left left)))
    (c.in_ok-right.ensures ∙ ap (λ z. OfValue (Number z)) (sym (to_z-of_z w64 c.in_ok-right.right right)))
