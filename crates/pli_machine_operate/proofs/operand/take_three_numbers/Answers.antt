use Rattle.std.proofs.Common.{sym, ap, ◌∙◌, w64, SFits, arith, rules}
use Rattle.std.proofs.lemmas.Int.{to_z-of_z}
use Rattle.pli_machine_step.specs.Machine.{OfValue}
use Rattle.pli_value.specs.Value.{Number}
use Rattle.pli_machine_operate.proofs.StackLemmas.{three_taken}
use Rattle.pli_machine_operate.proofs.operand.take_three_numbers.Goals as goal

pub returns : goal.returns
returns c =
    let operands = c.args.operands.now in
    let first : SFits w64 c.in_ok-first.first = search rules in
    let second : SFits w64 c.in_ok-second.second = search rules in
    let third : SFits w64 c.in_ok-third.third = search rules in
    three_taken operands.items c.truncate.new.self.items c.len-count.result c.index.result.now c.index-2.result.now c.index-3.result.now _ _ _
    (omega (arith, operands.ok.0)) (omega arith) c.index.ensures c.index-2.ensures c.index-3.ensures c.truncate.ensures.items
    (c.in_ok-first.ensures ∙ ap (λ z. OfValue (Number z)) (sym (to_z-of_z w64 c.in_ok-first.first first)))
    (c.in_ok-second.ensures ∙ ap (λ z. OfValue (Number z)) (sym (to_z-of_z w64 c.in_ok-second.second second)))
    (c.in_ok-third.ensures ∙ ap (λ z. OfValue (Number z)) (sym (to_z-of_z w64 c.in_ok-third.third third)))
