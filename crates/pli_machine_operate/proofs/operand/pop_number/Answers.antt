use Rattle.std.proofs.Common.{◌-◌, ◌∷◌, length, sym, ap, ◌∙◌, w64, SFits, arith, rules}
use Rattle.std.specs.List.{slice_get}
use Rattle.std.specs.Option.{option_copied}
use Rattle.std.proofs.lemmas.Int.{to_z-of_z}
use Rattle.pli_machine_step.specs.Machine.{OfValue}
use Rattle.pli_value.specs.Value.{Number}
use Rattle.pli_machine_operate.specs.views.OperandView.{stack}
use Rattle.pli_machine_operate.proofs.StackLemmas.{one_taken}
use Rattle.pli_machine_operate.proofs.operand.pop_number.Goals as goal

pub returns-clause-newest : goal.returns-clause-newest
returns-clause-newest c =
    let operands = c.args.operands.now in
    let number : SFits w64 c.in_ok-number.number = search rules in
    one_taken operands.items c.truncate.new.self.items c.len.result c.in_ok-newest.newest.now (omega (arith, operands.ok.0))
    (sym (ap option_copied c.in_ok-newest.was) ∙ c.last.ensures.value ∙ ap (λ xs. slice_get xs (length xs - 1)) c.deref.ensures.value)
    c.truncate.ensures.items
    ∙ ap (λ o. o ∷ stack c.truncate.new.self.items) (c.in_ok-number.ensures ∙ ap (λ z. OfValue (Number z)) (sym (to_z-of_z w64 c.in_ok-number.number number)))
