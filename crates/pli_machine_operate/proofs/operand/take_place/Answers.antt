use Rattle.std.proofs.Common.{◌-◌, ◌∷◌, length, sym, ap, ◌∙◌, arith}
use Rattle.std.specs.List.{slice_get}
use Rattle.std.specs.Option.{option_copied}
use Rattle.std.specs.Prelude.{vec_len}
use Rattle.pli_machine_operate.specs.views.OperandView.{stack}
use Rattle.pli_machine_operate.proofs.StackLemmas.{one_taken}
use Rattle.pli_machine_operate.proofs.operand.take_place.Goals as goal

pub returns : goal.returns
returns c =
    let operands = c.args.operands.now in
    one_taken operands.items c.pop-newest.new.self.items (vec_len operands) c.in_ok-newest.newest.now (omega (arith, operands.ok.0))
    (sym (ap option_copied c.in_ok-newest.was) ∙ c.last.ensures.value ∙ ap (λ xs. slice_get xs (length xs - 1)) c.deref.ensures.value)
    c.pop-newest.ensures.rest
    ∙ ap (λ o. o ∷ stack c.pop-newest.new.self.items) c.in_ok-taken.ensures
