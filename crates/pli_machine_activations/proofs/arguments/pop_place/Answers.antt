use Rattle.std.proofs.Common.{◌-◌, suc, length, sym, ap, ◌∙◌, arith}
use Rattle.std.specs.List.{slice_get}
use Rattle.std.specs.Option.{option_copied}
use Rattle.std.specs.Prelude.{vec_len}
use Rattle.pli_machine_step.specs.Machine.{places_off}
use Rattle.pli_machine_operate.specs.views.OperandView.{stack}
use Rattle.pli_machine_operate.proofs.StackLemmas.{one_taken}
use Rattle.pli_machine_activations.proofs.arguments.pop_place.Goals as goal

pub returns : goal.returns
returns c = λ count after.
    let operands = c.args.operands.now in
    let rest = stack c.pop-newest.new.self.items in
    ap (places_off (suc count) after)
    (one_taken operands.items c.pop-newest.new.self.items (vec_len operands) c.in_ok-newest.newest.now (omega (arith, operands.ok.0))
    (sym (ap option_copied c.in_ok-newest.was) ∙ c.last.ensures.value ∙ ap (λ xs. slice_get xs (length xs - 1)) c.deref.ensures.value)
    c.pop-newest.ensures.rest)
    ∙ c.in_ok-found.ensures count after rest
