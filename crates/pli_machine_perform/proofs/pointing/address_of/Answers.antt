use Rattle.std.proofs.Common.{sym, ap, ◌∙◌}
use Rattle.pli_value.specs.Value.{Located}
use Rattle.pli_value.specs.declared.locator.Locator.{Locator}
use Rattle.pli_world.specs.Locating.{addressed, address_of}
use Rattle.pli_world.specs.World.{Yields, further}
use Rattle.pli_store.specs.views.StorageView.{place_view, with_storage}
use Rattle.pli_stacks.proofs.AnsweredCalls.{first_refused}
use Rattle.pli_machine_step.specs.Machine.{OfValue, At, given, pushes, with_operands}
use Rattle.pli_machine_operate.specs.views.OperandView.{stack}
use Rattle.pli_machine_activations.specs.views.MachineView.{leads, Running}
use Rattle.pli_machine_activations.proofs.StorageAnswers.{answer_stops, answer_goes}
use Rattle.pli_machine_perform.proofs.PointerMoves.{address_made}
use Rattle.pli_machine_perform.proofs.pointing.address_of.Goals as goal

pub returns-in_ok-push-in-Ok : goal.returns-in_ok-push-in-Ok
returns-in_ok-push-in-Ok c = λ here frames w left.
    let before = with_storage c.args.storage.now w in
    let ops = stack c.args.operands.now.items in
    let p = place_view c.args.place in
    answer_goes (Located c.in-Ok.locator) before before (address_of p before) (λ v w. pushes here frames (OfValue v) ops w) left
    (address_made p before ∙ ap (λ a. further a (λ l w. Yields (Located l) w)) (c.in-Ok.ensures w))
    ∙ ap (λ ops. Running (At (with_operands ops here) frames before left)) (sym c.in_ok-push-in-Ok.ensures)

pub returns-in_ok-stop_at-in-Err : goal.returns-in_ok-stop_at-in-Err
returns-in_ok-stop_at-in-Err c = λ here frames w left.
    let s = c.args.storage.now in
    let before = with_storage s w in
    let ops = stack c.args.operands.now.items in
    let p = place_view c.args.place in
    ap (λ a. leads (given before a (λ v w. pushes here frames (OfValue v) ops w)) left) (address_made p before)
    ∙ answer_stops {T = Locator} (λ l. Located l) c.in-Err.fault c.in_ok-stop_at-in-Err.field-0 s s s w
    (further (addressed p before) (λ l w. Yields (Located l) w)) (λ v w. pushes here frames (OfValue v) ops w)
    (with_operands ops here) frames left c.in_ok-stop_at-in-Err.ensures
    (first_refused {U = Locator} (λ l. l) (λ l. Located l) c.in-Err.fault before before before (addressed p before)
    (λ l w. Yields (Located l) w) (c.in-Err.ensures w))
