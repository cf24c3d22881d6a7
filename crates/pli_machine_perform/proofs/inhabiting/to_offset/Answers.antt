use Rattle.std.proofs.Common.{sym, ap, ◌∙◌}
use Rattle.pli_value.specs.Value.{Located}
use Rattle.pli_value.specs.declared.locator.Locator.{Locator}
use Rattle.pli_world.specs.Areas.{offset_in}
use Rattle.pli_world.specs.Locating.{offset_made}
use Rattle.pli_world.specs.World.{Yields, further}
use Rattle.pli_store.specs.views.StorageView.{place_view, with_storage}
use Rattle.pli_stacks.proofs.AnsweredCalls.{first_refused}
use Rattle.pli_machine_step.specs.Machine.{OfValue, At, given, pushes, with_operands}
use Rattle.pli_machine_operate.specs.views.OperandView.{stack}
use Rattle.pli_machine_activations.specs.views.MachineView.{leads, Running}
use Rattle.pli_machine_activations.proofs.StorageAnswers.{answer_stops, answer_goes}
use Rattle.pli_machine_perform.specs.views.ActView.{offset_as}
use Rattle.pli_machine_perform.proofs.AreaMoves.{offset_by, no_pointer}
use Rattle.pli_machine_perform.proofs.inhabiting.to_offset.Goals as goal

pub returns-in_default : goal.returns-in_default
returns-in_default c = λ here frames w left.
    no_pointer (place_view c.args.area) here frames (with_storage c.args.storage.now w) left (stack c.args.operands.now.items) c.in_default.ensures.newest

pub returns-in_ok-push-in-Ok : goal.returns-in_ok-push-in-Ok
returns-in_ok-push-in-Ok c = λ here frames w left.
    let before = with_storage c.args.storage.now w in
    let ops = stack c.pop_locator.new.operands.items in
    let p = place_view c.args.area in
    let l = c.in-Some.pointer in
    ap (λ all. leads (offset_as p all here frames before) left) c.in-Some.ensures.newest
    ∙ answer_goes (Located c.in-Ok.offset) before before (offset_made p (Located l) before) (λ v w. pushes here frames (OfValue v) ops w) left
    (offset_by p l before ∙ ap (λ a. further a (λ q w. Yields (Located q) w)) (c.in-Ok.ensures w))
    ∙ ap (λ ops. Running (At (with_operands ops here) frames before left)) (sym c.in_ok-push-in-Ok.ensures)

pub returns-in_ok-stop_at-in-Err : goal.returns-in_ok-stop_at-in-Err
returns-in_ok-stop_at-in-Err c = λ here frames w left.
    let s = c.args.storage.now in
    let before = with_storage s w in
    let ops = stack c.pop_locator.new.operands.items in
    let p = place_view c.args.area in
    let l = c.in-Some.pointer in
    ap (λ all. leads (offset_as p all here frames before) left) c.in-Some.ensures.newest
    ∙ ap (λ a. leads (given before a (λ v w. pushes here frames (OfValue v) ops w)) left) (offset_by p l before)
    ∙ answer_stops {T = Locator} (λ l. Located l) c.in-Err.fault c.in_ok-stop_at-in-Err.field-0 s s s w
    (further (offset_in p l before) (λ q w. Yields (Located q) w)) (λ v w. pushes here frames (OfValue v) ops w)
    (with_operands ops here) frames left c.in_ok-stop_at-in-Err.ensures
    (first_refused {U = Locator} (λ l. l) (λ l. Located l) c.in-Err.fault before before before (offset_in p l before)
    (λ q w. Yields (Located q) w) (c.in-Err.ensures w))
