use Rattle.std.proofs.Common.{sym, ap, ◌∙◌}
use Rattle.pli_map.specs.views.DescriptionView.{description_view}
use Rattle.pli_value.specs.Value.{Located}
use Rattle.pli_world.specs.Locating.{based, place_by}
use Rattle.pli_store.specs.views.StorageView.{place_view, with_storage}
use Rattle.pli_machine_step.specs.Machine.{AtPlace, At, given, pushes, with_operands, leads_to}
use Rattle.pli_machine_operate.specs.views.OperandView.{stack}
use Rattle.pli_machine_activations.specs.views.MachineView.{leads, Running}
use Rattle.pli_machine_activations.proofs.StorageAnswers.{answer_stops, answer_goes}
use Rattle.pli_machine_passes.proofs.PassLemmas.{led_by}
use Rattle.pli_machine_perform.proofs.PointerMoves.{nothing_led}
use Rattle.pli_machine_perform.proofs.pointing.lead_to.Goals as goal

pub returns-in_default : goal.returns-in_default
returns-in_default c = λ here frames w left.
    nothing_led (description_view c.args.description.now) here frames (with_storage c.args.storage.now w) left
    (stack c.args.operands.now.items) c.in_default.ensures.newest

pub returns-in_ok-push-in-Ok : goal.returns-in_ok-push-in-Ok
returns-in_ok-push-in-Ok c = λ here frames w left.
    let d = description_view c.args.description.now in
    let before = with_storage c.args.storage.now w in
    let ops = stack c.pop_locator.new.operands.items in
    ap (λ all. leads (leads_to d all here frames before) left) c.in-Some.ensures.newest
    ∙ answer_goes (place_view c.in-Ok.place) before before (place_by d (Located c.in-Some.locator) before)
    (λ p w. pushes here frames (AtPlace p) ops w) left (led_by d c.in-Some.locator before ∙ c.in-Ok.ensures w)
    ∙ ap (λ ops. Running (At (with_operands ops here) frames before left)) (sym c.in_ok-push-in-Ok.ensures)

pub returns-in_ok-stop_at-in-Err : goal.returns-in_ok-stop_at-in-Err
returns-in_ok-stop_at-in-Err c = λ here frames w left.
    let d = description_view c.args.description.now in
    let s = c.args.storage.now in
    let before = with_storage s w in
    let ops = stack c.pop_locator.new.operands.items in
    ap (λ all. leads (leads_to d all here frames before) left) c.in-Some.ensures.newest
    ∙ ap (λ a. leads (given before a (λ p w. pushes here frames (AtPlace p) ops w)) left) (led_by d c.in-Some.locator before)
    ∙ answer_stops place_view c.in-Err.fault c.in_ok-stop_at-in-Err.field-0 s s s w (based d c.in-Some.locator before)
    (λ p w. pushes here frames (AtPlace p) ops w) (with_operands ops here) frames left c.in_ok-stop_at-in-Err.ensures (c.in-Err.ensures w)
