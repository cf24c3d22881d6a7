use Rattle.std.proofs.Common.{ap, ◌∙◌}
use Rattle.pli_map.specs.views.DescriptionView.{description_view}
use Rattle.pli_value.specs.Value.{Located}
use Rattle.pli_world.specs.Locating.{based_freed, freed_by}
use Rattle.pli_store.specs.views.StorageView.{with_storage}
use Rattle.pli_machine_step.specs.Machine.{Goes, given, with_operands, frees}
use Rattle.pli_machine_operate.specs.views.OperandView.{stack}
use Rattle.pli_machine_activations.specs.views.MachineView.{leads}
use Rattle.pli_machine_activations.proofs.StorageAnswers.{answer_stops, answer_goes}
use Rattle.pli_machine_perform.proofs.PointerMoves.{freed_of, nothing_freed}
use Rattle.pli_machine_perform.proofs.pointing.free.Goals as goal

pub returns-in_default : goal.returns-in_default
returns-in_default c = λ here frames w left.
    nothing_freed (description_view c.args.description.now) here frames (with_storage c.args.storage.now w) left
    (stack c.args.operands.now.items) c.in_default.ensures.newest

pub returns-in-Ok : goal.returns-in-Ok
returns-in-Ok c = λ here frames w left.
    let d = description_view c.args.description.now in
    let before = with_storage c.args.storage.now w in
    let ops = stack c.pop_locator.new.operands.items in
    ap (λ all. leads (frees d all here frames before) left) c.in-Some.ensures.newest
    ∙ answer_goes tt before (with_storage c.free_based.new.storage w) (freed_by d (Located c.in-Some.locator) before)
    (λ _ w. Goes (with_operands ops here) frames w) left (freed_of d c.in-Some.locator before ∙ c.in-Ok.ensures.answer w)

pub returns-in_ok-stop_at-in-Err : goal.returns-in_ok-stop_at-in-Err
returns-in_ok-stop_at-in-Err c = λ here frames w left.
    let d = description_view c.args.description.now in
    let s = c.args.storage.now in
    let t = c.free_based.new.storage in
    let before = with_storage s w in
    let ops = stack c.pop_locator.new.operands.items in
    ap (λ all. leads (frees d all here frames before) left) c.in-Some.ensures.newest
    ∙ ap (λ a. leads (given before a (λ _ w. Goes (with_operands ops here) frames w)) left) (freed_of d c.in-Some.locator before)
    ∙ answer_stops {T = Unit {0}} (λ _. tt) c.in-Err.fault c.in_ok-stop_at-in-Err.field-0 s t t w (based_freed d c.in-Some.locator before)
    (λ _ w. Goes (with_operands ops here) frames w) (with_operands ops here) frames left c.in_ok-stop_at-in-Err.ensures
    (c.in-Err.ensures.answer w)
