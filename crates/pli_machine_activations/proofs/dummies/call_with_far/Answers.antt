use Rattle.std.proofs.Common.{◌∷◌, map, ap, ◌∙◌, SFits, w64, rules}
use Rattle.std.proofs.lemmas.Int.{to_z-of_z}
use Rattle.std.specs.Prelude.{slice_get}
use Rattle.std.proofs.lemmas.Result.{IfOk-weaker}
use Rattle.pli_map.specs.views.DescriptionView.{description_view}
use Rattle.pli_value.specs.Value.{Number}
use Rattle.pli_world.specs.World.{dummy_of}
use Rattle.pli_store.specs.views.StorageView.{place_view}
use Rattle.pli_code.specs.CodeTables.{block_looked_up}
use Rattle.pli_code.specs.views.CodeView.{code_view}
use Rattle.pli_machine_step.specs.Machine.{AtDummy, called, given, with_operands}
use Rattle.pli_machine_activations.specs.views.MachineView.{leads, frame_view, frames_of, world_of, left_of}
use Rattle.pli_machine_activations.proofs.StorageAnswers.{answer_stops}
use Rattle.pli_machine_activations.proofs.dummies.call_with_far.Goals as goal

pub returns-in-Ok : goal.returns-in-Ok
returns-in-Ok c =
    let code = code_view c.args.unit.now.linked.now.deck.code in
    let b = slice_get (map (block_looked_up code) code.blocks) c.args.number in
    let m = c.args.machine.now in
    let x = c.args.argument in
    let fits : SFits w64 x = search rules in
    let here = frame_view m.here in
    let frames = frames_of m.waiting.items in
    let made = rw (to_z-of_z w64 x fits) at c.in-Ok.ensures.made in
    IfOk-weaker c.call_last.result _ _
    (λ stop moves image put.
    ap (λ a. leads (given (world_of image m put) a (λ p w. called c.args.number c.args.arguments b (with_operands (AtDummy p ∷ here.operands) here) frames w)) (left_of m))
    (made (world_of image m put))
    ∙ moves image put)
    c.call_last.ensures

pub returns-in_ok-stop_at-in-Err : goal.returns-in_ok-stop_at-in-Err
returns-in_ok-stop_at-in-Err c = λ image put.
    let code = code_view c.args.unit.now.linked.now.deck.code in
    let b = slice_get (map (block_looked_up code) code.blocks) c.args.number in
    let m = c.args.machine.now in
    let x = c.args.argument in
    let fits : SFits w64 x = search rules in
    let here = frame_view m.here in
    let w = world_of image m put in
    let made = rw (to_z-of_z w64 x fits) at c.in-Err.ensures.made in
    answer_stops place_view c.in-Err.fault c.in_ok-stop_at-in-Err.field-0 m.storage c.make_dummy.new.self c.make_dummy.new.self w
    (dummy_of (description_view c.args.description.now) (Number c.args.argument) w)
    (λ p w. called c.args.number c.args.arguments b (with_operands (AtDummy p ∷ here.operands) here) (frames_of m.waiting.items) w) here (frames_of m.waiting.items) (left_of m)
    c.in_ok-stop_at-in-Err.ensures (made w)
