use Rattle.std.proofs.Common.{◌∷◌, map, sym, ap, ◌∙◌, SFits, w64, rules}
use Rattle.std.proofs.lemmas.Int.{to_z-of_z}
use Rattle.std.specs.Prelude.{slice_get}
use Rattle.std.proofs.lemmas.Result.{IfOk-weaker}
use Rattle.pli_map.specs.views.DescriptionView.{description_view}
use Rattle.pli_value.specs.Value.{Number}
use Rattle.pli_code.specs.CodeTables.{block_looked_up}
use Rattle.pli_code.specs.views.CodeView.{code_view}
use Rattle.pli_machine_step.specs.Machine.{AtDummy, called, given, with_operands}
use Rattle.pli_store.proofs.SameStorages.{same_storage}
use Rattle.pli_machine_activations.specs.answers.DummyCalls.{called_with_dummy}
use Rattle.pli_machine_activations.specs.views.MachineView.{leads, frame_view, frames_of, world_of, left_of}
use Rattle.pli_machine_activations.proofs.dummies.call_with_dummy.Goals as goal

pub returns-in-Some : goal.returns-in-Some
returns-in-Some c =
    let code = code_view c.args.unit.now.linked.now.deck.code in
    let b = slice_get (map (block_looked_up code) code.blocks) c.args.number in
    let m = c.args.machine.now in
    let here = frame_view m.here in
    let frames = frames_of m.waiting.items in
    let x = c.args.argument in
    let fits : SFits w64 x = search rules in
    let made = rw (to_z-of_z w64 x fits) at c.in-Some.ensures in
    IfOk-weaker c.call_last.result _ _
    (λ stop moves image put.
    ap (λ a. leads (given (world_of image m put) a (λ p w. called c.args.number c.args.arguments b (with_operands (AtDummy p ∷ here.operands) here) frames w)) (left_of m))
    (made (world_of image m put))
    ∙ moves image put)
    c.call_last.ensures

pub returns-in-None : goal.returns-in-None
returns-in-None c =
    let code = code_view c.args.unit.now.linked.now.deck.code in
    let b = slice_get (map (block_looked_up code) code.blocks) c.args.number in
    let m = c.args.machine.now in
    let x = c.args.argument in
    let fits : SFits w64 x = search rules in
    let far = rw (to_z-of_z w64 x fits) at c.call_with_far.ensures in
    IfOk-weaker c.call_with_far.result _ _
    (λ stop moves image put.
    ap (λ w. leads (called_with_dummy (description_view c.args.description.now) (Number c.args.argument) c.args.number c.args.arguments b (frame_view m.here) (frames_of m.waiting.items) w) (left_of m))
    (sym (same_storage m.storage c.make_dummy_at_once.new.self (world_of image m put) c.in-None.ensures))
    ∙ moves image put)
    far
