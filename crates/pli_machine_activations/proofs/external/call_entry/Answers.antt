use Rattle.std.proofs.Common.{◌≡◌, ℕ, Option, Some, None, List, ap, ◌∙◌}
use Rattle.std.specs.Prelude.{slice_get}
use Rattle.std.proofs.lemmas.Result.{IfOk-weaker}
use Rattle.pli_world.specs.World.{World}
use Rattle.pli_program.specs.Program.{GlobalCode, OwnVariable, ExternalVariable, EntryPoint, UnitCode}
use Rattle.pli_machine_step.specs.Machine.{Frame, called_entry, called_unit}
use Rattle.pli_code.specs.Modules.{unit_of, program_of}
use Rattle.pli_code.specs.views.CodeView.{member_view}
use Rattle.pli_machine_activations.specs.views.ImageView.{image_of}
use Rattle.pli_machine_activations.specs.views.MachineView.{frame_view, frames_of, world_of, left_of, leads}
use Rattle.pli_machine_activations.specs.views.TableView.{entry_at}
use Rattle.pli_machine_activations.proofs.external.call_entry.Goals as goal

-- a call of an entry calls its unit
entry_called : (units : List UnitCode) (arguments number : ℕ) (o : Option GlobalCode) (here : Frame)
    (frames : List Frame) (w : World) → entry_at o ≡ Some number
    → called_entry units arguments o here frames w
    ≡ called_unit number (slice_get units number) arguments here frames w
entry_called units arguments number None here frames w is =
    let none : None ≡ Some number = is in
    cc
entry_called units arguments number (Some (OwnVariable kind v)) here frames w is =
    let none : None ≡ Some number = is in
    cc
entry_called units arguments number (Some (ExternalVariable name kind v)) here frames w is =
    let none : None ≡ Some number = is in
    cc
entry_called units arguments number (Some (EntryPoint unit)) here frames w is =
    let some : Some unit ≡ Some number = is in
    let same : unit ≡ number = cc in
    ap (λ n. called_unit n (slice_get units n) arguments here frames w) same

pub returns-in-Some : goal.returns-in-Some
returns-in-Some c =
    let m = c.args.machine.now in
    let u = c.args.unit.now in
    let image = image_of u.loaded.now in
    let there = rw c.in-Some.is at c.entry_at.ensures in
    IfOk-weaker c.call_unit.result _ _
    (λ stop moves put.
    ap (λ move. leads move (left_of m))
    (entry_called (program_of image.linked).units c.args.arguments c.in-Some.number
    (slice_get (unit_of (member_view u.linked.now)).globals c.args.global) (frame_view m.here)
    (frames_of m.waiting.items) (world_of image m put) there)
    ∙ moves image put)
    c.call_unit.ensures
