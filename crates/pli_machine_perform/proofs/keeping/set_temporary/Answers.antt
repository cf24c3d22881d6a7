use Rattle.std.proofs.Common.{refl, arith}
use Rattle.pli_machine_activations.specs.views.MachineView.{world_of, frame_view, frames_of, left_of}
use Rattle.pli_machine_operate.specs.views.OperandView.{stack}
use Rattle.pli_machine_perform.proofs.WorldLemmas.{temporary_set}
use Rattle.pli_machine_perform.proofs.keeping.set_temporary.Goals as goal

pub returns : goal.returns
returns c = λ u image put.
    let len = rw c.deref_mut-room.ensures.value at c.len.ensures in
    let kept = rw c.deref_mut-room.ensures.value at c.keep.ensures in
    rw c.deref_mut-room.ensures.value
    (temporary_set c.args.machine.now.here.room.value.temporaries.items c.keep.new.temporaries.items c.args.number c.in-Some.value
    (stack c.args.machine.now.here.operands.items) (stack c.pop_value.new.operands.items)
    (frame_view c.args.machine.now.here) (frames_of c.args.machine.now.waiting.items) (world_of image c.args.machine.now put) (left_of c.args.machine.now)
    (rw c.in-Some.is at c.in_ok-value.ensures) (omega (arith, len)) kept refl)
