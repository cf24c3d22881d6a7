use Rattle.std.proofs.Common.{◌≡◌, ℕ, List, ap, ◌∙◌, refl}
use Rattle.pli_machine_step.specs.Machine.{Operand, Frame, Goes, At, put, with_operands}
use Rattle.pli_world.specs.World.{World, printed}
use Rattle.pli_value.specs.Conversions.{bit_constant}
use Rattle.pli_machine_operate.specs.views.OperandView.{stack}
use Rattle.pli_machine_activations.specs.declared.machine.Machine.{Machine}
use Rattle.pli_machine_activations.specs.views.Image.{Image}
use Rattle.pli_machine_activations.specs.views.MachineView.{Running, leads, world_of, frame_view, frames_of, left_of}
use Rattle.pli_machine_perform.proofs.WorldLemmas.{item_printed}
use Rattle.pli_machine_perform.proofs.printing.put.Goals as goal

-- the item of these characters was taken and printed
item_put : (text given : List ℕ) (m : Machine) (image : Image) (out : List ℕ) (all ops : List Operand)
    (here : Frame) (frames : List Frame) (w : World) (left : ℕ)
    → stack m.here.operands.items ≡ all
    → put all (frame_view m.here) (frames_of m.waiting.items) (world_of image m out)
    ≡ Goes (with_operands ops (frame_view m.here)) (frames_of m.waiting.items)
    (printed text (world_of image m out))
    → here ≡ with_operands ops (frame_view m.here) → frames ≡ frames_of m.waiting.items
    → w ≡ printed given (world_of image m out) → given ≡ text → left ≡ left_of m
    → leads (put (stack m.here.operands.items) (frame_view m.here) (frames_of m.waiting.items)
    (world_of image m out)) (left_of m) ≡ Running (At here frames w left)
item_put text given m image out all ops here frames w left item puts h f p same l =
    item_printed text (stack m.here.operands.items) ops (frame_view m.here) here (frames_of m.waiting.items)
    frames (world_of image m out) w (left_of m) left
    (ap (λ all. put all (frame_view m.here) (frames_of m.waiting.items) (world_of image m out)) item ∙ puts) h
    f (p ∙ ap (λ t. printed t (world_of image m out)) same) l

pub returns-in_ok-print-in-Some-Characters : goal.returns-in_ok-print-in-Some-Characters
returns-in_ok-print-in-Some-Characters c = λ u image out.
    let item = rw (c.in-Some-Characters.is, c.in-Some-Characters.field-0-is) at c.in_ok-text.ensures in
    let says = c.in_ok-print-in-Some-Characters.ensures in
    item_put c.in-Some-Characters.text.items _ c.args.machine.now image out _
    (stack c.pop_value.new.operands.items) _ _ _ _
    item refl says.here says.waiting (says.prints image out) c.deref.ensures.value says.left

pub returns-in_ok-print-in-Some-Bits : goal.returns-in_ok-print-in-Some-Bits
returns-in_ok-print-in-Some-Bits c = λ u image out.
    let item = rw (c.in-Some-Bits.is, c.in-Some-Bits.field-0-is) at c.in_ok-text.ensures in
    let says = c.in_ok-print-in-Some-Bits.ensures in
    item_put (bit_constant c.in-Some-Bits.bits) _ c.args.machine.now image out _
    (stack c.pop_value.new.operands.items) _ _ _ _
    item refl says.here says.waiting (says.prints image out) (c.deref-in-Some-Bits.ensures.value
    ∙ c.in_ok-text-in-Some-Bits.ensures) says.left
