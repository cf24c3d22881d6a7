use Rattle.std.proofs.Common.{◌≡◌, ℕ, false, Option, Some, List, sym, ap, ◌∙◌, arith}
use Rattle.pli_machine_step.specs.Machine.{link_of}
use Rattle.pli_world.specs.Activations.{nearest_of, is_of}
use Rattle.pli_machine_activations.specs.declared.machine.Machine.{Machine}
use Rattle.pli_machine_activations.specs.views.Image.{Image}
use Rattle.pli_machine_activations.specs.views.MachineView.{activation_view, activations_of, world_of}
use Rattle.pli_machine_activations.proofs.EnteredBlocks.{near_here, near_outward}
use Rattle.pli_machine_activations.proofs.SlotPlaces.{how_many}
use Rattle.pli_machine_activations.proofs.calling.link_of.Goals as goal

-- the link of a block that is within another one than the newest activation's
linked_outward : (m : Machine) (image : Image) (put : List ℕ) (p : Option ℕ) (parent : ℕ) → p ≡ Some parent
    → is_of m.here.unit parent (activation_view m.here) ≡ false
    → link_of m.here.unit p (world_of image m put)
    ≡ nearest_of m.here.unit parent (activations_of m.waiting.items) m.here.link
linked_outward m image put p parent is other =
    ap (λ p. link_of m.here.unit p (world_of image m put)) is
    ∙ near_outward image m put m.here.unit parent other

pub returns-then-is_of : goal.returns-then-is_of
returns-then-is_of c = λ image put.
    let m = c.args.machine.now in
    ap (λ p. link_of m.here.unit p (world_of image m put)) c.in-Some.is
    ∙ near_here image m put m.here.unit c.in-Some.parent (sym c.is_of.ensures ∙ c.if-is_of.true)
    ∙ ap Some (omega (arith, c.len.ensures, how_many m.waiting.items))

pub returns-in-Some-nearest : goal.returns-in-Some-nearest
returns-in-Some-nearest c = λ image put.
    let found = rw (c.deref.ensures.value, c.in-Some-nearest.is) at c.nearest.ensures.found in
    linked_outward c.args.machine.now image put c.args.parent c.in-Some.parent c.in-Some.is
    (sym c.is_of.ensures ∙ c.if-is_of.false)
    ∙ found ∙ ap Some (omega arith)

pub returns-in-None-nearest : goal.returns-in-None-nearest
returns-in-None-nearest c = λ image put.
    let found = rw (c.deref.ensures.value, c.in-None-nearest.is) at c.nearest.ensures.found in
    linked_outward c.args.machine.now image put c.args.parent c.in-Some.parent c.in-Some.is
    (sym c.is_of.ensures ∙ c.if-is_of.false)
    ∙ found
