use Rattle.std.proofs.Common.{[], ◌∷◌, map, ap, ◌∙◌}
use Rattle.pli_world.specs.World.{begun_in}
use Rattle.pli_store.specs.views.StorageView.{place_view}
use Rattle.pli_machine_activations.specs.answers.Handing.{with_pending}
use Rattle.pli_machine_activations.specs.views.MachineView.{activation_view, activations_of, frame_view, frames_of, world_of}
use Rattle.pli_machine_activations.proofs.entering.begin_block.Goals as goal

pub returns : goal.returns
returns c = λ image put pending handed.
    let m = c.args.machine.now in
    let same = c.reserve_one.ensures.items in
    let begun = (rw c.deref_mut.ensures.value at c.begin_ready.ensures) image put pending handed in
    record {
      here = begun.here;
      frames = begun.frames ∙ ap (λ xs. record (frame_view m.here) { again = c.args.again } ∷ frames_of xs) same;
      world =
          begun.world
          ∙ ap
          (λ xs.
          begun_in (record { unit = c.args.unit; block = c.args.number; statement = c.args.block.now.statement; variables = [] }) c.args.link (map place_view c.args.lists.slots.items)
          (with_pending pending (record (world_of image m put) { activations = activation_view m.here ∷ activations_of xs })))
          same;
      left = begun.left;
    }
