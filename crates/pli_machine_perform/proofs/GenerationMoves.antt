-- What instructions do to the generations of CONTROLLED variables.
use Rattle.std.proofs.Common.{◌≡◌, ℕ, pos, List, ap, ◌∙◌}
use Rattle.pli_value.specs.Value.{Number}
use Rattle.pli_world.specs.Stacks.{stack_named, stacked, unstacked, counted, generation_stacked, generation_unstacked, generations_counted}
use Rattle.pli_world.specs.World.{World, Yields, Wrong, further}
use Rattle.pli_stacks.specs.declared.stacks.Stacks.{Stacks}
use Rattle.pli_stacks.specs.views.StacksView.{stacks_view}
use Rattle.pli_store.specs.declared.storage.Storage.{Storage}
use Rattle.pli_store.specs.views.StorageView.{SameStorage, made_count}
use Rattle.pli_machine_step.specs.Machine.{At}
use Rattle.pli_machine_activations.specs.declared.machine.Machine.{Machine}
use Rattle.pli_machine_activations.specs.views.Image.{Image}
use Rattle.pli_machine_activations.specs.views.MachineView.{frame_view, frames_of, left_of, state_of, world_of}

-- a variable whose stack is known
module _ (number stack : ℕ) (w : World) (named : stack_named number w ≡ Yields stack w) where
  pub stacked_by_name : generation_stacked number w ≡ stacked stack w
  unfolding generation_stacked
  stacked_by_name = ap (λ a. further a stacked) named

  pub unstacked_by_name : generation_unstacked number w ≡ unstacked stack w
  unfolding generation_unstacked
  unstacked_by_name = ap (λ a. further a unstacked) named

  pub counted_by_name : generations_counted number w ≡ further (counted stack w) (λ count w. Yields (Number (pos count)) w)
  unfolding generations_counted
  counted_by_name = ap (λ a. further a (λ stack w. further (counted stack w) (λ count w. Yields (Number (pos count)) w))) named

-- what is no variable with a stack
module _ (number : ℕ) (w : World) (none : stack_named number w ≡ Wrong) where
  pub stacked_nowhere : generation_stacked number w ≡ Wrong
  unfolding generation_stacked
  stacked_nowhere = ap (λ a. further a stacked) none

  pub unstacked_nowhere : generation_unstacked number w ≡ Wrong
  unfolding generation_unstacked
  unstacked_nowhere = ap (λ a. further a unstacked) none

  pub counted_nowhere : generations_counted number w ≡ Wrong
  unfolding generations_counted
  counted_nowhere = ap (λ a. further a (λ stack w. further (counted stack w) (λ count w. Yields (Number (pos count)) w))) none

-- nothing has changed where neither storage has nor stacks
pub state_stays : (image : Image) (now : Machine) (storage : Storage) (stacks : Stacks) → SameStorage now.storage storage → stacks_view stacks ≡ stacks_view now.stacks → (put : List ℕ)
    → state_of image (record now { storage = storage; stacks = stacks }) put ≡ state_of image now put
state_stays image now storage stacks same stacked put =
    let w = world_of image now put in
    ap (λ gs. At (frame_view now.here) (frames_of now.waiting.items) (record w { storage = gs; made = made_count storage; stacks = stacks_view stacks }) (left_of now)) same.storage
    ∙ ap (λ n. At (frame_view now.here) (frames_of now.waiting.items) (record w { made = n; stacks = stacks_view stacks }) (left_of now)) same.made
    ∙ ap (λ ss. At (frame_view now.here) (frames_of now.waiting.items) (record w { stacks = ss }) (left_of now)) stacked
