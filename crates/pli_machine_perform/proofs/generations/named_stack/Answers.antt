use Rattle.std.proofs.Common.{Option, Some, None, ℕ, ◌≡◌, ap, ◌∙◌}
use Rattle.std.specs.Prelude.{MatchOption}
use Rattle.pli_world.specs.Stacks.{stack_named}
use Rattle.pli_world.specs.World.{World, Answer, Yields, Wrong, known, static_in}
use Rattle.pli_machine_activations.specs.views.ImageView.{image_of}
use Rattle.pli_machine_activations.specs.views.MachineView.{world_of}
use Rattle.pli_machine_activations.specs.views.TableView.{stack_at}
use Rattle.pli_machine_activations.proofs.SlotPlaces.{named_stack}
use Rattle.pli_machine_perform.proofs.generations.named_stack.Goals as goal

-- what is known is there, or it is wrong
known_cases : (o : Option ℕ) (w : World) (a : Answer ℕ) → a ≡ known o w → MatchOption o (a ≡ Wrong) (λ x. a ≡ Yields x w)
known_cases None w a is = is
known_cases (Some x) w a is = is

pub returns : goal.returns
returns c = λ put.
    let image = image_of c.args.unit.now.loaded.now in
    let m = c.args._machine.now in
    let w = world_of image m put in
    known_cases c.static_stack.result w (stack_named c.args.global w)
    (named_stack image m put c.args.global c.static_stack.result
    (ap (λ n. stack_at (static_in image.statics n c.args.global)) c.requires ∙ c.static_stack.ensures))
