-- What the stacks of the program say.
use Rattle.std.specs.Prelude.{List, map}
use Rattle.pli_world.specs.World.{Stack, World}
use Rattle.pli_stacks.specs.declared.stacks.Stacks.{Stacks}
use Rattle.pli_stacks.specs.views.StackView.{stack_view}

-- all stacks
abbrev pub stacks_view : Stacks → List Stack
stacks_view s = map stack_view s.stacks.items

-- the world with these stacks
abbrev pub with_stacks : Stacks → World → World
with_stacks s w = record w { stacks = stacks_view s }
