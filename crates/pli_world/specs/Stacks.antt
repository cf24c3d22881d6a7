-- CONTROLLED variables (X3.53): the generations of each are stacked. A stack is named by its number among
-- those of the world, and by the number of a global whose variable's stack it is.
use Rattle.std.specs.Prelude.{ℕ, nat_le, pos, List, [], ◌∷◌, length, slice_get, slice_set, if◌then◌else◌}
use Rattle.pli_run.specs.declared.ending.RunError.TheVariants.{NoGeneration, FixedOverflow}
use Rattle.pli_value.specs.Value.{Value, Number}
use Rattle.pli_world.specs.Storage.{Controlled, Place}
use Rattle.pli_world.specs.World.{Standing, Lies, Stacked, Stack, World, Answer, Yields, Raises, Wrong}
use Rattle.pli_world.specs.World.{further, known, made_of, generation_ended, newest_in, newest_unit}
use Rattle.pli_world.specs.World.{static_in}

-- by the number of a stack

-- the stack of a number
abbrev pub stack_of : (number : ℕ) → World → Answer Stack
stack_of number w = known (slice_get w.stacks number) w

-- the places of a stack changed
abbrev pub with_places : (number : ℕ) → Stack → List Place → World → World
with_places number s places w =
    record w { stacks = slice_set w.stacks number (record { variable = s.variable; places = places }) }

-- a reference: the place of the newest generation
unfoldable pub newest : (number : ℕ) → World → Answer Place
newest number w = further (stack_of number w) (λ s w. newest_in s.places w)

-- ALLOCATE: a new generation of the stack's variable, which is the newest
unfoldable pub stacked : (number : ℕ) → World → Answer Unit
stacked number w =
    further (stack_of number w)
    (λ s w. further (made_of s.variable.description Controlled s.variable.initial w)
    (λ p w. Yields tt (with_places number s (p ∷ s.places) w)))

-- the newest of these ends, and those after it are left; it is an error to ask for that where there is none
abbrev pub without_newest_of : (number : ℕ) → Stack → List Place → World → Answer Unit
without_newest_of number s [] w = Raises NoGeneration w
without_newest_of number s (p ∷ older) w =
    Yields tt (with_places number s older (generation_ended p.generation w))

-- FREE: the newest generation ends
unfoldable pub unstacked : (number : ℕ) → World → Answer Unit
unstacked number w = further (stack_of number w) (λ s w. without_newest_of number s s.places w)

-- the greatest number of FIXED BINARY(15)
abbrev pub count_limit : ℕ
count_limit = 32767

-- how many these are, if that is a number of FIXED BINARY(15)
abbrev pub counted_in : List Place → World → Answer ℕ
counted_in places w =
    if nat_le (length places) count_limit then Yields (length places) w else Raises FixedOverflow w

-- ALLOCATION: how many generations there are
unfoldable pub counted : (number : ℕ) → World → Answer ℕ
counted number w = further (stack_of number w) (λ s w. counted_in s.places w)

-- by the number of a global of the newest activation's unit

-- the stack of what stands so; it is wrong to ask for it where that lies at a place
abbrev pub stack_standing : Standing → World → Answer ℕ
stack_standing (Lies p) w = Wrong
stack_standing (Stacked number) w = Yields number w

-- the stack of a global
unfoldable pub stack_named : (number : ℕ) → World → Answer ℕ
stack_named number w =
    further (known (newest_unit w.activations) w)
    (λ unit w. further (known (static_in w.statics unit number) w) stack_standing)

-- ALLOCATE of it
unfoldable pub generation_stacked : (number : ℕ) → World → Answer Unit
generation_stacked number w = further (stack_named number w) stacked

-- FREE of it
unfoldable pub generation_unstacked : (number : ℕ) → World → Answer Unit
generation_unstacked number w = further (stack_named number w) unstacked

-- ALLOCATION of it
unfoldable pub generations_counted : (number : ℕ) → World → Answer Value
generations_counted number w =
    further (stack_named number w)
    (λ stack w. further (counted stack w) (λ count w. Yields (Number (pos count)) w))
