-- Worked examples: CONTROLLED variables that are allocated and freed.
use Rattle.std.specs.Prelude.{◌≡◌, ℕ, pos, Some, [], ◌∷◌}
use Rattle.pli_run.specs.declared.ending.RunError.TheVariants.{DeadLocator, NoGeneration}
use Rattle.pli_map.specs.Description.{Description, FixedBinary}
use Rattle.pli_map.specs.Variables.{Variable}
use Rattle.pli_value.specs.Value.{Number}
use Rattle.pli_world.specs.Stacks.{newest, stacked, unstacked, counted}
use Rattle.pli_world.specs.World.{World, nothing, Answer, Wrong, further, held, stored, with_new_stack}
use Rattle.pli_world.specs.examples.StorageExamples.{result_of, error_of}

-- FIXED BINARY(15)
abbrev pub number : Description
number = FixedBinary 15

-- a variable of it that begins as this
abbrev pub beginning : ℕ → Variable
beginning x = record { description = number; initial = Number (pos x) ∷ [] }

-- a CONTROLLED variable of it, which has no generation
abbrev pub controlled : World
controlled = with_new_stack (beginning 1) nothing

-- it has a generation that holds 1 and a newer one that holds 2
abbrev pub with_two : {A : Type 0} → (World → Answer A) → Answer A
with_two go =
    further (stacked 0 controlled)
    (λ _ w. further (stacked 0 w)
    (λ _ w. further (newest 0 w)
    (λ p w. further (stored p (Number (pos 2)) w) (λ _ w. go w))))

-- the newest is what a reference means
abbrev pub NewestIsMeant : Type 0
NewestIsMeant =
    (result_of (with_two (λ w. further (newest 0 w) held)) ≡ Some (Number (pos 2)))
    × (result_of (with_two (counted 0)) ≡ Some 2)

-- each begins with the initial values, whatever the others hold
abbrev pub BeginsAgain : Type 0
BeginsAgain =
    result_of (with_two (λ w. further (stacked 0 w) (λ _ w. further (newest 0 w) held)))
    ≡ Some (Number (pos 1))

-- the newest is freed, and the older one is meant again; the place of the newest is dead
abbrev pub OlderIsLeft : Type 0
OlderIsLeft =
    (result_of (with_two (λ w. further (unstacked 0 w) (λ _ w. further (newest 0 w) held)))
    ≡ Some (Number (pos 1)))
    × (result_of (with_two (λ w. further (unstacked 0 w) (λ _ w. counted 0 w))) ≡ Some 1)
    × (error_of (with_two (λ w. further (newest 0 w)
    (λ p w. further (unstacked 0 w) (λ _ w. held p w)))) ≡ Some DeadLocator)

-- a place that was found before ALLOCATE keeps its generation
abbrev pub PlaceStays : Type 0
PlaceStays =
    result_of (with_two (λ w. further (newest 0 w)
    (λ p w. further (stacked 0 w) (λ _ w. held p w)))) ≡ Some (Number (pos 2))

-- where there is none it is an error to mean or to free one, and there are 0
abbrev pub NoneIsLeft : Type 0
NoneIsLeft =
    (error_of (newest 0 controlled) ≡ Some NoGeneration)
    × (error_of (unstacked 0 controlled) ≡ Some NoGeneration)
    × (result_of (counted 0 controlled) ≡ Some 0)
    × (error_of (with_two (λ w. further (unstacked 0 w) (λ _ w. further (unstacked 0 w)
    (λ _ w. unstacked 0 w)))) ≡ Some NoGeneration)

-- a stack that is not there is wrong to ask for
abbrev pub NoStack : Type 0
NoStack = (newest 0 nothing ≡ Wrong) × (stacked 0 nothing ≡ Wrong) × (counted 0 nothing ≡ Wrong)
