-- Worked examples: BASED variables that are allocated and freed, and pointers of ADDR.
use Rattle.std.specs.Prelude.{◌≡◌, pos, Some, [], ◌∷◌}
use Rattle.pli_run.specs.declared.ending.RunError.TheVariants.{NullLocator, DeadLocator, DescriptionMismatch}
use Rattle.pli_map.specs.Description.{Description, FixedBinary, Structure, NoMembers, MemberThen}
use Rattle.pli_value.specs.Value.{Number}
use Rattle.pli_value.specs.declared.locator.Locator.{Locator}
use Rattle.pli_value.specs.declared.locator.Locator.TheVariants.{Null, Pointer, Offset}
use Rattle.pli_world.specs.Stacks.{newest}
use Rattle.pli_world.specs.Storage.{Automatic, Place, whole, field_of}
use Rattle.pli_world.specs.World.{World, nothing, Answer, Wrong, further, made_of, held}
use Rattle.pli_world.specs.examples.StorageExamples.{result_of, error_of}
use Rattle.pli_stacks.specs.examples.StackExamples.{number, beginning, with_two}
use Rattle.pli_world.specs.Locating.{based, based_allocated, based_freed, addressed}

-- ---- BASED variables

-- one is allocated, and then
abbrev pub with_allocated : {A : Type 0} → (Locator → World → Answer A) → Answer A
with_allocated go = further (based_allocated (beginning 3) nothing) go

-- its place is the whole of the new generation, which begins as it should
abbrev pub AllocatedBegins : Type 0
AllocatedBegins =
    (result_of (with_allocated (based number)) ≡ Some (whole 0 number))
    × (result_of (with_allocated (λ l w. further (based number l w) held)) ≡ Some (Number (pos 3)))

-- it is freed and another allocated: that has the next number, and the old pointer stays dead
abbrev pub AllocatedAgain : Type 0
AllocatedAgain =
    (result_of (with_allocated (λ l w. further (based_freed number l w)
    (λ _ w. based_allocated (beginning 4) w))) ≡ Some (Pointer 1 0))
    × (error_of (with_allocated (λ l w. further (based_freed number l w)
    (λ _ w. further (based_allocated (beginning 4) w) (λ _ w. based number l w)))) ≡ Some DeadLocator)

-- what was freed is not freed again
abbrev pub FreedTwice : Type 0
FreedTwice =
    error_of (with_allocated (λ l w. further (based_freed number l w) (λ _ w. based_freed number l w)))
    ≡ Some DeadLocator

-- null leads nowhere, also in a FREE
abbrev pub NullIsRefused : Type 0
NullIsRefused =
    (error_of (with_allocated (λ l w. based number Null w)) ≡ Some NullLocator)
    × (error_of (with_allocated (λ l w. based_freed number Null w)) ≡ Some NullLocator)

-- what lives has one whole description, and no part of it or description of the same size is asked for
abbrev pub OtherIsRefused : Type 0
OtherIsRefused =
    (error_of (with_allocated (based (FixedBinary 14))) ≡ Some DescriptionMismatch)
    × (error_of (with_allocated (based (Structure (MemberThen number NoMembers)))) ≡ Some DescriptionMismatch)
    × (error_of (with_allocated (based_freed (FixedBinary 14))) ≡ Some DescriptionMismatch)

-- what has ended is dead before its description is asked for
abbrev pub DeadBeforeOther : Type 0
DeadBeforeOther =
    error_of (with_allocated (λ l w. further (based_freed number l w) (λ _ w. based (FixedBinary 14) l w)))
    ≡ Some DeadLocator

-- nothing lives after the beginning of a generation that is no area
abbrev pub InsideIsDead : Type 0
InsideIsDead = error_of (with_allocated (λ l w. based number (Pointer 0 8) w)) ≡ Some DeadLocator

-- an offset leads nowhere without its area, null or not
abbrev pub OffsetAlone : Type 0
OffsetAlone =
    (with_allocated (λ l w. based number (Offset 8) w) ≡ Wrong)
    × (with_allocated (λ l w. based_freed number (Offset 0) w) ≡ Wrong)

-- ---- ADDR

-- a structure of two numbers
abbrev pub pair : Description
pair = Structure (MemberThen number (MemberThen number NoMembers))

-- an AUTOMATIC variable of it is made, and then
abbrev pub with_pair : {A : Type 0} → (Place → World → Answer A) → Answer A
with_pair go = further (made_of pair Automatic (Number (pos 5) ∷ Number (pos 6) ∷ []) nothing) go

-- a BASED variable of the same description stands where ADDR of the other leads
abbrev pub AddressLeads : Type 0
AddressLeads =
    (result_of (with_pair addressed) ≡ Some (Pointer 0 0))
    × (result_of (with_pair (λ p w. further (addressed p w) (λ l w. further (based pair l w)
    (λ q w. held (field_of 2 number q) w)))) ≡ Some (Number (pos 6)))

-- but it is not freed: no ALLOCATE of a BASED variable has made it
abbrev pub AddressIsNotFreed : Type 0
AddressIsNotFreed =
    error_of (with_pair (λ p w. further (addressed p w) (λ l w. based_freed pair l w)))
    ≡ Some DescriptionMismatch

-- ADDR of a BASED variable is its pointer
abbrev pub AddressOfBased : Type 0
AddressOfBased =
    result_of (with_allocated (λ l w. further (based number l w) (λ p w. addressed p w)))
    ≡ Some (Pointer 0 0)

-- there is none of a part; what has ended is dead, also for a part of it
abbrev pub AddressOfPart : Type 0
AddressOfPart =
    (with_pair (λ p w. addressed (field_of 0 number p) w) ≡ Wrong)
    × (error_of (with_allocated (λ l w. further (based number l w)
    (λ p w. further (based_freed number l w) (λ _ w. addressed (field_of 2 number p) w)))) ≡ Some DeadLocator)

-- what ADDR of a CONTROLLED variable gives is not freed as BASED
abbrev pub ControlledIsNotFreed : Type 0
ControlledIsNotFreed =
    error_of (with_two (λ w. further (newest 0 w)
    (λ p w. further (addressed p w) (λ l w. based_freed number l w)))) ≡ Some DescriptionMismatch
