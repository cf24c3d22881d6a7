-- Laws of storage by locators.
use Rattle.std.specs.Prelude.{◌≡◌, ◌≢◌, ℕ, suc}
use Rattle.pli_run.specs.declared.ending.RunError.TheVariants.{DeadLocator}
use Rattle.pli_map.specs.Description.{Description}
use Rattle.pli_map.specs.Variables.{Variable}
use Rattle.pli_value.specs.declared.locator.Locator.{Locator}
use Rattle.pli_value.specs.declared.locator.Locator.TheVariants.{Pointer}
use Rattle.pli_world.specs.Storage.{Place, generation_in}
use Rattle.pli_world.specs.World.{World, Raises}
use Rattle.pli_stacks.specs.laws.Operations.{ChangesStorage, IfYields, HasEnded, StaysEnded, LivingStays}
use Rattle.pli_world.specs.Locating.{located, based, based_allocated, based_freed, addressed}

-- ---- what stays

-- finding what a locator leads to changes storage alone
abbrev pub LocatingStays : Type 0
LocatingStays = (d : Description) (l : Locator) → ChangesStorage (located d l)

-- so is a reference to a BASED variable
abbrev pub BasedStays : Type 0
BasedStays = (d : Description) (l : Locator) → ChangesStorage (based d l)

-- so is ALLOCATE of one
abbrev pub AllocatingStays : Type 0
AllocatingStays = (v : Variable) → ChangesStorage (based_allocated v)

-- so is FREE of one
abbrev pub FreeingStays : Type 0
FreeingStays = (d : Description) (l : Locator) → ChangesStorage (based_freed d l)

-- so is ADDR
abbrev pub AddressStays : Type 0
AddressStays = (p : Place) → ChangesStorage (addressed p)

-- ---- numbers of generations

-- ALLOCATE gives a pointer to a number that no generation had before, since numbers are counted up
abbrev pub NumberIsNew : Type 0
NumberIsNew =
    (v : Variable) (w : World)
    → IfYields (based_allocated v w) (λ l u. (l ≡ Pointer w.made 0) × (u.made ≡ suc w.made))

-- a pointer to a generation that has ended is dead, whatever is asked for
abbrev pub EndedIsDead : Type 0
EndedIsDead =
    (number position : ℕ) (d : Description) (w : World) → HasEnded number w
    → based d (Pointer number position) w ≡ Raises DeadLocator w

-- a generation that FREE has freed is dead, whatever is asked for
abbrev pub FreedIsDead : Type 0
FreedIsDead =
    (d e : Description) (number : ℕ) (w : World)
    → IfYields (based_freed d (Pointer number 0) w)
    (λ _ u. based e (Pointer number 0) u ≡ Raises DeadLocator u)

-- what has ended stays so after ALLOCATE of a BASED variable
abbrev pub EndedAfterAllocating : Type 0
EndedAfterAllocating = (v : Variable) → StaysEnded (based_allocated v)

-- after FREE of one
abbrev pub EndedAfterFreeing : Type 0
EndedAfterFreeing = (d : Description) (l : Locator) → StaysEnded (based_freed d l)

-- ---- what lives beside

-- what lives stays as it is after ALLOCATE of a BASED variable
abbrev pub BesideAllocated : Type 0
BesideAllocated = (v : Variable) → LivingStays (based_allocated v)

-- FREE of a BASED variable ends the generation of its pointer alone
abbrev pub BesideFreed : Type 0
BesideFreed =
    (d : Description) (number position other : ℕ) (w : World) → other ≢ number
    → IfYields (based_freed d (Pointer number position) w)
    (λ _ u. generation_in u.storage other ≡ generation_in w.storage other)

-- BASED variables leave stacks as they are
abbrev pub StacksBeside : Type 0
StacksBeside =
    (v : Variable) (d : Description) (l : Locator) (w : World)
    → IfYields (based_allocated v w) (λ _ u. u.stacks ≡ w.stacks)
    × IfYields (based_freed d l w) (λ _ u. u.stacks ≡ w.stacks)
