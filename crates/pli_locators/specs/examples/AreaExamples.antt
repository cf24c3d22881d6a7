-- Worked examples: blocks that are allocated and freed in areas, places that outlive them, areas that are
-- full, emptied and assigned, and offsets.
use Rattle.std.specs.Prelude.{◌≡◌, pos, Some, [], ◌∷◌}
use Rattle.pli_run.specs.declared.ending.RunError.TheVariants.{NullLocator, DeadLocator, DescriptionMismatch}
use Rattle.pli_run.specs.declared.ending.RunError.TheVariants.{OutsideArea}
use Rattle.pli_run.specs.declared.ending.RunError.TheVariants as error
use Rattle.pli_map.specs.Description.{Description, Area}
use Rattle.pli_map.specs.Variables.{Variable}
use Rattle.pli_value.specs.Value.{Value, Number}
use Rattle.pli_value.specs.declared.locator.Locator.{Locator}
use Rattle.pli_value.specs.declared.locator.Locator.TheVariants.{Null, Pointer, Offset}
use Rattle.pli_world.specs.Areas.{allocated_in, emptied, assigned, offset_in, pointer_in}
use Rattle.pli_world.specs.Storage.{Automatic, Place, field_of}
use Rattle.pli_world.specs.World.{World, nothing, Answer, Yields, Wrong, further, made_of, held, stored}
use Rattle.pli_world.specs.World.{copied}
use Rattle.pli_world.specs.examples.StorageExamples.{result_of, error_of}
use Rattle.pli_stacks.specs.examples.StackExamples.{beginning, number}
use Rattle.pli_world.specs.Locating.{addressed, based, ended, based_freed}
use Rattle.pli_locators.specs.examples.LocatorExamples.{pair}

-- a variable of two numbers
abbrev pub two : Variable
two = record { description = pair; initial = Number (pos 5) ∷ Number (pos 6) ∷ [] }

-- an area of 64 bytes is made and one of 32, and then
abbrev pub with_areas : {A : Type 0} → (Place → Place → World → Answer A) → Answer A
with_areas go =
    further (made_of (Area 64) Automatic [] nothing)
    (λ large w. further (made_of (Area 32) Automatic [] w) (λ small w. go large small w))

-- a number is allocated in the first, of which a block takes 16 bytes, and then
abbrev pub with_block : {A : Type 0} → (Place → Place → Locator → World → Answer A) → Answer A
with_block go =
    with_areas (λ large small w. further (allocated_in large (beginning 3) w) (λ l w. go large small l w))

-- what a BASED variable of a description holds by a locator
abbrev pub value_by : Description → Locator → World → Answer Value
value_by d l w = further (based d l w) held

-- ---- ALLOCATE and references

-- its pointer is one to the area's generation and to the least position, and it begins as it should
abbrev pub BlockBegins : Type 0
BlockBegins =
    (result_of (with_block (λ large small l w. Yields l w)) ≡ Some (Pointer 0 8))
    × (result_of (with_block (λ large small l w. value_by number l w)) ≡ Some (Number (pos 3)))

-- 32 bytes hold two such blocks, and no third: the area is full
abbrev pub ThirdFindsNoRoom : Type 0
ThirdFindsNoRoom =
    (result_of (with_areas (λ large small w. further (allocated_in small (beginning 1) w)
    (λ _ w. allocated_in small (beginning 2) w))) ≡ Some (Pointer 1 24))
    × (error_of (with_areas (λ large small w. further (allocated_in small (beginning 1) w)
    (λ _ w. further (allocated_in small (beginning 2) w)
    (λ _ w. allocated_in small (beginning 3) w)))) ≡ Some error.Area)

-- where the first of them is freed, the third takes its position
abbrev pub HoleIsTaken : Type 0
HoleIsTaken =
    result_of (with_areas (λ large small w. further (allocated_in small (beginning 1) w)
    (λ l w. further (allocated_in small (beginning 2) w)
    (λ _ w. further (based_freed number l w) (λ _ w. allocated_in small (beginning 3) w)))))
    ≡ Some (Pointer 1 8)

-- null leads nowhere; what lives has one whole description; nothing lives at another position, nor in an area
-- without blocks
abbrev pub OrderOfErrors : Type 0
OrderOfErrors =
    (error_of (with_block (λ large small l w. based number Null w)) ≡ Some NullLocator)
    × (error_of (with_block (λ large small l w. based pair l w)) ≡ Some DescriptionMismatch)
    × (error_of (with_block (λ large small l w. based number (Pointer 0 16) w)) ≡ Some DeadLocator)
    × (error_of (with_block (λ large small l w. based pair (Pointer 1 8) w)) ≡ Some DeadLocator)
    × (with_block (λ large small l w. based number (Offset 8) w) ≡ Wrong)

-- outside areas locators lead where they led: the area itself is a variable of its own description
abbrev pub OutsideAsBefore : Type 0
OutsideAsBefore =
    (error_of (with_block (λ large small l w. based number (Pointer 0 0) w)) ≡ Some DescriptionMismatch)
    × (error_of (with_block (λ large small l w. based number (Pointer 7 0) w)) ≡ Some DeadLocator)

-- ---- ends of blocks

-- what was freed is dead, before its description is asked for, and is not freed again
abbrev pub FreedBlockIsDead : Type 0
FreedBlockIsDead =
    (error_of (with_block (λ large small l w. further (based_freed number l w) (λ _ w. based pair l w)))
    ≡ Some DeadLocator)
    × (error_of (with_block (λ large small l w. further (based_freed number l w)
    (λ _ w. based_freed number l w)))
    ≡ Some DeadLocator)

-- a place that was found before is dead then; where an equal block has taken the position it serves that, and
-- where another has, that is another variable's
abbrev pub PlaceIsTestedAtUse : Type 0
PlaceIsTestedAtUse =
    (error_of (with_block (λ large small l w. further (based number l w)
    (λ p w. further (based_freed number l w) (λ _ w. held p w)))) ≡ Some DeadLocator)
    × (result_of (with_block (λ large small l w. further (based number l w)
    (λ p w. further (based_freed number l w) (λ _ w. further (allocated_in large (beginning 9) w)
    (λ _ w. held p w))))) ≡ Some (Number (pos 9)))
    × (error_of (with_block (λ large small l w. further (based number l w)
    (λ p w. further (based_freed number l w) (λ _ w. further (allocated_in large two w)
    (λ _ w. held p w))))) ≡ Some DescriptionMismatch)

-- with its generation all blocks of an area end
abbrev pub AreaEnds : Type 0
AreaEnds =
    error_of (with_block (λ large small l w. value_by number l (ended large w))) ≡ Some DeadLocator

-- ---- values

-- what is put into one block is held there, and others stay
abbrev pub BlocksStay : Type 0
BlocksStay =
    (result_of (with_block (λ large small l w. further (allocated_in large two w)
    (λ _ w. further (based number l w) (λ p w. further (stored p (Number (pos 8)) w)
    (λ _ w. value_by number l w))))) ≡ Some (Number (pos 8)))
    × (result_of (with_block (λ large small l w. further (allocated_in large (beginning 4) w)
    (λ m w. further (based number l w) (λ p w. further (stored p (Number (pos 8)) w)
    (λ _ w. value_by number m w))))) ≡ Some (Number (pos 4)))

-- a whole block is copied out of an area, part by part
abbrev pub BlockIsCopied : Type 0
BlockIsCopied =
    result_of (with_areas (λ large small w. further (allocated_in large two w)
    (λ l w. further (based pair l w)
    (λ p w. further (made_of pair Automatic (Number (pos 0) ∷ Number (pos 0) ∷ []) w)
    (λ q w. further (copied p q w) (λ _ w. held (field_of 2 number q) w)))))) ≡ Some (Number (pos 6))

-- ADDR of what lies in a block is the pointer to it
abbrev pub AddressOfBlock : Type 0
AddressOfBlock =
    result_of (with_block (λ large small l w. further (based number l w) (λ p w. addressed p w)))
    ≡ Some (Pointer 0 8)

-- ---- whole areas

-- an empty area has no blocks, and room for as many as it had
abbrev pub EmptyHasRoom : Type 0
EmptyHasRoom =
    (error_of (with_block (λ large small l w. further (emptied large w) (λ _ w. value_by number l w)))
    ≡ Some DeadLocator)
    × (result_of (with_block (λ large small l w. further (emptied large w)
    (λ _ w. allocated_in large two w))) ≡ Some (Pointer 0 8))

-- the blocks of the area of 64 bytes, which end at 24, have room in that of 32, and an offset leads to the
-- same block in both; with three blocks they have none
abbrev pub OffsetsLead : Type 0
OffsetsLead =
    (result_of (with_block (λ large small l w. further (assigned large small w)
    (λ _ w. further (offset_in large l w) (λ o w. further (pointer_in small o w)
    (λ q w. value_by number q w))))) ≡ Some (Number (pos 3)))
    × (error_of (with_block (λ large small l w. further (allocated_in large two w)
    (λ _ w. further (allocated_in large two w) (λ _ w. assigned large small w)))) ≡ Some error.Area)

-- an area assigned to itself stays as it is
abbrev pub ItselfStays : Type 0
ItselfStays =
    result_of (with_block (λ large small l w. further (assigned large large w) (λ _ w. value_by number l w)))
    ≡ Some (Number (pos 3))

-- ---- offsets

-- null is null both ways; a pointer into the area is its position, and no other is one
abbrev pub PointersAsOffsets : Type 0
PointersAsOffsets =
    (result_of (with_block (λ large small l w. offset_in large l w)) ≡ Some (Offset 8))
    × (result_of (with_block (λ large small l w. offset_in large Null w)) ≡ Some (Offset 0))
    × (result_of (with_block (λ large small l w. pointer_in large (Offset 0) w)) ≡ Some Null)
    × (error_of (with_block (λ large small l w. offset_in small l w)) ≡ Some OutsideArea)
    × (error_of (with_block (λ large small l w. offset_in large (Pointer 0 0) w)) ≡ Some OutsideArea)
    × (error_of (with_block (λ large small l w. offset_in large Null (ended large w))) ≡ Some DeadLocator)

-- ---- places in blocks

-- a place in a block is that of no area: it is wrong to ask for one where the block lives; else the place is
-- dead, or another variable's
abbrev pub NoAreaInBlock : Type 0
NoAreaInBlock =
    (with_block (λ large small l w. further (based number l w) (λ p w. offset_in p Null w)) ≡ Wrong)
    × (error_of (with_block (λ large small l w. further (based number l w)
    (λ p w. further (based_freed number l w) (λ _ w. offset_in p Null w)))) ≡ Some DeadLocator)
    × (error_of (with_block (λ large small l w. further (based number l w)
    (λ p w. further (based_freed number l w) (λ _ w. further (allocated_in large two w)
    (λ _ w. emptied p w))))) ≡ Some DescriptionMismatch)
