-- Laws of storage in areas.
use Rattle.std.specs.Prelude.{◌≡◌, ◌≢◌, ◌≤◌, ◌<◌, ◌^◌, ◌%◌, ℕ, true, Some, None, List, []}
use Rattle.pli_area.specs.Areas.{IsArea, IsLeast, IsFull}
use Rattle.pli_run.specs.declared.ending.RunError.TheVariants.{DeadLocator}
use Rattle.pli_run.specs.declared.ending.RunError.TheVariants as error
use Rattle.pli_map.specs.Description.{Description}
use Rattle.pli_map.specs.Scalars.{scalars_of}
use Rattle.pli_map.specs.Sizes.{size_of}
use Rattle.pli_map.specs.Values.{are_held}
use Rattle.pli_map.specs.Variables.{Variable}
use Rattle.pli_value.specs.Value.{Value}
use Rattle.pli_value.specs.declared.locator.Locator.{Locator}
use Rattle.pli_value.specs.declared.locator.Locator.TheVariants.{Pointer}
use Rattle.pli_world.specs.Areas.{room_in, place_in, end_of_blocks, with_block, without_block}
use Rattle.pli_world.specs.Areas.{area_found, allocated_in, emptied, assigned, offset_in, pointer_in}
use Rattle.pli_world.specs.Storage.{Block, Generation, Place, block_at, generation_in, with_block_values}
use Rattle.pli_world.specs.Storage.{with_blocks}
use Rattle.pli_world.specs.World.{World, Answer, Yields, Raises, Wrong}
use Rattle.pli_world.specs.Locating.{based, based_freed}
use Rattle.pli_stacks.specs.laws.Operations.{ChangesStorage, IfYields}

-- ---- what stays

-- ALLOCATE in an area changes storage alone, and nothing where it is refused
abbrev pub AllocatingStays : Type 0
AllocatingStays = (p : Place) (v : Variable) → ChangesStorage (allocated_in p v)

-- so does EMPTY
abbrev pub EmptyingStays : Type 0
EmptyingStays = (p : Place) → ChangesStorage (emptied p)

-- so does an assignment
abbrev pub AssigningStays : Type 0
AssigningStays = (source target : Place) → ChangesStorage (assigned source target)

-- so does a pointer taken as an offset
abbrev pub OffsetStays : Type 0
OffsetStays = (p : Place) (l : Locator) → ChangesStorage (offset_in p l)

-- and an offset as a pointer
abbrev pub PointerStays : Type 0
PointerStays = (p : Place) (l : Locator) → ChangesStorage (pointer_in p l)

-- ---- where blocks stand

-- ALLOCATE takes the least position that an area allows, and the area is full exactly where it allows none
abbrev pub TakesLeast : (capacity : ℕ) → List Block → (generation size : ℕ) → Answer Locator → Type 0
TakesLeast capacity bs generation size (Yields l w) =
    (position : ℕ) × (l ≡ Pointer generation position) × IsLeast (room_in capacity bs) size position
TakesLeast capacity bs generation size (Raises e w) = (e ≡ error.Area) × IsFull (room_in capacity bs) size
TakesLeast capacity bs generation size Wrong = ⊥

-- so it is wherever the area was found, and its blocks stand apart
abbrev pub LeastIsTaken : Type 0
LeastIsTaken =
    (p : Place) (v : Variable) (w : World) (g : Generation)
    → area_found p w ≡ Yields g w → IsArea (room_in (size_of g.description) g.blocks)
    → are_held (scalars_of v.description) v.initial ≡ true
    → TakesLeast (size_of g.description) g.blocks p.generation (size_of v.description) (allocated_in p v w)

-- no two blocks of an area meet, and none passes its capacity: so it is without blocks
abbrev pub BeginsApart : Type 0
BeginsApart = (capacity : ℕ) → capacity % 8 ≡ 0 → capacity < 2 ^ 32 → IsArea (room_in capacity [])

-- so it stays after ALLOCATE
abbrev pub AllocatedApart : Type 0
AllocatedApart =
    (capacity : ℕ) (bs : List Block) (d : Description) (vs : List Value) (position : ℕ)
    → IsArea (room_in capacity bs) → place_in capacity bs (size_of d) ≡ Some position
    → IsArea (room_in capacity (with_block bs (record { position = position; description = d; values = vs })))

-- after FREE
abbrev pub FreedApart : Type 0
FreedApart =
    (capacity : ℕ) (bs : List Block) (position : ℕ) → IsArea (room_in capacity bs)
    → IsArea (room_in capacity (without_block bs position))

-- and after an assignment
abbrev pub AssignedApart : Type 0
AssignedApart =
    (source target : ℕ) (bs cs : List Block) → IsArea (room_in source bs) → IsArea (room_in target cs)
    → end_of_blocks bs ≤ target → IsArea (room_in target bs)

-- ---- what lives beside

-- a block that is placed, taken away or put into leaves those at other positions as they are
abbrev pub OtherBlocksStay : Type 0
OtherBlocksStay =
    (bs : List Block) (b : Block) (vs : List Value) (other : ℕ) → other ≢ b.position
    → (block_at (with_block bs b) other ≡ block_at bs other)
    × (block_at (without_block bs b.position) other ≡ block_at bs other)
    × (block_at (with_block_values bs b.position vs) other ≡ block_at bs other)

-- other blocks of one area leave other generations as they are
abbrev pub OtherAreasStay : Type 0
OtherAreasStay =
    (gs : List Generation) (generation other : ℕ) (change : List Block → List Block) → other ≢ generation
    → generation_in (with_blocks gs generation change) other ≡ generation_in gs other

-- a block that FREE has freed is dead, whatever is asked for
abbrev pub FreedBlockIsDead : Type 0
FreedBlockIsDead =
    (d e : Description) (generation position : ℕ) (w : World) (g : Generation)
    → position ≢ 0 → generation_in w.storage generation ≡ Some g
    → IsArea (room_in (size_of g.description) g.blocks)
    → IfYields (based_freed d (Pointer generation position) w)
    (λ _ u. based e (Pointer generation position) u ≡ Raises DeadLocator u)

-- with its generation an area's blocks have ended
abbrev pub EndsWithGeneration : Type 0
EndsWithGeneration =
    (d : Description) (generation position : ℕ) (w : World) → generation_in w.storage generation ≡ None
    → based d (Pointer generation position) w ≡ Raises DeadLocator w

-- what are the blocks of a generation
abbrev pub BlocksAre : (generation : ℕ) → List Block → World → Type 0
BlocksAre generation bs w =
    (g : Generation) → generation_in w.storage generation ≡ Some g → g.blocks ≡ bs

-- after an assignment the same blocks stand at the same positions of both areas, so an offset leads to the
-- same in each
abbrev pub OffsetsKeepTheirMeaning : Type 0
OffsetsKeepTheirMeaning =
    (source target : Place) (w : World) (g : Generation) → generation_in w.storage source.generation ≡ Some g
    → IfYields (assigned source target w) (λ _ u. BlocksAre target.generation g.blocks u)
