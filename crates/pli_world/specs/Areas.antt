-- Areas as storage (X3.53): what ALLOCATE of a BASED variable makes within an area, and areas that are
-- emptied and assigned; pointers as offsets and back. Where blocks stand, which holes are left, and where the
-- next block fits is as plain areas have it (own).
use Rattle.std.specs.Prelude.{ℕ, nat_eq, nat_le, nat_lt, Bool, ◌&&◌, Option, Some, None, List, [], ◌∷◌, map}
use Rattle.std.specs.Prelude.{replicate, if◌then◌else◌}
use Rattle.pli_area.specs.Placing as area
use Rattle.pli_run.specs.declared.ending.RunError.TheVariants.{OutsideArea}
use Rattle.pli_run.specs.declared.ending.RunError.TheVariants as error
use Rattle.pli_map.specs.Same.{same}
use Rattle.pli_map.specs.Scalars.{is_area, scalars_of}
use Rattle.pli_map.specs.Sizes.{size_of}
use Rattle.pli_map.specs.Values.{are_held}
use Rattle.pli_map.specs.Variables.{Variable}
use Rattle.pli_value.specs.declared.locator.Locator.{Locator}
use Rattle.pli_value.specs.declared.locator.Locator.TheVariants.{Null, Pointer, Offset}
use Rattle.pli_world.specs.Storage.{Block, Generation, Place, with_blocks}
use Rattle.pli_world.specs.World.{World, Answer, Yields, Raises, Wrong, further, living, led_into}

-- ---- what is free

-- what a block takes of its area, whatever it holds
abbrev pub taken_by : Block → area.Block
taken_by b =
    record {
      position = b.position;
      description = 0;
      size = size_of b.description;
      bytes = replicate (size_of b.description) 0;
    }

-- an area by what its blocks take
abbrev pub room_in : (capacity : ℕ) → List Block → area.Blocks
room_in capacity bs = record { capacity = capacity; blocks = map taken_by bs; visited = 0 }

-- the position of one block more, of so many bytes: the least that fits
abbrev pub place_in : (capacity : ℕ) → List Block → (size : ℕ) → Option ℕ
place_in capacity bs size = area.first_fit (room_in capacity bs) size

-- where the last block ends, 0 without one
abbrev pub end_of_blocks : List Block → ℕ
end_of_blocks bs = area.extent (map taken_by bs)

-- ---- blocks by their positions

-- with a block more, at its place in the order of positions
abbrev pub with_block : List Block → Block → List Block
with_block [] b = b ∷ []
with_block (c ∷ cs) b = if nat_lt b.position c.position then b ∷ c ∷ cs else c ∷ with_block cs b

-- without the block at a position
abbrev pub without_block : List Block → (position : ℕ) → List Block
without_block [] position = []
without_block (b ∷ bs) position = if nat_eq b.position position then bs else b ∷ without_block bs position

-- ---- the area of a place

-- a place is the whole of a generation that is an area
abbrev pub is_whole_area : Generation → Place → Bool
is_whole_area g p =
    nat_eq p.position 0 && nat_eq p.offset 0 && is_area p.description && same g.description p.description

-- the area that a place is; it is wrong to ask for what is no whole area, and so for a block, where that
-- lives
unfoldable pub area_found : Place → World → Answer Generation
area_found p w =
    further (living p w)
    (λ g w. if is_whole_area g p then Yields g w else further (led_into p g w) (λ c w. Wrong))

-- its blocks changed
abbrev pub with_area : Place → (List Block → List Block) → World → World
with_area p change w = record w { storage = with_blocks w.storage p.generation change }

-- ---- ALLOCATE in an area

-- a block of a variable at a position of an area, and the pointer to it; without a position the area is full
abbrev pub put_at : Option ℕ → Place → Variable → World → Answer Locator
put_at None p v w = Raises error.Area w
put_at (Some position) p v w =
    let b : Block = record { position = position; description = v.description; values = v.initial } in
    Yields (Pointer p.generation position) (with_area p (λ bs. with_block bs b) w)

-- ALLOCATE of a BASED variable in an area: the block stands at the least position that fits. It is wrong
-- where its scalars may not hold what they should begin with
unfoldable pub allocated_in : Place → Variable → World → Answer Locator
allocated_in p v w =
    if are_held (scalars_of v.description) v.initial
    then further (area_found p w)
    (λ g w. put_at (place_in (size_of g.description) g.blocks (size_of v.description)) p v w)
    else Wrong

-- ---- whole areas

-- all blocks of an area end
unfoldable pub emptied : Place → World → Answer Unit
emptied p w = further (area_found p w) (λ g w. Yields tt (with_area p (λ bs. []) w))

-- the blocks of one area in the place of those of another, at the same positions; without room for where they
-- end the other is full. The source is looked at first
unfoldable pub assigned : (source target : Place) → World → Answer Unit
assigned source target w =
    further (area_found source w)
    (λ g w. further (area_found target w)
    (λ h w. if nat_le (end_of_blocks g.blocks) (size_of h.description)
    then Yields tt (with_area target (λ bs. g.blocks) w)
    else Raises error.Area w))

-- ---- pointers and offsets

-- a pointer leads into the area of a generation where it is one of that generation with a position above 0
abbrev pub is_within : (area generation position : ℕ) → Bool
is_within area generation position = nat_eq generation area && nat_lt 0 position

-- a pointer as an offset of an area: its position, where it leads into the area; null as null. Whether a
-- block lives there is not asked
unfoldable pub offset_in : Place → Locator → World → Answer Locator
offset_in p Null w = further (area_found p w) (λ _ w. Yields (Offset 0) w)
offset_in p (Pointer generation position) w =
    further (area_found p w)
    (λ _ w. if is_within p.generation generation position then Yields (Offset position) w
    else Raises OutsideArea w)
offset_in p (Offset position) w = Wrong

-- an offset as a pointer into an area; null as null
unfoldable pub pointer_in : Place → Locator → World → Answer Locator
pointer_in p (Offset position) w =
    further (area_found p w)
    (λ _ w. if nat_eq position 0 then Yields Null w else Yields (Pointer p.generation position) w)
pointer_in p other w = Wrong
