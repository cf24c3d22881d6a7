-- Areas: storage of a fixed capacity in which blocks are placed and taken away (own).
use Rattle.std.specs.Prelude.{◌≡◌, ◌+◌, ◌-◌, ◌%◌, ◌^◌, ◌<◌, ◌≤◌, ◌⊎◌, ℕ, nat_eq, nat_lt}
use Rattle.std.specs.Prelude.{Option, Some, None, List, [], ◌∷◌, length, take, drop}
use Rattle.std.specs.Prelude.{if◌then◌else◌}
use Rattle.std.specs.Option.{option_map_or}
pub use Rattle.pli_holes.specs.declared.hole.Hole.{Hole}
pub use Rattle.pli_holes.specs.Holes.{hole_between, looked_at}
pub use Rattle.pli_region.specs.Words.{overwritten}
pub use Rattle.pli_area.specs.Placing.{Block, Blocks, end_from, end_of, extent, first_fit, holes, holes_from}
pub use Rattle.pli_area.specs.Placing.{rounded, start_of}

-- ---- what a block covers

-- blocks stand one after another from this place on, at multiples of 8, each with as many bytes as its
-- size says
abbrev pub Stand : (from : ℕ) → List Block → Type 0
Stand from [] = Unit {0}
Stand from (b ∷ bs) =
    (from + 8 ≤ b.position) × (b.position % 8 ≡ 0) × (length b.bytes ≡ b.size) × Stand (end_of b) bs

-- what every area keeps: no two blocks meet, and none passes the capacity, a multiple of 8 below 2^32
pub record IsArea (a : Blocks) : Type 0 where
  pub aligned : a.capacity % 8 ≡ 0
  pub small : a.capacity < 2 ^ 32
  pub stand : Stand 0 a.blocks
  pub within : extent a.blocks ≤ a.capacity

-- ---- where a block may stand

-- a block of this size at this position meets none of these
abbrev pub IsApart : (size position : ℕ) → List Block → Type 0
IsApart size position [] = Unit {0}
IsApart size position (b ∷ bs) =
    ((position + rounded size ≤ start_of b) ⊎ (end_of b ≤ position - 8)) × IsApart size position bs

-- an area allows a block of this size at this position: a multiple of 8, after a header, with all that it
-- covers below the capacity and apart from the other blocks
pub record Allows (a : Blocks) (size position : ℕ) : Type 0 where
  pub aligned : position % 8 ≡ 0
  pub header : 8 ≤ position
  pub below : position + rounded size ≤ a.capacity
  pub apart : IsApart size position a.blocks

-- first fit: the least position that the area allows
pub record IsLeast (a : Blocks) (size position : ℕ) : Type 0 where
  pub allowed : Allows a size position
  pub least : (other : ℕ) → Allows a size other → position ≤ other

-- the area is full for a block of this size: it allows none anywhere
abbrev pub IsFull : Blocks → (size : ℕ) → Type 0
IsFull a size = (position : ℕ) → Allows a size position → ⊥

-- ---- holes

-- a hole is a longest stretch that no block covers

-- how many holes are looked at for a block of this size: those up to the one that it gets, else all
abbrev pub holes_visited : Blocks → (size : ℕ) → ℕ
holes_visited a size = looked_at (8 + rounded size) (holes a)

-- ---- blocks by their positions

-- the block at a position, if one is there
abbrev pub block_at : List Block → (position : ℕ) → Option Block
block_at [] position = None
block_at (b ∷ bs) position = if nat_eq b.position position then Some b else block_at bs position

-- with a block more, at its place in the order of positions
abbrev pub with_block : List Block → Block → List Block
with_block [] b = b ∷ []
with_block (c ∷ cs) b = if nat_lt b.position c.position then b ∷ c ∷ cs else c ∷ with_block cs b

-- without the block at a position
abbrev pub without_block : List Block → (position : ℕ) → List Block
without_block [] position = []
without_block (b ∷ bs) position = if nat_eq b.position position then bs else b ∷ without_block bs position

-- with other bytes in the block at a position, from a place on
abbrev pub with_bytes : List Block → (position at : ℕ) → (new : List ℕ) → List Block
with_bytes [] position at new = []
with_bytes (b ∷ bs) position at new =
    if nat_eq b.position position
    then record b { bytes = overwritten b.bytes at new } ∷ bs
    else b ∷ with_bytes bs position at new

-- so many bytes of the block at a position, from a place on
abbrev pub bytes_at : List Block → (position at count : ℕ) → List ℕ
bytes_at bs position at count = option_map_or (λ b. take count (drop at b.bytes)) (block_at bs position) []

-- the block at a position has so many bytes from a place on
pub record HasBytes (bs : List Block) (position at count : ℕ) : Type 0 where
  pub block : Block
  pub found : block_at bs position ≡ Some block
  pub within : at + count ≤ block.size

-- ---- what an allocation adds

-- these blocks are the old ones and one more, of whose bytes nothing is said but how many they are
pub record IsAdded (old new : List Block) (position description size : ℕ) : Type 0 where
  pub bytes : List ℕ
  pub count : length bytes ≡ size
  pub blocks : new ≡ with_block old
      (record { position = position; description = description; size = size; bytes = bytes })
