-- Where blocks are placed in areas, and how far they reach (own).
use Rattle.std.specs.Prelude.{◌+◌, ◌-◌, ◌*◌, ◌/◌, ℕ, nat_le}
use Rattle.std.specs.Prelude.{Option, List, [], ◌∷◌, find}
use Rattle.std.specs.Option.{option_map}
use Rattle.pli_holes.specs.declared.hole.Hole.{Hole}
use Rattle.pli_holes.specs.Between.{hole_between}

-- a block: where its bytes begin, the number of its description, how many bytes it has, and these
pub record Block : Type 0 where
  pub position : ℕ
  pub description : ℕ
  pub size : ℕ
  pub bytes : List ℕ

-- an area: how many bytes it has, its blocks in rising positions, and how many holes its last allocation
-- looked at
pub record Blocks : Type 0 where
  pub capacity : ℕ
  pub blocks : List Block
  pub visited : ℕ

-- a size rounded up to a multiple of 8
abbrev pub rounded : (size : ℕ) → ℕ
rounded size = 8 * ((size + 7) / 8)

-- a block covers the bytes from its header, which takes the 8 bytes before its position
abbrev pub start_of : Block → ℕ
start_of b = b.position - 8

-- to its size, rounded up, after its position
abbrev pub end_of : Block → ℕ
end_of b = b.position + rounded b.size

-- where the last of these blocks ends, or this place where there is none
abbrev pub end_from : (from : ℕ) → List Block → ℕ
end_from from [] = from
end_from from (b ∷ bs) = end_from (end_of b) bs

-- the extent: where the last block ends, 0 without one
abbrev pub extent : List Block → ℕ
extent bs = end_from 0 bs

-- the holes from a place to the capacity
abbrev pub holes_from : (from capacity : ℕ) → List Block → List Hole
holes_from from capacity [] = hole_between from capacity []
holes_from from capacity (b ∷ bs) = hole_between from (start_of b) (holes_from (end_of b) capacity bs)

-- the holes of an area, in rising places
abbrev pub holes : Blocks → List Hole
holes a = holes_from 0 a.capacity a.blocks

-- the position in the first hole that is long enough for a block of this size with its header
abbrev pub first_fit : Blocks → (size : ℕ) → Option ℕ
first_fit a size = option_map (λ h. h.start + 8) (find (λ h. nat_le (8 + rounded size) h.room) (holes a))
