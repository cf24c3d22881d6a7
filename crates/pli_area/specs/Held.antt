-- What the fields of an area keep.
use Rattle.std.specs.Prelude.{◌≡◌, ◌-◌, ◌*◌, ◌/◌, ◌%◌, ◌^◌, ◌<◌, ◌≤◌, ℕ, Bool, false, ◌&&◌, nat_eq, nat_lt}
use Rattle.std.specs.Prelude.{List, length, slice_index_or}
use Rattle.pli_holes.specs.Holes.{Spells}
use Rattle.pli_area.specs.Areas.{Block, Stand, extent, holes_from}
use Rattle.pli_area.specs.views.AreaView.{blocks_from}

-- blocks stand below the capacity, a chain spells the holes between them, and where they end and how many
-- they are is known; there is a mark for each 8 bytes
pub record AreHeld (blocks : List Block) (bytes : List ℕ) (marks : List Bool) (first end count : ℕ)
    : Type 0 where
  pub aligned : length bytes % 8 ≡ 0
  pub small : length bytes < 2 ^ 32
  pub marked : 8 * length marks ≡ length bytes
  pub stand : Stand 0 blocks
  pub within : extent blocks ≤ length bytes
  pub spelled : Spells bytes first (holes_from 0 (length bytes) blocks)
  pub ends : end ≡ extent blocks
  pub counted : count ≡ length blocks

-- so do those whose headers are marked
abbrev pub IsHeld : (bytes : List ℕ) (marks : List Bool) (first end count : ℕ) → Type 0
IsHeld bytes marks first end count = AreHeld (blocks_from bytes 0 marks) bytes marks first end count

-- a block's header is marked 8 bytes before this position
abbrev pub is_marked : List Bool → (position : ℕ) → Bool
is_marked marks position =
    nat_eq (position % 8) 0 && nat_lt 0 position && slice_index_or marks (position / 8 - 1) false
