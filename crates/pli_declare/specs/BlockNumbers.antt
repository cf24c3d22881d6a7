-- The blocks of a unit and their numbers (X3.74, numbers own). Procedures, BEGIN blocks and ON-units are
-- blocks; they are numbered from 0 in the order in which they begin in the text, so the unit itself is block
-- 0. A DO group is none.
use Rattle.std.specs.Prelude.{ℕ, ◌+◌, Option, Some, None, List, [], ◌∷◌, ◌++◌, get_or}
use Rattle.pli_declare_outline.specs.Outlines.{Region}
use Rattle.pli_declare_outline.specs.declared.region.RegionKind.{RegionKind}
use Rattle.pli_declare_outline.specs.declared.region.RegionKind.TheVariants as kinds
use Rattle.pli_declare.specs.declared.block_numbers.BlockRegion.{BlockRegion}
use Rattle.pli_declare.specs.declared.block_numbers.ResolvedBlockKind.{ResolvedBlockKind}
use Rattle.pli_declare.specs.declared.block_numbers.ResolvedBlockKind.TheVariants.{Procedure, Begin, OnUnit}

-- the block that a region is, if it is one
abbrev pub block_kind : RegionKind → Option ResolvedBlockKind
block_kind kinds.Procedure = Some Procedure
block_kind kinds.Begin = Some Begin
block_kind kinds.Group = None
block_kind kinds.OnUnit = Some OnUnit

-- the block that a region of this number is, as a list of one or none
abbrev pub block_begun : (number : ℕ) → Region → Option ResolvedBlockKind → List BlockRegion
block_begun number r None = []
block_begun number r (Some kind) = record { region = number; kind = kind; outer = r.outer } ∷ []

-- the blocks among regions, after others; the first of the regions has this number
abbrev pub blocks_after : List BlockRegion → (number : ℕ) → List Region → List BlockRegion
blocks_after blocks number [] = blocks
blocks_after blocks number (r ∷ rs) =
    blocks_after (blocks ++ block_begun number r (block_kind r.kind)) (number + 1) rs

-- the blocks of a unit, each under its number
abbrev pub block_regions : List Region → List BlockRegion
block_regions regions = blocks_after [] 0 regions

-- the number of the block in which stands what belongs to another region, by those of the regions before
abbrev pub number_outside : List ℕ → Option ℕ → ℕ
number_outside numbers None = 0
number_outside numbers (Some outer) = get_or numbers outer 0

-- a block has the next number; a group stands in the block round it
abbrev pub number_with : List ℕ → (next : ℕ) → (outer : Option ℕ) → Option ResolvedBlockKind → ℕ
number_with numbers next outer None = number_outside numbers outer
number_with numbers next outer (Some kind) = next

-- how many blocks begin with a region
abbrev pub begun_by : Option ResolvedBlockKind → ℕ
begun_by None = 0
begun_by (Some kind) = 1

-- for each region the number of the block that it is or stands in, after those of the regions before
abbrev pub numbers_after : List ℕ → (next : ℕ) → List Region → List ℕ
numbers_after numbers next [] = numbers
numbers_after numbers next (r ∷ rs) =
    numbers_after (numbers ++ number_with numbers next r.outer (block_kind r.kind) ∷ [])
    (next + begun_by (block_kind r.kind)) rs

-- for each region the number of the block that it is or stands in
abbrev pub block_numbers : List Region → List ℕ
block_numbers regions = numbers_after [] 0 regions
