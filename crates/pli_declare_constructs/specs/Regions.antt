-- The regions round a place, and the blocks among them (X3.74, the rule of ON-units own).
use Rattle.std.specs.Prelude.{ℕ, Bool, true, false, Option, Some, None, List, [], ◌∷◌, ◌++◌, length, get_or}
use Rattle.std.specs.List.{filter}
use Rattle.pli_declare_outline.specs.Outlines.{Region}
use Rattle.pli_declare_outline.specs.declared.region.RegionKind.{RegionKind}
use Rattle.pli_declare_outline.specs.declared.region.RegionKind.TheVariants as kinds

-- procedures and BEGIN blocks are blocks; groups and ON-units stand in one
abbrev pub is_block : RegionKind → Bool
is_block kinds.Procedure = true
is_block kinds.Begin = true
is_block kinds.Group = false
is_block kinds.OnUnit = false

-- the regions round what stands in this one, if it stands in any, the innermost first
abbrev pub round : List (List ℕ) → Option ℕ → List ℕ
round rounds None = []
round rounds (Some outer) = get_or rounds outer []

-- the regions round each of these, after those of earlier ones
abbrev pub rounds_after : List (List ℕ) → List Region → List (List ℕ)
rounds_after rounds [] = rounds
rounds_after rounds (r ∷ rs) = rounds_after (rounds ++ (length rounds ∷ round rounds r.outer) ∷ []) rs

-- the regions round a region, itself the first
abbrev pub round_of : List Region → ℕ → List ℕ
round_of regions n = get_or (rounds_after [] regions) n []

-- what stands where there is no region
abbrev pub outside : Region
outside = record { kind = kinds.Procedure; outer = None }

-- the kind of a region
abbrev pub kind_at : List Region → ℕ → RegionKind
kind_at regions n = (get_or regions n outside).kind

-- the blocks among them
abbrev pub blocks_round : List Region → ℕ → List ℕ
blocks_round regions n = filter (λ r. is_block (kind_at regions r)) (round_of regions n)

-- the first, if there is one
abbrev pub first_of : List ℕ → Option ℕ
first_of [] = None
first_of (n ∷ ns) = Some n

-- the innermost block round a region: the region itself, if it is a block
abbrev pub innermost : List Region → ℕ → Option ℕ
innermost regions n = first_of (blocks_round regions n)

-- that block, or the external procedure
abbrev pub first_or_unit : Option ℕ → ℕ
first_or_unit None = 0
first_or_unit (Some b) = b

-- the block of a region
abbrev pub block_of : List Region → ℕ → ℕ
block_of regions n = first_or_unit (innermost regions n)

-- the blocks from one on outwards, or none
abbrev pub blocks_from : List Region → Option ℕ → List ℕ
blocks_from regions None = []
blocks_from regions (Some b) = blocks_round regions b
