-- The block of a region, and which labels a GOTO reaches (X3.74; the rules of ON-units own).
use Rattle.std.specs.Prelude.{ℕ, Bool, true, false, not, ◌&&◌, ◌==◌, List, get_or}
use Rattle.std.specs.List.{list_any, before_first}
use Rattle.pli_declare_outline.specs.Outlines.{Region}
use Rattle.pli_declare_outline.specs.declared.region.RegionKind.{RegionKind}
use Rattle.pli_declare_outline.specs.declared.region.RegionKind.TheVariants as kinds
use Rattle.pli_declare_constructs.specs.Regions.{kind_at, round_of, blocks_round}

-- the innermost block round a region: the region itself, if it is a block; or else the external procedure
abbrev pub block_of : List Region → ℕ → ℕ
block_of regions n = get_or (blocks_round regions n) 0 0

-- a DO group
abbrev pub is_group : RegionKind → Bool
is_group kinds.Group = true
is_group other = false

-- an ON-unit
abbrev pub is_on_unit : RegionKind → Bool
is_on_unit kinds.OnUnit = true
is_on_unit other = false

-- an ON-unit of the block in which the label stands
abbrev pub is_on_unit_of : List Region → (label : ℕ) → ℕ → Bool
is_on_unit_of regions label r = is_on_unit (kind_at regions r) && block_of regions r == block_of regions label

-- from a region a label of the list of another is reached that encloses it; but out of an ON-unit no label in
-- a group of the block in which the ON stands, since the unit may run when that group does not
abbrev pub reaches : List Region → (from label : ℕ) → Bool
reaches regions from label =
    list_any (λ r. r == label) (round_of regions from)
    && not (is_group (kind_at regions label)
    && list_any (is_on_unit_of regions label) (before_first (λ r. r == label) (round_of regions from)))
