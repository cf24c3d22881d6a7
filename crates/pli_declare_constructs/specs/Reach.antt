-- Which labels a GOTO reaches (X3.74): those of the statement lists that enclose it. But out of an ON-unit no
-- label in a group of the block in which the ON stands is reached (own), since the unit may run when that
-- group does not.
use Rattle.std.specs.Prelude.{ℕ, Bool, true, false, not, ◌&&◌, ◌==◌, List, [], ◌∷◌, if◌then◌else◌}
use Rattle.std.specs.List.{list_any}
use Rattle.pli_declare_outline.specs.Outlines.{Region}
use Rattle.pli_declare_outline.specs.declared.region.RegionKind.{RegionKind}
use Rattle.pli_declare_outline.specs.declared.region.RegionKind.TheVariants as kinds
use Rattle.pli_declare_constructs.specs.Regions.{kind_at, round_of, block_of}

-- a DO group
abbrev pub is_group : RegionKind → Bool
is_group kinds.Procedure = false
is_group kinds.Begin = false
is_group kinds.Group = true
is_group kinds.OnUnit = false

-- an ON-unit
abbrev pub is_on_unit : RegionKind → Bool
is_on_unit kinds.Procedure = false
is_on_unit kinds.Begin = false
is_on_unit kinds.Group = false
is_on_unit kinds.OnUnit = true

-- the list of one region encloses what stands in another
abbrev pub encloses : List Region → (from label : ℕ) → Bool
encloses regions from label = list_any (λ r. r == label) (round_of regions from)

-- those in front of one
abbrev pub in_front_of : ℕ → List ℕ → List ℕ
in_front_of label [] = []
in_front_of label (r ∷ rs) = if r == label then [] else r ∷ in_front_of label rs

-- an ON-unit of the block in which the label stands
abbrev pub is_on_unit_of : List Region → (label : ℕ) → ℕ → Bool
is_on_unit_of regions label r = is_on_unit (kind_at regions r) && block_of regions r == block_of regions label

-- such an ON-unit stands between
abbrev pub on_unit_between : List Region → (from label : ℕ) → Bool
on_unit_between regions from label =
    list_any (is_on_unit_of regions label) (in_front_of label (round_of regions from))

-- from a region to a label of the list of another
abbrev pub reaches : List Region → (from label : ℕ) → Bool
reaches regions from label =
    encloses regions from label
    && not (is_group (kind_at regions label) && on_unit_between regions from label)
