-- A GOTO's way outwards, region by region, as it is walked.
use Rattle.std.specs.Prelude.{ℕ, Bool, true, false, not, ◌&&◌, ◌==◌, List, [], ◌∷◌, if◌then◌else◌}
use Rattle.pli_declare_outline.specs.Outlines.{Region}
use Rattle.pli_declare_outline.specs.declared.region.RegionKind.{RegionKind}
use Rattle.pli_declare_outline.specs.declared.region.RegionKind.TheVariants as kinds
use Rattle.pli_declare_constructs.specs.Regions.{kind_at}
use Rattle.pli_declare_constructs.specs.Reach.{is_group}

-- whether an ON-unit of the block was left, when this region is left too
abbrev pub left_on_unit : Bool → RegionKind → Bool
left_on_unit left kinds.Procedure = false
left_on_unit left kinds.Begin = false
left_on_unit left kinds.Group = left
left_on_unit left kinds.OnUnit = true

-- outwards through these regions to the one that has the label
abbrev pub reaches_through : List Region → (left : Bool) → List ℕ → (label : ℕ) → Bool
reaches_through regions left [] label = false
reaches_through regions left (r ∷ rs) label =
    if r == label then not (left && is_group (kind_at regions r))
    else reaches_through regions (left_on_unit left (kind_at regions r)) rs label
