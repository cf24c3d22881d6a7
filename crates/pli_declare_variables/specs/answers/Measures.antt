-- What the functions that measure items answer.
use Rattle.std.specs.Prelude.{◌≡◌, ℕ, ◌<◌, max, Option, Some, None, List, length, get_or}
use Rattle.pli_map.specs.Description.{Description, Members}
use Rattle.pli_map.specs.Layouts.{IsLayout}
use Rattle.pli_map.specs.Sizes.{size_of, alignment_of, end_after, greatest_alignment}
use Rattle.pli_map.specs.declared.layout.Layout.{Layout}
use Rattle.pli_declare_variables.specs.declared.sizes.Measured.{Measured}
use Rattle.pli_declare_variables.specs.declared.sizes.Measured.TheVariants.{Unknown, TooLarge, Takes}

-- a layout, or none where it is over the limit
abbrev pub of_layout : Option Layout → Measured
of_layout None = TooLarge
of_layout (Some l) = Takes l

-- what is known of an item is what its description takes, if it has one
abbrev pub IsMeasured : Measured → Option Description → Type 0
IsMeasured Unknown None = Unit {0}
IsMeasured Unknown (Some d) = ⊥
IsMeasured TooLarge None = ⊥
IsMeasured TooLarge (Some d) = IsLayout None (size_of d) (alignment_of d)
IsMeasured (Takes l) None = ⊥
IsMeasured (Takes l) (Some d) = IsLayout (Some l) (size_of d) (alignment_of d)

-- the same of items by their numbers
abbrev pub AreMeasured : (ℕ → Option Description) → List Measured → (numbers : List ℕ) → Type 0
AreMeasured describe measured numbers =
    (i : ℕ) → i < length numbers
    → IsMeasured (get_or measured (get_or numbers i 0) Unknown) (describe (get_or numbers i 0))

-- what is known of the first members of a structure, where these others stand after them, and all together
-- make this whole
abbrev pub IsFront : Measured → (others whole : Option Members) → Type 0
IsFront Unknown others whole = whole ≡ None
IsFront TooLarge None whole = whole ≡ None
IsFront TooLarge (Some others) None = ⊥
IsFront TooLarge (Some others) (Some whole) = 1000000 < end_after 0 whole
IsFront (Takes l) None whole = whole ≡ None
IsFront (Takes l) (Some others) None = ⊥
IsFront (Takes l) (Some others) (Some whole) =
    (end_after l.bytes others ≡ end_after 0 whole)
    × (max l.alignment (greatest_alignment others) ≡ greatest_alignment whole)
