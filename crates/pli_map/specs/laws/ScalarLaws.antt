-- What the definitions of scalars amount to.
use Rattle.std.specs.Prelude.{◌≡◌, ℕ, ◌+◌, ◌<◌, ◌≤◌, false, Some, IsTrue, List}
use Rattle.pli_map.specs.Description.{Description}
use Rattle.pli_map.specs.Parts.{PathStep, PlacedPart, place_of}
use Rattle.pli_map.specs.Scalars.{scalars_in, first_scalar}
use Rattle.pli_map.specs.ScalarPaths.{scalars_before, is_filled, has_area}
use Rattle.pli_map.specs.Sizes.{size_of}

-- the first scalar of a part that takes bytes is found by where it stands and by its description: as many
-- scalars stand before it as its path says
abbrev pub PartsAreFound : Type 0
PartsAreFound =
    (whole : Description) (path : List PathStep) (part : PlacedPart) → 0 < size_of part.description
    → place_of whole path ≡ Some part
    → first_scalar whole part.offset part.description ≡ scalars_before whole path

-- so paths that lead to one place and description lead to the same scalars
abbrev pub PartsAreDetermined : Type 0
PartsAreDetermined =
    (whole : Description) (path other : List PathStep) (part : PlacedPart) → 0 < size_of part.description
    → place_of whole path ≡ Some part → place_of whole other ≡ Some part
    → scalars_before whole path ≡ scalars_before whole other

-- only a part is found, and as many scalars stand before it as a path to it says
abbrev pub FoundIsPlaced : Type 0
FoundIsPlaced =
    (whole : Description) (offset : ℕ) (description : Description) (k : ℕ)
    → first_scalar whole offset description ≡ Some k
    → (path : List PathStep)
    × (place_of whole path ≡ Some (record { offset = offset; description = description }))
    × (scalars_before whole path ≡ Some k)

-- the scalars of a part are scalars of the whole, and its bytes are bytes of the whole
abbrev pub ScalarsLieWithin : Type 0
ScalarsLieWithin =
    (whole : Description) (offset : ℕ) (description : Description) (k : ℕ)
    → first_scalar whole offset description ≡ Some k
    → (k + scalars_in description ≤ scalars_in whole) × (offset + size_of description ≤ size_of whole)

-- a part of a part is a part of the whole, at the sum of both distances, and after as many scalars as both
abbrev pub PartsOfParts : Type 0
PartsOfParts =
    (whole : Description) (offset : ℕ) (part : Description) (k inner : ℕ) (description : Description) (j : ℕ)
    → 0 < size_of description → first_scalar whole offset part ≡ Some k
    → first_scalar part inner description ≡ Some j
    → first_scalar whole (offset + inner) description ≡ Some (k + j)

-- where no length, size and number of elements is 0 each part takes bytes, and one without areas has a scalar
abbrev pub FilledPartsTakeBytes : Type 0
FilledPartsTakeBytes =
    (whole : Description) (offset : ℕ) (part : Description) (k : ℕ) → IsTrue (is_filled whole)
    → first_scalar whole offset part ≡ Some k
    → IsTrue (is_filled part) × (0 < size_of part) × (has_area part ≡ false → 0 < scalars_in part)
