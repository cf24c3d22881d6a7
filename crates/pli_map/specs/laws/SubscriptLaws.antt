-- How the place of a part is made of that of the first element and of subscripts.
use Rattle.std.specs.Prelude.{◌≡◌, ◌+◌, Some, IsSome, IsTrue, List}
use Rattle.std.specs.List.{All, sum_by}
use Rattle.pli_map.specs.Description.{Description}
use Rattle.pli_map.specs.Parts.{PathStep, PlacedPart, place_of}
use Rattle.pli_map.specs.Subscripts.{IsWithin, bytes_passed, first_path, subscripts_of, has_subscripts}

-- a part stands after the first element by the sum of what its subscripts pass, is described as that is, and
-- its subscripts are within their bounds
abbrev pub OffsetsAreSums : Type 0
OffsetsAreSums =
    (whole : Description) (path : List PathStep) (part : PlacedPart) → place_of whole path ≡ Some part
    → (first : PlacedPart)
    × (place_of whole (first_path whole path) ≡ Some first)
    × (part.description ≡ first.description)
    × (part.offset ≡ first.offset + sum_by bytes_passed (subscripts_of whole path))
    × All IsWithin (subscripts_of whole path)

-- where there is the first element, and one subscript for each dimension, each within its bounds, there is a
-- part
abbrev pub SubscriptsWithinLead : Type 0
SubscriptsWithinLead =
    (whole : Description) (path : List PathStep) → IsSome (place_of whole (first_path whole path))
    → IsTrue (has_subscripts whole path) → All IsWithin (subscripts_of whole path)
    → IsSome (place_of whole path)
