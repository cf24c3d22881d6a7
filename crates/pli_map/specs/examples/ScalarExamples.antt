-- Worked examples of scalars and of subscripts.
use Rattle.std.specs.Prelude.{◌≡◌, pos, List, [], ◌∷◌, Some, None, true, false}
use Rattle.pli_map.specs.Description.{Description, FixedBinary, Character, Area, Array}
use Rattle.pli_map.specs.examples.Examples.{up_to, structure, mixed, table, pairs}
use Rattle.pli_map.specs.Parts.{PathStep, Member, Element, place_of}
use Rattle.pli_map.specs.ScalarPaths.{scalars_before, is_filled}
use Rattle.pli_map.specs.Scalars.{scalars_in, first_scalar}
use Rattle.pli_map.specs.Subscripts.{first_path, subscripts_of}

-- one; five members; two times three elements; three elements of two members; none in an area
abbrev pub CountedScalars : Type 0
CountedScalars = (scalars_in (Character 4) ≡ 1) × (scalars_in mixed ≡ 5) × (scalars_in table ≡ 6)
    × (scalars_in pairs ≡ 6) × (scalars_in (Area 8) ≡ 0) × (is_filled pairs ≡ true)
    × (is_filled (Array (up_to 0 ∷ []) pairs) ≡ false)

-- an element of `pairs`: FIXED BINARY(31) and FIXED BINARY(15)
abbrev pub pair : Description
pair = structure (FixedBinary 31 ∷ FixedBinary 15 ∷ [])

-- the fourth member; the last member of the third element; the second element; nothing between two members,
-- nothing of another description, nothing past the end
abbrev pub FoundScalars : Type 0
FoundScalars = (first_scalar mixed 8 (Character 3) ≡ Some 2)
    × (first_scalar pairs 20 (FixedBinary 15) ≡ Some 5)
    × (scalars_before pairs (Element (pos 3 ∷ []) ∷ Member 1 ∷ []) ≡ Some 5)
    × (first_scalar pairs 8 pair ≡ Some 2) × (first_scalar pairs 0 pairs ≡ Some 0)
    × (first_scalar pairs 6 (FixedBinary 15) ≡ None) × (first_scalar pairs 4 (FixedBinary 31) ≡ None)
    × (first_scalar pairs 24 pair ≡ None)

-- (1:2) of FIXED BINARY(31) and (3:5, 1:2) CHARACTER(3)
abbrev pub nested : Description
nested =
    Array (up_to 2 ∷ []) (structure (FixedBinary 31
    ∷ Array (record { low = pos 3; high = pos 5 } ∷ up_to 2 ∷ []) (Character 3) ∷ []))

-- the element (4, 1) of the second member of the first structure
abbrev pub inner_element : List PathStep
inner_element = Element (pos 1 ∷ []) ∷ Member 1 ∷ Element (pos 4 ∷ pos 1 ∷ []) ∷ []

-- its subscripts pass 24, 6 and 3 bytes for each 1, from the element (1), (3, 1), which stands at 4
abbrev pub NamedSubscripts : Type 0
NamedSubscripts = (subscripts_of nested inner_element
    ≡ record { bounds = up_to 2; multiplier = 24; subscript = pos 1 }
    ∷ record { bounds = record { low = pos 3; high = pos 5 }; multiplier = 6; subscript = pos 4 }
    ∷ record { bounds = up_to 2; multiplier = 3; subscript = pos 1 } ∷ [])
    × (first_path nested inner_element
    ≡ Element (pos 1 ∷ []) ∷ Member 1 ∷ Element (pos 3 ∷ pos 1 ∷ []) ∷ [])
    × (place_of nested (first_path nested inner_element)
    ≡ Some (record { offset = 4; description = Character 3 }))
    × (place_of nested inner_element ≡ Some (record { offset = 10; description = Character 3 }))
