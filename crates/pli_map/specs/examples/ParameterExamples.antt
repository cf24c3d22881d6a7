-- Types of parameters and dimensions of arrays, computed.
use Rattle.std.specs.Prelude.{◌≡◌, ℤ, pos, true, false, Some, None, [], ◌∷◌}
use Rattle.pli_map.specs.declared.description.Bounds.{Bounds}
use Rattle.pli_map.specs.declared.parameter.StringForm.TheVariants as forms
use Rattle.pli_map.specs.Description.{Description, FixedBinary, Character, Varying, Bit, Array}
use Rattle.pli_map.specs.Dimensions.{dimension_at}
use Rattle.pli_map.specs.ParameterTypes.{ParameterType, Stated, AnyString, AnyArray, ArrayOf, agrees}
use Rattle.pli_map.specs.ParameterTypes.{array_of, element_type}

-- bounds from one number to another
abbrev pub from_to : (low high : ℤ) → Bounds
from_to low high = record { low = low; high = high }

-- (2:4) FIXED BIN(15)
abbrev pub three_numbers : Description
three_numbers = Array (from_to (pos 2) (pos 4) ∷ []) (FixedBinary 15)

-- (*) FIXED BIN(15)
abbrev pub any_numbers : ParameterType
any_numbers = AnyArray 1 (Stated (FixedBinary 15))

-- (2:3, 5:7) CHAR(2)
abbrev pub six_strings : Description
six_strings = Array (from_to (pos 2) (pos 3) ∷ from_to (pos 5) (pos 7) ∷ []) (Character 2)

-- a CHAR(*) takes a CHAR of any length and a CHAR(*), but neither VARYING nor BIT; a CHAR(5) takes no CHAR(*)
abbrev pub StringsAgree : Type 0
StringsAgree =
    (agrees (AnyString forms.Character) (Stated (Character 5)) ≡ true)
    × (agrees (AnyString forms.Character) (AnyString forms.Character) ≡ true)
    × (agrees (AnyString forms.Character) (Stated (Varying 5)) ≡ false)
    × (agrees (AnyString forms.Character) (Stated (Bit 5)) ≡ false)
    × (agrees (Stated (Character 5)) (AnyString forms.Character) ≡ false)

-- a (*) takes an array of one dimension, whatever its bounds, of an equal element; stated bounds take equal
-- ones, and no `*`
abbrev pub ArraysAgree : Type 0
ArraysAgree =
    (agrees any_numbers (Stated three_numbers) ≡ true)
    × (agrees any_numbers any_numbers ≡ true)
    × (agrees any_numbers (Stated six_strings) ≡ false)
    × (agrees any_numbers (Stated (FixedBinary 15)) ≡ false)
    × (agrees (Stated three_numbers) any_numbers ≡ false)
    × (agrees (AnyArray 2 (AnyString forms.Character)) (Stated six_strings) ≡ true)
    × (agrees (ArrayOf (from_to (pos 2) (pos 3) ∷ from_to (pos 5) (pos 7) ∷ []) (AnyString forms.Character))
    (Stated six_strings) ≡ true)
    × (agrees (ArrayOf (from_to (pos 1) (pos 2) ∷ []) (AnyString forms.Character))
    (AnyArray 1 (AnyString forms.Character)) ≡ false)

-- an array is stated where its element is; and an open one has its element after all its dimensions
abbrev pub ElementsAreOpen : Type 0
ElementsAreOpen =
    (array_of (from_to (pos 2) (pos 4) ∷ []) (Stated (FixedBinary 15)) ≡ Stated three_numbers)
    × (element_type 1 any_numbers ≡ Some (Stated (FixedBinary 15)))
    × (element_type 2 any_numbers ≡ None)
    × (element_type 1 (Stated three_numbers) ≡ None)

-- of (2:3, 5:7) CHAR(2) the first subscript leads on by 6 bytes for each number, and leaves the array; the
-- second one by 2, to a string; there is no third
abbrev pub DimensionsAreKnown : Type 0
DimensionsAreKnown =
    (dimension_at six_strings 1
    ≡ Some (record { bounds = from_to (pos 2) (pos 3); multiplier = 6; after = six_strings }))
    × (dimension_at six_strings 2
    ≡ Some (record { bounds = from_to (pos 5) (pos 7); multiplier = 2; after = Character 2 }))
    × (dimension_at six_strings 3 ≡ None) × (dimension_at six_strings 0 ≡ None)
    × (dimension_at (Character 2) 1 ≡ None)
