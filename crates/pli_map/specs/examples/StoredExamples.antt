-- Worked examples of stored values.
use Rattle.std.specs.Prelude.{◌≡◌, pos, negsuc, [], ◌∷◌, Some, None, true, false}
use Rattle.pli_map.specs.Description.{FixedBinary, Character, Varying, Bit, Pointer, Offset, Area}
use Rattle.pli_map.specs.StoredValues.{stored_bytes, loaded_value}
use Rattle.pli_value.specs.Value.{Number, Characters, Bits, Located}
use Rattle.pli_value.specs.declared.locator.Locator.TheVariants as locators

-- -2 in two bytes, 258 in four, -1 in eight; and back, the least number of 15 digits too
abbrev pub StoredNumbers : Type 0
StoredNumbers = (stored_bytes (FixedBinary 15) (Number (negsuc 1)) ≡ 255 ∷ 254 ∷ [])
    × (stored_bytes (FixedBinary 16) (Number (pos 258)) ≡ 0 ∷ 0 ∷ 1 ∷ 2 ∷ [])
    × (stored_bytes (FixedBinary 63) (Number (negsuc 0))
    ≡ 255 ∷ 255 ∷ 255 ∷ 255 ∷ 255 ∷ 255 ∷ 255 ∷ 255 ∷ [])
    × (loaded_value (FixedBinary 15) (255 ∷ 254 ∷ []) ≡ Some (Number (negsuc 1)))
    × (loaded_value (FixedBinary 15) (128 ∷ 1 ∷ []) ≡ Some (Number (negsuc 32766)))
    × (loaded_value (FixedBinary 31) (0 ∷ 0 ∷ 1 ∷ 2 ∷ []) ≡ Some (Number (pos 258)))

-- 'AB' in CHARACTER(2), in VARYING of at most 4, and the empty string there; '101000001'B in two bytes
abbrev pub StoredStrings : Type 0
StoredStrings = (stored_bytes (Character 2) (Characters (65 ∷ 66 ∷ [])) ≡ 65 ∷ 66 ∷ [])
    × (stored_bytes (Varying 4) (Characters (65 ∷ 66 ∷ [])) ≡ 0 ∷ 2 ∷ 65 ∷ 66 ∷ 0 ∷ 0 ∷ [])
    × (stored_bytes (Varying 1) (Characters []) ≡ 0 ∷ 0 ∷ 0 ∷ [])
    × (loaded_value (Varying 4) (0 ∷ 2 ∷ 65 ∷ 66 ∷ 0 ∷ 0 ∷ []) ≡ Some (Characters (65 ∷ 66 ∷ [])))
    × (stored_bytes (Bit 9)
    (Bits (true ∷ false ∷ true ∷ false ∷ false ∷ false ∷ false ∷ false ∷ true ∷ []))
    ≡ 160 ∷ 128 ∷ [])
    × (loaded_value (Bit 3) (160 ∷ []) ≡ Some (Bits (true ∷ false ∷ true ∷ [])))
    × (loaded_value (Area 8) [] ≡ None)

-- null in eight bytes and in four; a pointer to generation 258 at position 16, one to the first generation,
-- and an offset of 40; and back
abbrev pub StoredLocators : Type 0
StoredLocators = (stored_bytes Pointer (Located locators.Null) ≡ 0 ∷ 0 ∷ 0 ∷ 0 ∷ 0 ∷ 0 ∷ 0 ∷ 0 ∷ [])
    × (stored_bytes Offset (Located (locators.Offset 0)) ≡ 0 ∷ 0 ∷ 0 ∷ 0 ∷ [])
    × (stored_bytes Pointer (Located (locators.Pointer 258 16)) ≡ 0 ∷ 0 ∷ 1 ∷ 3 ∷ 0 ∷ 0 ∷ 0 ∷ 16 ∷ [])
    × (stored_bytes Offset (Located (locators.Offset 40)) ≡ 0 ∷ 0 ∷ 0 ∷ 40 ∷ [])
    × (loaded_value Pointer (0 ∷ 0 ∷ 0 ∷ 0 ∷ 0 ∷ 0 ∷ 0 ∷ 0 ∷ []) ≡ Some (Located locators.Null))
    × (loaded_value Pointer (0 ∷ 0 ∷ 0 ∷ 1 ∷ 0 ∷ 0 ∷ 0 ∷ 0 ∷ []) ≡ Some (Located (locators.Pointer 0 0)))
    × (loaded_value Pointer (0 ∷ 0 ∷ 1 ∷ 3 ∷ 0 ∷ 0 ∷ 0 ∷ 16 ∷ []) ≡ Some (Located (locators.Pointer 258 16)))
    × (loaded_value Offset (0 ∷ 0 ∷ 0 ∷ 40 ∷ []) ≡ Some (Located (locators.Offset 40)))
