-- The bytes of a value under the description of a scalar, and which value bytes hold (own).
use Rattle.std.specs.Prelude.{ℕ, zero, suc, ◌-◌, nat_le, Bool, true, false, Option, Some, None, List, []}
use Rattle.std.specs.Prelude.{◌++◌, length, take}
use Rattle.std.specs.Prelude.{drop, replicate, if◌then◌else◌}
use Rattle.std.specs.Int.{Width, w16, w32, w64, cast_signed, cast_unsigned}
use Rattle.byteorder.specs.Endian.{big_bytes, big_number}
use Rattle.pli_map.specs.Description.{Description, FixedBinary, Character, Varying, Bit, Pointer, Offset}
use Rattle.pli_map.specs.Sizes.{number_bytes}
use Rattle.pli_value.specs.Packing.{packed, unpacked}
use Rattle.pli_value.specs.Value.{Value, Number, Characters, Bits, Located}
use Rattle.pli_value.specs.declared.locator.Locator.{Locator}
use Rattle.pli_value.specs.declared.locator.Locator.TheVariants as locators

-- numbers of at most 63 binary digits, strings of at most 32,767 elements, and locators: values of these are
-- stored
abbrev pub is_storable : Description → Bool
is_storable (FixedBinary precision) = nat_le precision 63
is_storable (Character n) = nat_le n 32767
is_storable (Varying n) = nat_le n 32767
is_storable (Bit n) = nat_le n 32767
is_storable Pointer = true
is_storable Offset = true
is_storable d = false

-- the bits of a number of so many binary digits with its sign
abbrev pub width_of : (precision : ℕ) → Width
width_of p = if nat_le p 15 then w16 else (if nat_le p 31 then w32 else w64)

-- what stands for the generation of a pointer: 0 for null, else one more than its number
abbrev pub generation_word : Locator → ℕ
generation_word (locators.Pointer generation position) = suc generation
generation_word other = 0

-- the position of a pointer or an offset, 0 where it is null
abbrev pub position_word : Locator → ℕ
position_word locators.Null = 0
position_word (locators.Pointer generation position) = position
position_word (locators.Offset position) = position

-- a pointer of which this stands for the generation
abbrev pub pointer_of : (generation position : ℕ) → Locator
pointer_of zero position = locators.Null
pointer_of (suc generation) position = locators.Pointer generation position

-- a number in two's complement, the highest byte first; characters, a byte each; for VARYING the length in
-- two bytes, the highest first, then the characters, then zeros; bits packed eight to a byte, then zeros; for
-- a pointer what stands for its generation, then its position, for an offset its position, in four bytes
-- each, the highest first. So what is null is zeros.
abbrev pub stored_bytes : Description → Value → List ℕ
stored_bytes (FixedBinary p) (Number x) = big_bytes (number_bytes p) (cast_unsigned (width_of p) x)
stored_bytes (Character n) (Characters text) = text
stored_bytes (Varying n) (Characters text) =
    big_bytes 2 (length text) ++ (text ++ replicate (n - length text) 0)
stored_bytes (Bit n) (Bits bits) = packed bits
stored_bytes Pointer (Located l) = big_bytes 4 (generation_word l) ++ big_bytes 4 (position_word l)
stored_bytes Offset (Located l) = big_bytes 4 (position_word l)
stored_bytes d v = []

-- the value that bytes hold, as many as the description takes
abbrev pub loaded_value : Description → List ℕ → Option Value
loaded_value (FixedBinary p) bytes =
    Some (Number (cast_signed (width_of p) (big_number (number_bytes p) bytes)))
loaded_value (Character n) bytes = Some (Characters bytes)
loaded_value (Varying n) bytes = Some (Characters (take (big_number 2 bytes) (drop 2 bytes)))
loaded_value (Bit n) bytes = Some (Bits (unpacked n bytes))
loaded_value Pointer bytes = Some (Located (pointer_of (big_number 4 bytes) (big_number 4 (drop 4 bytes))))
loaded_value Offset bytes = Some (Located (locators.Offset (big_number 4 bytes)))
loaded_value d bytes = None
