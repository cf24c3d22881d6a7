-- What is held by scalars alone.
use Rattle.std.proofs.Common.{◌≡◌, ℕ, Bool, true, true≢false, eqb-true, List, length, take, drop, refl, sym, ap}
use Rattle.byteorder.specs.Endian.{big_number}
use Rattle.pli_bytes.specs.Contents.{value_of}
use Rattle.pli_map.specs.Description.{Description, FixedBinary, Character, Varying, Bit, Pointer, Offset, Area, Array, Structure}
use Rattle.pli_map.specs.Scalars.{is_scalar, scalars_in}
use Rattle.pli_map.specs.Values.{holds}
use Rattle.pli_value.specs.Value.{Value, Characters, Bits}
use Rattle.pli_store.specs.answers.Kinds.{are_characters}

pub one_scalar : (d : Description) → is_scalar d ≡ true → scalars_in d ≡ 1
one_scalar (FixedBinary n) e = refl
one_scalar (Character n) e = refl
one_scalar (Varying n) e = refl
one_scalar (Bit n) e = refl
one_scalar Pointer e = refl
one_scalar Offset e = refl
one_scalar (Area n) e = cc
one_scalar (Array bs d) e = cc
one_scalar (Structure ds) e = cc

-- a description that may hold a value
pub scalar_of_held : (d : Description) (v : Value) → holds d v ≡ true → is_scalar d ≡ true
scalar_of_held (Area n) v e = absurd (true≢false (sym e))
scalar_of_held (Array bs d) v e = absurd (true≢false (sym e))
scalar_of_held (Structure ds) v e = absurd (true≢false (sym e))
scalar_of_held d v e = refl

-- one that may hold bits
pub bits_of_held : (d : Description) (bits : List Bool) → holds d (Bits bits) ≡ true → d ≡ Bit (length bits)
bits_of_held (Bit n) bits e = ap Bit (sym (eqb-true (length bits) n e))
bits_of_held d bits e = absurd (true≢false (sym e))

-- bytes hold characters under a description of such
pub characters_of : (d : Description) → are_characters d ≡ true → (bytes : List ℕ) → (text : List ℕ) × (value_of d bytes ≡ Characters text)
characters_of (Character n) e bytes = (bytes, refl)
characters_of (Varying n) e bytes = (take (big_number 2 bytes) (drop 2 bytes), refl)
characters_of d e bytes = absurd (true≢false (sym e))

-- a description under which bytes hold characters
pub scalar_of_text : (d : Description) (bytes text : List ℕ) → value_of d bytes ≡ Characters text → is_scalar d ≡ true
scalar_of_text (Area n) bytes text e = cc
scalar_of_text (Array bs d) bytes text e = cc
scalar_of_text (Structure ds) bytes text e = cc
scalar_of_text d bytes text e = refl
