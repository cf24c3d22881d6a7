-- Bit strings packed, eight bits to a byte, the first bit highest (own).
use Rattle.std.specs.Prelude.{◌≡◌, ℕ, ◌+◌, ◌-◌, ◌*◌, ◌/◌, ◌%◌, ◌≤◌, nat_eq, Bool, false, List, length, map}
use Rattle.std.specs.Prelude.{slice_index, slice_index_or, if◌then◌else◌}
use Rattle.std.specs.Int.{bit_at}
use Rattle.std.specs.List.{range_with_len}

-- the bit at a place of such bytes; 0 past their end
abbrev pub packed_bit : List ℕ → (place : ℕ) → Bool
packed_bit bytes place = nat_eq (bit_at (slice_index bytes (place / 8)) (7 - place % 8)) 1

-- the first so many bits
abbrev pub unpacked : (bits : ℕ) → List ℕ → List Bool
unpacked bits bytes = map (packed_bit bytes) (range_with_len 0 bits)

-- as many bytes as so many bits need, with nothing after the last bit, and no more than a string may have
pub record IsPacked (bits : ℕ) (bytes : List ℕ) : Type 0 where
  pub needed : length bytes ≡ (bits + 7) / 8
  pub blank : (place : ℕ) → bits ≤ place → packed_bit bytes place ≡ false
  pub limit : bits ≤ 32767

-- what a bit adds to its byte
abbrev pub worth : (value : ℕ) → Bool → ℕ
worth value bit = if bit then value else 0

-- the byte whose bits these are, the bit of place 0 highest
abbrev pub byte_of : (ℕ → Bool) → ℕ
byte_of bit =
    worth 128 (bit 0) + worth 64 (bit 1) + worth 32 (bit 2) + worth 16 (bit 3) + worth 8 (bit 4)
    + worth 4 (bit 5) + worth 2 (bit 6) + worth 1 (bit 7)

-- the bytes of a bit string, with zeros after the last bit
abbrev pub packed : List Bool → List ℕ
packed bits =
    map (λ k. byte_of (λ i. slice_index_or bits (8 * k + i) false)) (range_with_len 0 ((length bits + 7) / 8))
