-- Marks as bits of words.
use Rattle.std.specs.Int.{bit_at}
use Rattle.std.specs.Prelude.{◌≡◌, ◌/◌, ◌%◌, ◌<◌, ◌≤◌, ℕ, zero, suc, Bool, false, List, [], ◌∷◌}
use Rattle.std.specs.Prelude.{nat_eq, slice_index}

-- whether a word has a bit, the lowest being 0
abbrev pub has_bit : (word bit : ℕ) → Bool
has_bit word bit = nat_eq (bit_at word bit) 1

-- so many marks from a number on
abbrev pub marks_of : (words : List ℕ) (from count : ℕ) → List Bool
marks_of words from zero = []
marks_of words from (suc count) =
    has_bit (slice_index words (from / 64)) (from % 64) ∷ marks_of words (suc from) count

-- so many words are those of others, then come so many of the lowest bits of the next, and 0 after
pub record IsCut (words others : List ℕ) (whole bits : ℕ) : Type 0 where
  pub before : (place : ℕ) → place < whole → slice_index words place ≡ slice_index others place
  pub kept : (bit : ℕ) → bit < bits
      → has_bit (slice_index words whole) bit ≡ has_bit (slice_index others whole) bit
  pub cut : (bit : ℕ) → bits ≤ bit → has_bit (slice_index words whole) bit ≡ false
  pub after : (place : ℕ) → whole < place → slice_index words place ≡ 0
