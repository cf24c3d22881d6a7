-- Words in a list of bytes (own).
use Rattle.std.specs.Prelude.{◌+◌, ◌*◌, ◌/◌, ◌%◌, ℕ, List, [], ◌∷◌, ◌++◌, length, take, drop, slice_index}

-- the word at a place: the number of its four bytes, the lowest first
abbrev pub word_at : List ℕ → (at : ℕ) → ℕ
word_at bytes at =
    slice_index bytes at + 256 * slice_index bytes (at + 1) + 65536 * slice_index bytes (at + 2)
    + 16777216 * slice_index bytes (at + 3)

-- the four bytes of a word, the lowest first
abbrev pub bytes_of : (word : ℕ) → List ℕ
bytes_of word = word % 256 ∷ word / 256 % 256 ∷ word / 65536 % 256 ∷ word / 16777216 ∷ []

-- a list with other bytes from a place on
abbrev pub overwritten : List ℕ → (at : ℕ) → (new : List ℕ) → List ℕ
overwritten old at new = take at old ++ new ++ drop (at + length new) old
