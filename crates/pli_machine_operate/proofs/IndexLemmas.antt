-- INDEX is at most as many as the string has elements.
use Rattle.std.proofs.Common.{ℕ, zero, suc, ◌≤◌, nat_eq, Bool, true, false, List, [], ◌∷◌, length, map, arith, if◌then◌else◌}
use Rattle.std.proofs.lemmas.List.{length-map}
use Rattle.std.specs.List.{starts_with}
use Rattle.pli_value.specs.Conversions.{bit_character, bit_characters}
use Rattle.pli_value.specs.Strings.{index_of, first_place, one_after}

one_more : (b : Bool) (k n : ℕ) → k ≤ n → (if b then 1 else one_after k) ≤ suc n
one_more true k n h = omega arith
one_more false zero n h = omega arith
one_more false (suc k) n h = omega (arith, h)

place_within : (sought s : List ℕ) → first_place sought s ≤ length s
place_within sought [] = omega arith
place_within sought (x ∷ xs) =
    one_more (starts_with nat_eq (x ∷ xs) sought) (first_place sought xs) (length xs) (place_within sought xs)

pub index_within : (s sought : List ℕ) → index_of s sought ≤ length s
index_within s [] = omega arith
index_within s (x ∷ xs) = place_within (x ∷ xs) s

pub bit_index_within : (s sought : List Bool) → index_of (bit_characters s) (bit_characters sought) ≤ length s
bit_index_within s sought =
    let within = index_within (bit_characters s) (bit_characters sought) in
    let same = length-map s bit_character in
    omega (arith, within, same)
