-- Completed types are within the limits.
use Rattle.std.proofs.Common.{◌≡◌, ℕ, ◌+◌, ◌≤◌, ◌==◌, ◌&&◌, ◌||◌, Bool, true, false, not, refl, ap, sym, ◌∙◌, ◌⊎◌, inl, inr, arith, Option, Some, None, [], ◌∷◌}
use Rattle.std.specs.Int.{next_multiple_of}
use Rattle.std.specs.Int.RustNames.{bit_and}
use Rattle.std.proofs.lemmas.Bool.Decides.{nat_tests}
use Rattle.std.proofs.lemmas.Nat.{and_assoc}
use Rattle.pli_declare.specs.Sets.{has, none_of, is_one_of, data_attributes, fixed, binary, entry, built_in, returns}
use Rattle.pli_declare.specs.Agreement.{data_types, agrees_as_variable, is_missing}
use Rattle.pli_declare.specs.Types.{is_up_to, number_or, is_bad_precision, is_bad_length, scalar_of}
use Rattle.pli_declare_attributes.specs.laws.Laws.{IsScalar}
use Rattle.pli_declare.specs.declared.place.ItemPlace.{ItemPlace}

-- the sets of one whole data type
abbrev pub IsWhole : ℕ → Type 0
IsWhole x = (x ≡ 3) ⊎ (x ≡ 4) ⊎ (x ≡ 12) ⊎ (x ≡ 16) ⊎ (x ≡ 32) ⊎ (x ≡ 64) ⊎ (x ≡ 128)

pub whole : (x : ℕ) → is_one_of x data_types ≡ true → is_one_of x (0 ∷ 1 ∷ 2 ∷ []) ≡ false → IsWhole x
whole x h k = grind (arith, nat_tests, h, k)

-- a data attribute stands where it stands among the data attributes
pub in_data : (s k x : ℕ) → bit_and s 255 ≡ x → bit_and 255 k ≡ k → has s k ≡ has x k
in_data s k x is within = ap (λ m. m == k) (ap (bit_and s) (sym within) ∙ sym (and_assoc k s 255) ∙ ap (λ m. bit_and m k) is)

up_to_number : (limit default : ℕ) (n : Option ℕ) → 1 ≤ default → default ≤ limit → is_up_to limit n ≡ true → (1 ≤ number_or default n) × (number_or default n ≤ limit)
up_to_number limit default None a b h = (a, b)
up_to_number limit default (Some n) a b h = (grind (arith, nat_tests, h), grind (arith, nat_tests, h))

right_false : (a b : Bool) → (a && not b) ≡ false → a ≡ true → b ≡ true
right_false true true h k = refl
right_false true false h k = cc
right_false false b h k = cc

neither : (a b : Bool) → (a || b) ≡ false → (a ≡ false) × (b ≡ false)
neither true b h = cc
neither false b h = (refl, h)

both : (a b : Bool) → (a && b) ≡ true → (a ≡ true) × (b ≡ true)
both true b h = (refl, h)
both false b h = cc

first_two : (a b c d e f g h : Bool) → (a && b && c && d && e && f && g && h) ≡ true → (a ≡ true) × (b ≡ true)
first_two a b c d e f g h t = both a b (both _ c (both _ d (both _ e (both _ f (both _ g (both _ h t).0).0).0).0).0).0

rounded : (n : ℕ) → (1 ≤ n) × (n ≤ 1000000) → (1 ≤ next_multiple_of n 8) × (next_multiple_of n 8 ≤ 1000000)
rounded n h = (omega (arith, h.0, h.1), omega (arith, h.0, h.1))

string_number : (c v b u a w : Bool) → ((c || v || b) && not u || a && not w) ≡ false → (c || v || b) ≡ true → u ≡ true
string_number c v b u a w h k = right_false (c || v || b) u (neither ((c || v || b) && not u) (a && not w) h).0 k

area_number : (c v b u a w : Bool) → ((c || v || b) && not u || a && not w) ≡ false → a ≡ true → w ≡ true
area_number c v b u a w h k = right_false a w (neither ((c || v || b) && not u) (a && not w) h).1 k

-- a set with one whole data type, and numbers in range, says a type within the limits
pub scalar_whole : (s : ℕ) (n : Option ℕ) → IsWhole (bit_and s 255) → is_bad_precision s n ≡ false → is_bad_length s n ≡ false → IsScalar (scalar_of s n)
unfolding scalar_of is_bad_precision is_bad_length
scalar_whole s n (inl x) p l =
    let f : has s 1 ≡ true = in_data s 1 3 x refl in
    rw f (up_to_number 63 15 n (omega arith) (omega arith) (right_false (has s 1) (is_up_to 63 n) p f))
scalar_whole s n (inr (inl x)) p l =
    let f : has s 1 ≡ false = in_data s 1 4 x refl in
    let v : has s 8 ≡ false = in_data s 8 4 x refl in
    let c : has s 4 ≡ true = in_data s 4 4 x refl in
    let k : (has s 4 || has s 8 || has s 16) ≡ true = rw c in
    rw (f, v, c) (up_to_number 32767 1 n (omega arith) (omega arith) (string_number (has s 4) (has s 8) (has s 16) (is_up_to 32767 n) (has s 128) (is_up_to 1000000 n) l k))
scalar_whole s n (inr (inr (inl x))) p l =
    let f : has s 1 ≡ false = in_data s 1 12 x refl in
    let v : has s 8 ≡ true = in_data s 8 12 x refl in
    let c : has s 4 ≡ true = in_data s 4 12 x refl in
    let k : (has s 4 || has s 8 || has s 16) ≡ true = rw c in
    rw (f, v) (up_to_number 32767 1 n (omega arith) (omega arith) (string_number (has s 4) (has s 8) (has s 16) (is_up_to 32767 n) (has s 128) (is_up_to 1000000 n) l k))
scalar_whole s n (inr (inr (inr (inl x)))) p l =
    let f : has s 1 ≡ false = in_data s 1 16 x refl in
    let v : has s 8 ≡ false = in_data s 8 16 x refl in
    let c : has s 4 ≡ false = in_data s 4 16 x refl in
    let b : has s 16 ≡ true = in_data s 16 16 x refl in
    let k : (has s 4 || has s 8 || has s 16) ≡ true = rw (c, v, b) in
    rw (f, v, c, b) (up_to_number 32767 1 n (omega arith) (omega arith) (string_number (has s 4) (has s 8) (has s 16) (is_up_to 32767 n) (has s 128) (is_up_to 1000000 n) l k))
scalar_whole s n (inr (inr (inr (inr (inl x))))) p l =
    let f : has s 1 ≡ false = in_data s 1 32 x refl in
    let v : has s 8 ≡ false = in_data s 8 32 x refl in
    let c : has s 4 ≡ false = in_data s 4 32 x refl in
    let b : has s 16 ≡ false = in_data s 16 32 x refl in
    let o : has s 32 ≡ true = in_data s 32 32 x refl in
    rw (f, v, c, b, o) tt
scalar_whole s n (inr (inr (inr (inr (inr (inl x)))))) p l =
    let f : has s 1 ≡ false = in_data s 1 64 x refl in
    let v : has s 8 ≡ false = in_data s 8 64 x refl in
    let c : has s 4 ≡ false = in_data s 4 64 x refl in
    let b : has s 16 ≡ false = in_data s 16 64 x refl in
    let o : has s 32 ≡ false = in_data s 32 64 x refl in
    let t : has s 64 ≡ true = in_data s 64 64 x refl in
    rw (f, v, c, b, o, t) tt
scalar_whole s n (inr (inr (inr (inr (inr (inr x)))))) p l =
    let f : has s 1 ≡ false = in_data s 1 128 x refl in
    let v : has s 8 ≡ false = in_data s 8 128 x refl in
    let c : has s 4 ≡ false = in_data s 4 128 x refl in
    let b : has s 16 ≡ false = in_data s 16 128 x refl in
    let o : has s 32 ≡ false = in_data s 32 128 x refl in
    let t : has s 64 ≡ false = in_data s 64 128 x refl in
    let a : has s 128 ≡ true = in_data s 128 128 x refl in
    rw (f, v, c, b, o, t, a)
    (rounded (number_or 1000 n)
    (up_to_number 1000000 1000 n (omega arith) (omega arith) (area_number (has s 4) (has s 8) (has s 16) (is_up_to 32767 n) (has s 128) (is_up_to 1000000 n) l a)))

-- a variable that lacks nothing and has no members has one whole data type
pub variable_whole : (p : ItemPlace) (s : ℕ) → agrees_as_variable p s ≡ true → is_missing p s ≡ false → p.has_members ≡ false → IsWhole (bit_and s 255)
unfolding is_missing
variable_whole p s agrees lacks alone =
    let two = first_two (none_of s (entry + built_in)) (is_one_of (bit_and s data_attributes) data_types) _ _ _ _ _ _ agrees in
    let none =
    (neither (has s returns && none_of s entry) (not p.has_members && none_of s (entry + built_in) && is_one_of (bit_and s data_attributes) (0 ∷ fixed ∷ binary ∷ []))
    lacks).1 in
    let left = rw (alone, two.0) at none in
    whole (bit_and s 255) two.1 left
