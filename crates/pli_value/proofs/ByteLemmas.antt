-- Bits of bytes: those of two bytes side by side, the first ones of a byte, and what operations on bytes make of each.
use Rattle.std.proofs.Common.{◌≡◌, ℕ, zero, suc, ◌+◌, ◌-◌, ◌*◌, ◌/◌, ◌%◌, ◌^◌, ◌<◌, ◌≤◌, ◌&&◌, ◌||◌, not, nat_eq, min, max, bit_and, bit_or, List, slice_index, refl, sym, ap, ◌∙◌, arith, w8, inl, inr}
use Rattle.std.specs.Int.{bit_at, bit_not}
use Rattle.std.proofs.lemmas.Bool.{cases_lt}
use Rattle.std.proofs.lemmas.Nat.{pow_pos, shr-shr}
use Rattle.std.proofs.lemmas.Nat.Bits.{bit_at-lt, bit_at-zero, bit_at_and, bit_at_or, bit_at_not, bit_at_above, bit_at_cat_low, bit_at_cat_high}
use Rattle.pli_value.specs.Packing.{packed_bit}

-- ---- bits that are moved

-- a byte has the lowest bits of a number
low_bit : (n j : ℕ) → j < 8 → bit_at (n % 2 ^ 8) j ≡ bit_at n j
low_bit n j below =
    let split : n ≡ n / 2 ^ 8 * 2 ^ 8 + n % 2 ^ 8 = omega arith in
    sym (ap (λ (x : ℕ). bit_at x j) split ∙ bit_at_cat_low (n / 2 ^ 8) 8 (n % 2 ^ 8) j below)

moved_up : (a s j : ℕ) → j < 8 → bit_at (a * 2 ^ s % 2 ^ 8) j ≡ bit_at (a * 2 ^ s + 0) j
moved_up a s j below =
    let same : a * 2 ^ s ≡ a * 2 ^ s + 0 = omega arith in
    low_bit (a * 2 ^ s) j below ∙ ap (λ (x : ℕ). bit_at x j) same

-- moved up in a byte: a bit comes from so many places below, and zeros come from below them all
shl_moves : (a s j : ℕ) → s ≤ j → j < 8 → bit_at (a * 2 ^ s % 2 ^ 8) j ≡ bit_at a (j - s)
shl_moves a s j from below = moved_up a s j below ∙ bit_at_cat_high a s 0 j (pow_pos s) from

shl_blanks : (a s j : ℕ) → j < s → j < 8 → bit_at (a * 2 ^ s % 2 ^ 8) j ≡ 0
shl_blanks a s j low below = moved_up a s j below ∙ bit_at_cat_low a s 0 j low ∙ bit_at-zero j

-- moved down
shr_moves : (b k j : ℕ) → bit_at (b / 2 ^ k) j ≡ bit_at b (k + j)
shr_moves b k j = ap (λ x. x % 2) (shr-shr b k j)

-- ---- two bytes side by side

pub max_none : (x : ℕ) → max x 0 ≡ x
max_none x = omega arith

pub none_max : (x : ℕ) → max 0 x ≡ x
none_max x = omega arith

pub either_at : (x y j u v : ℕ) → bit_at x j ≡ u → bit_at y j ≡ v → bit_at (bit_or x y) j ≡ max u v
either_at x y j u v p q = bit_at_or x y j ∙ ap (λ k. max k (bit_at y j)) p ∙ ap (max u) q

pub across_front : (a b s i : ℕ) → b < 2 ^ 8 → s < 8 → i < 8 → s + i < 8
    → bit_at (bit_or (a * 2 ^ s % 2 ^ 8) (b / 2 ^ (7 - s) / 2 ^ 1)) (7 - i) ≡ bit_at a (7 - (s + i))
across_front a b s i small shift below within =
    let place : 7 - i - s ≡ 7 - (s + i) = omega arith in
    let over : 8 ≤ 7 - s + (1 + (7 - i)) = omega arith in
    let none : bit_at (b / 2 ^ (7 - s) / 2 ^ 1) (7 - i) ≡ 0 =
    shr_moves (b / 2 ^ (7 - s)) 1 (7 - i) ∙ shr_moves b (7 - s) (1 + (7 - i)) ∙ bit_at_above b 8 (7 - s + (1 + (7 - i))) small over in
    either_at (a * 2 ^ s % 2 ^ 8) (b / 2 ^ (7 - s) / 2 ^ 1) (7 - i) (bit_at a (7 - (s + i))) 0
    (shl_moves a s (7 - i) (omega arith) (omega arith) ∙ ap (bit_at a) place) none
    ∙ max_none (bit_at a (7 - (s + i)))

pub across_back : (a b s i : ℕ) → s < 8 → i < 8 → 8 ≤ s + i
    → bit_at (bit_or (a * 2 ^ s % 2 ^ 8) (b / 2 ^ (7 - s) / 2 ^ 1)) (7 - i) ≡ bit_at b (15 - (s + i))
across_back a b s i shift below over =
    let place : 7 - s + (1 + (7 - i)) ≡ 15 - (s + i) = omega arith in
    either_at (a * 2 ^ s % 2 ^ 8) (b / 2 ^ (7 - s) / 2 ^ 1) (7 - i) 0 (bit_at b (15 - (s + i)))
    (shl_blanks a s (7 - i) (omega arith) (omega arith))
    (shr_moves (b / 2 ^ (7 - s)) 1 (7 - i) ∙ shr_moves b (7 - s) (1 + (7 - i)) ∙ ap (bit_at b) place)
    ∙ none_max (bit_at b (15 - (s + i)))

placed : (bytes : List ℕ) (k q p : ℕ) → k ≡ p / 8 → q ≡ 7 - p % 8 → nat_eq (bit_at (slice_index bytes k) q) 1 ≡ packed_bit bytes p
placed bytes k q p byte bit =
    ap (λ (m : ℕ). nat_eq (bit_at (slice_index bytes m) q) 1) byte
    ∙ ap (λ (m : ℕ). nat_eq (bit_at (slice_index bytes (p / 8)) m) 1) bit

-- the bits of such a byte are those that are packed from a place on
pub in_window : (bytes : List ℕ) (p i byte : ℕ) → i < 8
    → (p % 8 + i < 8 → bit_at byte (7 - i) ≡ bit_at (slice_index bytes (p / 8)) (7 - (p % 8 + i)))
    → (8 ≤ p % 8 + i → bit_at byte (7 - i) ≡ bit_at (slice_index bytes (p / 8 + 1)) (15 - (p % 8 + i)))
    → nat_eq (bit_at byte (7 - i)) 1 ≡ packed_bit bytes (p + i)
in_window bytes p i byte below front back = elim (cases_lt (p % 8 + i) 8) [
  | inl within ↦ ap (λ (b : ℕ). nat_eq b 1) (front within) ∙ placed bytes (p / 8) (7 - (p % 8 + i)) (p + i) (omega arith) (omega arith)
  | inr over ↦ ap (λ (b : ℕ). nat_eq b 1) (back over) ∙ placed bytes (p / 8 + 1) (15 - (p % 8 + i)) (p + i) (omega arith) (omega arith)
]

-- ---- the first bits of a byte

pub first_kept : (b k i : ℕ) → i < 8 → k ≤ 7 - i → bit_at (b / 2 ^ k * 2 ^ k % 2 ^ 8) (7 - i) ≡ bit_at b (7 - i)
first_kept b k i below from =
    let place : k + (7 - i - k) ≡ 7 - i = omega arith in
    shl_moves (b / 2 ^ k) k (7 - i) from (omega arith) ∙ shr_moves b k (7 - i - k) ∙ ap (bit_at b) place

pub others_blank : (b k i : ℕ) → i < 8 → 7 - i < k → bit_at (b / 2 ^ k * 2 ^ k % 2 ^ 8) (7 - i) ≡ 0
others_blank b k i below low = shl_blanks (b / 2 ^ k) k (7 - i) low (omega arith)

-- ---- operations on bytes, bit by bit

least_is_both : (a b : ℕ) → a < 2 → b < 2 → nat_eq (min a b) 1 ≡ (nat_eq a 1 && nat_eq b 1)
least_is_both zero zero p q = refl
least_is_both zero (suc zero) p q = refl
least_is_both (suc zero) zero p q = refl
least_is_both (suc zero) (suc zero) p q = refl
least_is_both zero (suc (suc b)) p q = absurd (omega (arith, q))
least_is_both (suc zero) (suc (suc b)) p q = absurd (omega (arith, q))
least_is_both (suc (suc a)) b p q = absurd (omega (arith, p))

greatest_is_either : (a b : ℕ) → a < 2 → b < 2 → nat_eq (max a b) 1 ≡ (nat_eq a 1 || nat_eq b 1)
greatest_is_either zero zero p q = refl
greatest_is_either zero (suc zero) p q = refl
greatest_is_either (suc zero) zero p q = refl
greatest_is_either (suc zero) (suc zero) p q = refl
greatest_is_either zero (suc (suc b)) p q = absurd (omega (arith, q))
greatest_is_either (suc zero) (suc (suc b)) p q = absurd (omega (arith, q))
greatest_is_either (suc (suc a)) b p q = absurd (omega (arith, p))

rest_is_not : (a : ℕ) → a < 2 → nat_eq (1 - a) 1 ≡ not (nat_eq a 1)
rest_is_not zero p = refl
rest_is_not (suc zero) p = refl
rest_is_not (suc (suc a)) p = absurd (omega (arith, p))

pub both_bits : (x y j : ℕ) → nat_eq (bit_at (bit_and x y) j) 1 ≡ (nat_eq (bit_at x j) 1 && nat_eq (bit_at y j) 1)
both_bits x y j =
    ap (λ (b : ℕ). nat_eq b 1) (bit_at_and x y j) ∙ least_is_both (bit_at x j) (bit_at y j) (bit_at-lt x j) (bit_at-lt y j)

pub either_bit : (x y j : ℕ) → nat_eq (bit_at (bit_or x y) j) 1 ≡ (nat_eq (bit_at x j) 1 || nat_eq (bit_at y j) 1)
either_bit x y j =
    ap (λ (b : ℕ). nat_eq b 1) (bit_at_or x y j) ∙ greatest_is_either (bit_at x j) (bit_at y j) (bit_at-lt x j) (bit_at-lt y j)

pub turned_bit : (x j : ℕ) → x < 2 ^ 8 → j < 8 → nat_eq (bit_at (bit_not w8 x) j) 1 ≡ not (nat_eq (bit_at x j) 1)
turned_bit x j small below =
    ap (λ (b : ℕ). nat_eq b 1) (bit_at_not w8 x j small below) ∙ rest_is_not (bit_at x j) (bit_at-lt x j)
