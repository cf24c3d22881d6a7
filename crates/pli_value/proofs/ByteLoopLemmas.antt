-- Strings of bits that are made a byte at a time: what stands there so far, and one byte more.
use Rattle.std.proofs.Common.{◌≡◌, ℕ, ◌+◌, ◌-◌, ◌*◌, ◌/◌, ◌%◌, ◌<◌, ◌≤◌, Bool, true, false, ◌&&◌, ◌||◌, max, nat_eq, bit_and, bit_or, List, [], ◌∷◌, ◌++◌, length, get_or, refl, sym, ap, ◌∙◌, subst, arith, inl, inr}
use Rattle.std.specs.Int.{bit_at}
use Rattle.std.proofs.lemmas.Bool.{cases_lt}
use Rattle.std.proofs.lemmas.List.{length_push, get_or_past, get_or_push, get_or_append_left, get_or-append_right}
use Rattle.std.proofs.lemmas.Nat.Bits.{bit_at-zero}
use Rattle.pli_value.specs.Packing.{packed_bit, unpacked, IsPacked}
use Rattle.pli_value.proofs.BitLoopLemmas.{tabulated, same_tabulated}
use Rattle.pli_value.proofs.ByteLemmas.{both_bits, either_bit}

-- so many bytes hold what a function gives at the places of their bits, and zeros from the place n on
pub record AreFilled (f : ℕ → Bool) (n k : ℕ) (bytes : List ℕ) : Type 0 where
  pub counted : length bytes ≡ k
  pub held : (place : ℕ) → place < 8 * k → place < n → packed_bit bytes place ≡ f place
  pub blank : (place : ℕ) → place < 8 * k → n ≤ place → packed_bit bytes place ≡ false

-- and one byte does so from a place on
pub record Fills (f : ℕ → Bool) (n from byte : ℕ) : Type 0 where
  pub held : (i : ℕ) → i < 8 → from + i < n → nat_eq (bit_at byte (7 - i)) 1 ≡ f (from + i)
  pub blank : (i : ℕ) → i < 8 → n ≤ from + i → nat_eq (bit_at byte (7 - i)) 1 ≡ false

pub none_filled : (f : ℕ → Bool) (n : ℕ) (bytes : List ℕ) → bytes ≡ [] → AreFilled f n 0 bytes
none_filled f n bytes is = record {
  counted = ap length is;
  held = λ place below within. absurd (omega (arith, below));
  blank = λ place below over. absurd (omega (arith, below));
}

-- a bit of the bytes before, and one of the last byte
byte_before : (now : List ℕ) (b place : ℕ) → place / 8 < length now → packed_bit (now ++ b ∷ []) place ≡ packed_bit now place
byte_before now b place below =
    ap (λ (x : ℕ). nat_eq (bit_at x (7 - place % 8)) 1) (get_or_append_left now (b ∷ []) 0 (place / 8) below)

byte_last : (now : List ℕ) (b place i : ℕ) → place ≡ 8 * length now + i → i < 8 → packed_bit (now ++ b ∷ []) place ≡ nat_eq (bit_at b (7 - i)) 1
byte_last now b place i is below =
    let here : length now ≡ place / 8 = omega arith in
    let bit : place % 8 ≡ i = omega arith in
    ap (λ (x : ℕ). nat_eq (bit_at x (7 - place % 8)) 1) (get_or_push now b 0 (place / 8) here)
    ∙ ap (λ (m : ℕ). nat_eq (bit_at b (7 - m)) 1) bit

module _ (f : ℕ → Bool) (n k : ℕ) (now : List ℕ) (b : ℕ) (it : AreFilled f n k now) (fills : Fills f n (8 * k) b) where
  held_more : (place : ℕ) → place < 8 * (k + 1) → place < n → packed_bit (now ++ b ∷ []) place ≡ f place
  held_more place below within = elim (cases_lt place (8 * k)) [
    | inl before ↦ byte_before now b place (omega (arith, it.counted)) ∙ it.held place before within
    | inr from ↦ (let back : 8 * k + (place - 8 * k) ≡ place = omega arith in
        byte_last now b place (place - 8 * k) (omega (arith, it.counted)) (omega arith)
        ∙ fills.held (place - 8 * k) (omega arith) (omega arith) ∙ ap f back)
  ]

  blank_more : (place : ℕ) → place < 8 * (k + 1) → n ≤ place → packed_bit (now ++ b ∷ []) place ≡ false
  blank_more place below over = elim (cases_lt place (8 * k)) [
    | inl before ↦ byte_before now b place (omega (arith, it.counted)) ∙ it.blank place before over
    | inr from ↦ byte_last now b place (place - 8 * k) (omega (arith, it.counted)) (omega arith)
        ∙ fills.blank (place - 8 * k) (omega arith) (omega arith)
  ]

  pushed : AreFilled f n (k + 1) (now ++ b ∷ [])
  pushed = record {
    counted = length_push now b ∙ ap (λ m. m + 1) it.counted;
    held = held_more;
    blank = blank_more;
  }

  pub one_filled : (next : List ℕ) → next ≡ now ++ b ∷ [] → AreFilled f n (k + 1) next
  one_filled next is = let P : List ℕ → Type 0 = λ xs. AreFilled f n (k + 1) xs in subst P (sym is) pushed

-- where there are as many bytes as so many bits need, these are packed in them
module _ (f : ℕ → Bool) (n k : ℕ) (bytes : List ℕ) (is : k ≡ (n + 7) / 8) (it : AreFilled f n k bytes) where
  none_after : (place : ℕ) → n ≤ place → packed_bit bytes place ≡ false
  none_after place over = elim (cases_lt place (8 * k)) [
    | inl within ↦ it.blank place within over
    | inr past ↦ ap (λ (x : ℕ). nat_eq (bit_at x (7 - place % 8)) 1) (get_or_past bytes (place / 8) 0 (omega (arith, it.counted)))
        ∙ ap (λ (x : ℕ). nat_eq x 1) (bit_at-zero (7 - place % 8))
  ]

  pub all_filled : n ≤ 32767 → IsPacked n bytes
  all_filled limit = record { needed = it.counted ∙ is; blank = none_after; limit = limit }

  pub filled_is : unpacked n bytes ≡ tabulated f n
  filled_is = same_tabulated (packed_bit bytes) f n (λ place below. it.held place (omega (arith, is)) below)

-- ---- which bytes fill

-- a byte has eight bits of a string from a place on, and zeros after its end
abbrev pub IsOctet : List Bool → ℕ → ℕ → Type 0
IsOctet s from x = (i : ℕ) → i < 8 → nat_eq (bit_at x (7 - i)) 1 ≡ get_or s (from + i) false

none_or : (b : Bool) → (false || b) ≡ b
none_or true = refl
none_or false = refl

or_none : (b : Bool) → (b || false) ≡ b
or_none true = refl
or_none false = refl

module _ (s t : List Bool) (n from x y : ℕ) (is : n ≡ max (length s) (length t)) (left : IsOctet s from x) (right : IsOctet t from y) where
  -- where both strings have ended
  left_over : (i : ℕ) → i < 8 → n ≤ from + i → nat_eq (bit_at x (7 - i)) 1 ≡ false
  left_over i below over = left i below ∙ get_or_past s (from + i) false (omega (arith, is))

  right_over : (i : ℕ) → i < 8 → n ≤ from + i → nat_eq (bit_at y (7 - i)) 1 ≡ false
  right_over i below over = right i below ∙ get_or_past t (from + i) false (omega (arith, is))

  pub both_fill : Fills (λ k. get_or s k false && get_or t k false) n from (bit_and x y)
  both_fill = record {
    held = λ i below within. both_bits x y (7 - i) ∙ ap (λ (b : Bool). b && nat_eq (bit_at y (7 - i)) 1) (left i below)
        ∙ ap (λ (b : Bool). get_or s (from + i) false && b) (right i below);
    blank = λ i below over. both_bits x y (7 - i) ∙ ap (λ (b : Bool). b && nat_eq (bit_at y (7 - i)) 1) (left_over i below over)
        ∙ ap (λ (b : Bool). false && b) (right_over i below over);
  }

  pub either_fill : Fills (λ k. get_or s k false || get_or t k false) n from (bit_or x y)
  either_fill = record {
    held = λ i below within. either_bit x y (7 - i) ∙ ap (λ (b : Bool). b || nat_eq (bit_at y (7 - i)) 1) (left i below)
        ∙ ap (λ (b : Bool). get_or s (from + i) false || b) (right i below);
    blank = λ i below over. either_bit x y (7 - i) ∙ ap (λ (b : Bool). b || nat_eq (bit_at y (7 - i)) 1) (left_over i below over)
        ∙ ap (λ (b : Bool). false || b) (right_over i below over);
  }

-- the first bits of a byte, up to the place n
pub first_fill : (f : ℕ → Bool) (n from x r : ℕ)
    → ((i : ℕ) → i < 8 → from + i < n → nat_eq (bit_at x (7 - i)) 1 ≡ f (from + i))
    → ((i : ℕ) → i < 8 → i < n - from → bit_at r (7 - i) ≡ bit_at x (7 - i))
    → ((i : ℕ) → i < 8 → n - from ≤ i → bit_at r (7 - i) ≡ 0) → Fills f n from r
first_fill f n from x r is kept others = record {
  held = λ i below within. ap (λ (b : ℕ). nat_eq b 1) (kept i below (omega arith)) ∙ is i below within;
  blank = λ i below over. ap (λ (b : ℕ). nat_eq b 1) (others i below (omega arith));
}

-- a byte of one string with one of what stands after it
module _ (s t : List Bool) (m n from x y : ℕ) (front : length s ≡ m) (whole : length t + m ≡ n) (left : IsOctet s from x)
    (none : (i : ℕ) → i < 8 → from + i < m → nat_eq (bit_at y (7 - i)) 1 ≡ false)
    (some : (i : ℕ) → i < 8 → m ≤ from + i → nat_eq (bit_at y (7 - i)) 1 ≡ get_or t (from + i - m) false) where
  in_front : (i : ℕ) → i < 8 → from + i < m → nat_eq (bit_at (bit_or x y) (7 - i)) 1 ≡ get_or (s ++ t) (from + i) false
  in_front i below before =
      either_bit x y (7 - i) ∙ ap (λ (b : Bool). nat_eq (bit_at x (7 - i)) 1 || b) (none i below before)
      ∙ or_none (nat_eq (bit_at x (7 - i)) 1) ∙ left i below
      ∙ sym (get_or_append_left s t false (from + i) (omega (arith, front)))

  in_back : (i : ℕ) → i < 8 → m ≤ from + i → nat_eq (bit_at (bit_or x y) (7 - i)) 1 ≡ get_or t (from + i - m) false
  in_back i below over =
      either_bit x y (7 - i)
      ∙ ap (λ (b : Bool). b || nat_eq (bit_at y (7 - i)) 1) (left i below ∙ get_or_past s (from + i) false (omega (arith, front)))
      ∙ none_or (nat_eq (bit_at y (7 - i)) 1) ∙ some i below over

  join_held : (i : ℕ) → i < 8 → from + i < n → nat_eq (bit_at (bit_or x y) (7 - i)) 1 ≡ get_or (s ++ t) (from + i) false
  join_held i below within = elim (cases_lt (from + i) m) [
    | inl before ↦ in_front i below before
    | inr over ↦ in_back i below over ∙ sym (get_or-append_right s t m (from + i) false front over)
  ]

  pub join_fill : Fills (λ k. get_or (s ++ t) k false) n from (bit_or x y)
  join_fill = record {
    held = join_held;
    blank = λ i below over. in_back i below (omega (arith, whole)) ∙ get_or_past t (from + i - m) false (omega (arith, whole));
  }
