-- Strings of few bits: what operations on their numbers make of each bit.
use Rattle.std.proofs.Common.{◌≡◌, ℕ, zero, suc, ◌+◌, ◌-◌, ◌*◌, ◌/◌, ◌%◌, ◌^◌, ◌<◌, ◌≤◌, ◌&&◌, ◌||◌, Bool, true, false, not, nat_eq, nat_le, max, min, bit_and, bit_or, bit_xor, List, [], ◌∷◌, ◌++◌, length, take, drop, get_or, Option, Some, None, if◌then◌else◌, le-leb, refl, sym, ap, ◌∙◌, subst, arith, inl, inr, pow_pos, pow_mono, shl_lt, shl_exact, shr-shr}
use Rattle.std.specs.Int.{bit_at}
use Rattle.std.proofs.lemmas.Bool.{cases_lt}
use Rattle.std.proofs.lemmas.List.{get_or_past, get_or_append_left, get_or-append_right, length-append}
use Rattle.std.proofs.lemmas.List.FromFn.{length-map-range_with_len, get_or-map-range_with_len}
use Rattle.std.proofs.lemmas.Nat.{or_lt, xor_lt, and_le_r}
use Rattle.std.proofs.lemmas.Nat.Bits.{bit_at-lt, bit_at-zero, bit_at_lowest, bit_at_and, bit_at_xor, bit_at_ones, bit_at_above, bit_at_cat_low, bit_at_cat_high}
use Rattle.pli_value.specs.Short.{bits_of}
use Rattle.pli_value.specs.Strings.{concatenation, conjunction, disjunction, fitted, negation}
use Rattle.pli_value.proofs.BitLoopLemmas.{tabulated, same_tabulated, itself_tabulated, piece_tabulated, map_is_tabulated, fitted_is_tabulated}
use Rattle.pli_value.proofs.ByteLemmas.{both_bits, either_bit, either_at, max_none, none_max}

-- ---- the bits of a number

pub counted : (c n : ℕ) → length (bits_of c n) ≡ c
counted c n = length-map-range_with_len (λ k. nat_eq (bit_at n (c - 1 - k)) 1) 0 c

pub bit_of : (c n k : ℕ) → k < c → get_or (bits_of c n) k false ≡ nat_eq (bit_at n (c - 1 - k)) 1
bit_of c n k below = get_or-map-range_with_len (λ k. nat_eq (bit_at n (c - 1 - k)) 1) 0 c k k false below (omega arith)

pub bit_past : (c n k : ℕ) → c ≤ k → get_or (bits_of c n) k false ≡ false
bit_past c n k over = get_or_past (bits_of c n) k false (omega (arith, counted c n))

-- ---- a number with zeros after its digits

pub widened_small : (c0 c n : ℕ) → n < 2 ^ c0 → c0 ≤ c → c ≤ 63 → n * 2 ^ (c - c0) % 2 ^ 64 < 2 ^ c
widened_small c0 c n small long few =
    let whole : c0 + (c - c0) ≡ c = omega arith in
    let P : ℕ → Type 0 = λ m. n * 2 ^ (c - c0) < 2 ^ m in
    let Q : ℕ → Type 0 = λ m. m < 2 ^ c in
    subst Q (sym (shl_exact c0 (c - c0) 64 small (omega arith))) (subst P whole (shl_lt c0 (c - c0) small))

pub widened_bit : (c0 c n k : ℕ) → n < 2 ^ c0 → c0 ≤ c → c ≤ 63 → k < c
    → nat_eq (bit_at (n * 2 ^ (c - c0) % 2 ^ 64) (c - 1 - k)) 1 ≡ get_or (bits_of c0 n) k false
widened_bit c0 c n k small long few below =
    let s : ℕ = c - c0 in
    let same : n * 2 ^ (c - c0) % 2 ^ 64 ≡ n * 2 ^ s + 0 = shl_exact c0 (c - c0) 64 small (omega arith) ∙ omega arith in
    ap (λ (x : ℕ). nat_eq (bit_at x (c - 1 - k)) 1) same
    ∙ elim (cases_lt k c0) [
      | inl within ↦ (let place : c - 1 - k - s ≡ c0 - 1 - k = omega arith in
          ap (λ (b : ℕ). nat_eq b 1) (bit_at_cat_high n s 0 (c - 1 - k) (pow_pos s) (omega arith) ∙ ap (bit_at n) place) ∙ sym (bit_of c0 n k within))
      | inr over ↦ ap (λ (b : ℕ). nat_eq b 1) (bit_at_cat_low n s 0 (c - 1 - k) (omega arith) ∙ bit_at-zero (c - 1 - k)) ∙ sym (bit_past c0 n k over)
    ]

-- ---- operations

module _ (s t : List Bool) (n x y : ℕ) (is : n ≡ max (length s) (length t))
    (left : (k : ℕ) → k < n → nat_eq (bit_at x (n - 1 - k)) 1 ≡ get_or s k false)
    (right : (k : ℕ) → k < n → nat_eq (bit_at y (n - 1 - k)) 1 ≡ get_or t k false) where
  pub and_shown : bits_of n (bit_and x y) ≡ conjunction s t
  and_shown =
      let f : ℕ → Bool = λ k. get_or s k false && get_or t k false in
      same_tabulated (λ k. nat_eq (bit_at (bit_and x y) (n - 1 - k)) 1) f n
      (λ k below. both_bits x y (n - 1 - k) ∙ ap (λ (b : Bool). b && nat_eq (bit_at y (n - 1 - k)) 1) (left k below)
      ∙ ap (λ (b : Bool). get_or s k false && b) (right k below))
      ∙ ap (tabulated f) is

  pub or_shown : bits_of n (bit_or x y) ≡ disjunction s t
  or_shown =
      let f : ℕ → Bool = λ k. get_or s k false || get_or t k false in
      same_tabulated (λ k. nat_eq (bit_at (bit_or x y) (n - 1 - k)) 1) f n
      (λ k below. either_bit x y (n - 1 - k) ∙ ap (λ (b : Bool). b || nat_eq (bit_at y (n - 1 - k)) 1) (left k below)
      ∙ ap (λ (b : Bool). get_or s k false || b) (right k below))
      ∙ ap (tabulated f) is

other_digit : (d : ℕ) → d < 2 → nat_eq ((d + 1) % 2) 1 ≡ not (nat_eq d 1)
other_digit zero p = refl
other_digit (suc zero) p = refl
other_digit (suc (suc d)) p = absurd (omega (arith, p))

turned_digit : (c n j : ℕ) → j < c → nat_eq (bit_at (bit_xor n (2 ^ c - 1)) j) 1 ≡ not (nat_eq (bit_at n j) 1)
turned_digit c n j below =
    ap (λ (b : ℕ). nat_eq b 1) (bit_at_xor n (2 ^ c - 1) j ∙ ap (λ (b : ℕ). (bit_at n j + b) % 2) (bit_at_ones c j below))
    ∙ other_digit (bit_at n j) (bit_at-lt n j)

pub not_small : (c n m : ℕ) → n < 2 ^ c → m ≡ 2 ^ c - 1 → bit_xor n m < 2 ^ c
not_small c n m small is = xor_lt c n m small (omega (arith, is, pow_pos c))

pub not_shown : (c n m : ℕ) → m ≡ 2 ^ c - 1 → bits_of c (bit_xor n m) ≡ negation (bits_of c n)
not_shown c n m is =
    let s : List Bool = bits_of c n in
    let f : ℕ → Bool = λ k. not (get_or s k false) in
    ap (λ (x : ℕ). bits_of c (bit_xor n x)) is
    ∙ same_tabulated (λ k. nat_eq (bit_at (bit_xor n (2 ^ c - 1)) (c - 1 - k)) 1) f c
    (λ k below. turned_digit c n (c - 1 - k) (omega arith) ∙ ap not (sym (bit_of c n k below)))
    ∙ ap (tabulated f) (sym (counted c n)) ∙ sym (map_is_tabulated not s false)

-- ---- one after the other

module _ (c d m n : ℕ) (small : m < 2 ^ c) (less : n < 2 ^ d) (few : c + d ≤ 63) where
  moved : m * 2 ^ d % 2 ^ 64 ≡ m * 2 ^ d
  moved = shl_exact c d 64 small (omega arith)

  pub concat_small : bit_or (m * 2 ^ d % 2 ^ 64) n < 2 ^ (c + d)
  concat_small =
      let Q : ℕ → Type 0 = λ x. x < 2 ^ (c + d) in
      let more : 2 ^ d ≤ 2 ^ (c + d) = pow_mono (omega arith) in
      or_lt (c + d) (m * 2 ^ d % 2 ^ 64) n (subst Q (sym moved) (shl_lt c d small)) (omega (arith, less, more))

  -- a digit of the sum is one of the first number's, or of the second's
  first_digit : (j : ℕ) → d ≤ j → bit_at (bit_or (m * 2 ^ d % 2 ^ 64) n) j ≡ bit_at m (j - d)
  first_digit j from =
      let same : m * 2 ^ d % 2 ^ 64 ≡ m * 2 ^ d + 0 = moved ∙ omega arith in
      let high : bit_at (m * 2 ^ d % 2 ^ 64) j ≡ bit_at m (j - d) = ap (λ (x : ℕ). bit_at x j) same ∙ bit_at_cat_high m d 0 j (pow_pos d) from in
      let none : bit_at n j ≡ 0 = bit_at_above n d j less from in
      either_at (m * 2 ^ d % 2 ^ 64) n j (bit_at m (j - d)) 0 high none ∙ max_none (bit_at m (j - d))

  second_digit : (j : ℕ) → j < d → bit_at (bit_or (m * 2 ^ d % 2 ^ 64) n) j ≡ bit_at n j
  second_digit j below =
      let same : m * 2 ^ d % 2 ^ 64 ≡ m * 2 ^ d + 0 = moved ∙ omega arith in
      let none : bit_at (m * 2 ^ d % 2 ^ 64) j ≡ 0 = ap (λ (x : ℕ). bit_at x j) same ∙ bit_at_cat_low m d 0 j below ∙ bit_at-zero j in
      either_at (m * 2 ^ d % 2 ^ 64) n j 0 (bit_at n j) none refl ∙ none_max (bit_at n j)

  digit_shown : (k : ℕ) → k < c + d → nat_eq (bit_at (bit_or (m * 2 ^ d % 2 ^ 64) n) (c + d - 1 - k)) 1 ≡ get_or (bits_of c m ++ bits_of d n) k false
  digit_shown k below = elim (cases_lt k c) [
    | inl within ↦ (let place : c + d - 1 - k - d ≡ c - 1 - k = omega arith in
        ap (λ (b : ℕ). nat_eq b 1) (first_digit (c + d - 1 - k) (omega arith) ∙ ap (bit_at m) place)
        ∙ sym (bit_of c m k within) ∙ sym (get_or_append_left (bits_of c m) (bits_of d n) false k (omega (arith, counted c m))))
    | inr over ↦ (let place : c + d - 1 - k ≡ d - 1 - (k - c) = omega arith in
        ap (λ (b : ℕ). nat_eq b 1) (second_digit (c + d - 1 - k) (omega arith) ∙ ap (bit_at n) place)
        ∙ sym (bit_of d n (k - c) (omega arith)) ∙ sym (get_or-append_right (bits_of c m) (bits_of d n) c k false (counted c m) over))
  ]

  joined : bits_of (c + d) (bit_or (m * 2 ^ d % 2 ^ 64) n) ≡ bits_of c m ++ bits_of d n
  joined =
      same_tabulated (λ k. nat_eq (bit_at (bit_or (m * 2 ^ d % 2 ^ 64) n) (c + d - 1 - k)) 1) (λ k. get_or (bits_of c m ++ bits_of d n) k false) (c + d) digit_shown
      ∙ sym (itself_tabulated (bits_of c m ++ bits_of d n) (c + d) (omega (arith, length-append (bits_of c m) (bits_of d n), counted c m, counted d n)))

  -- which is short enough for a string
  pub concat_shown : (s : List Bool) → s ≡ bits_of (c + d) (bit_or (m * 2 ^ d % 2 ^ 64) n) → concatenation (bits_of c m) (bits_of d n) ≡ Some s
  concat_shown s is =
      let both : List Bool = bits_of c m ++ bits_of d n in
      let nothing : Option (List Bool) = None in
      let fits : nat_le (length (bits_of c m) + length (bits_of d n)) 32767 ≡ true = le-leb _ _ (omega (arith, counted c m, counted d n)) in
      ap (λ (b : Bool). if b then Some both else nothing) fits ∙ ap Some (sym joined ∙ sym is)

-- ---- a part

pub part_small : (x c m : ℕ) → m ≡ 2 ^ c - 1 → bit_and x m < 2 ^ c
part_small x c m is = omega (arith, and_le_r x m, is, pow_pos c)

min_one : (d : ℕ) → d < 2 → min d 1 ≡ d
min_one d p = omega arith

kept_digit : (x c j : ℕ) → j < c → bit_at (bit_and x (2 ^ c - 1)) j ≡ bit_at x j
kept_digit x c j below =
    bit_at_and x (2 ^ c - 1) j ∙ ap (min (bit_at x j)) (bit_at_ones c j below) ∙ min_one (bit_at x j) (bit_at-lt x j)

pub part_shown : (all n before c m : ℕ) → before + c ≤ all → m ≡ 2 ^ c - 1
    → bits_of c (bit_and (n / 2 ^ (all - before - c)) m) ≡ take c (drop before (bits_of all n))
part_shown all n before c m within is =
    let after : ℕ = all - before - c in
    let s : List Bool = bits_of all n in
    ap (λ (x : ℕ). bits_of c (bit_and (n / 2 ^ (all - before - c)) x)) is
    ∙ same_tabulated (λ k. nat_eq (bit_at (bit_and (n / 2 ^ (all - before - c)) (2 ^ c - 1)) (c - 1 - k)) 1) (λ k. get_or s (before + k) false) c
    (λ k below. let place : after + (c - 1 - k) ≡ all - 1 - (before + k) = omega arith in
    ap (λ (b : ℕ). nat_eq b 1) (kept_digit (n / 2 ^ after) c (c - 1 - k) (omega arith) ∙ ap (λ (x : ℕ). x % 2) (shr-shr n after (c - 1 - k)) ∙ ap (bit_at n) place)
    ∙ sym (bit_of all n (before + k) (omega arith)))
    ∙ sym (piece_tabulated s before c (omega (arith, counted all n)))

-- ---- fitted

pub lengthened_shown : (s : List Bool) (n x : ℕ) → ((k : ℕ) → k < n → nat_eq (bit_at x (n - 1 - k)) 1 ≡ get_or s k false) → bits_of n x ≡ fitted false n s
lengthened_shown s n x bits =
    same_tabulated (λ k. nat_eq (bit_at x (n - 1 - k)) 1) (λ k. get_or s k false) n bits ∙ sym (fitted_is_tabulated false n s)

pub cut_shown : (s : List Bool) (n : ℕ) → n ≤ length s → take n (drop 0 s) ≡ fitted false n s
cut_shown s n within =
    piece_tabulated s 0 n (omega arith)
    ∙ same_tabulated (λ k. get_or s (0 + k) false) (λ k. get_or s k false) n (λ k below. let same : 0 + k ≡ k = omega arith in ap (λ (m : ℕ). get_or s m false) same)
    ∙ sym (fitted_is_tabulated false n s)

-- ---- one bit

one_digit : (n : ℕ) → n < 2 ^ 1 → bits_of 1 n ≡ nat_eq n 1 ∷ []
one_digit n small =
    let same : bit_at n 0 ≡ n = bit_at_lowest n ∙ omega arith in
    ap (λ (b : ℕ). nat_eq b 1 ∷ []) same

pub lone_shown : (c n : ℕ) → c ≡ 1 → n < 2 ^ c → bits_of c n ≡ nat_eq n 1 ∷ []
lone_shown c n is small =
    let P : ℕ → Type 0 = λ k. n < 2 ^ k in
    ap (λ (k : ℕ). bits_of k n) is ∙ one_digit n (subst P is small)
