-- Strings of few bits as the number that their bytes are, the highest byte first.
use Rattle.std.proofs.Common.{◌≡◌, ℕ, zero, suc, ◌+◌, ◌-◌, ◌*◌, ◌/◌, ◌%◌, ◌^◌, ◌<◌, ◌≤◌, Bool, nat_eq, List, [], ◌++◌, length, take, drop, slice_index, refl, sym, ap, ◌∙◌, subst, arith, inl, inr, append-nil, pow_pos, shl_lt, shl_exact, shr-shr, shr_lt}
use Rattle.std.specs.Int.{bit_at, bytes_high_first, div_ceil}
use Rattle.std.proofs.lemmas.Bool.{cases_lt}
use Rattle.std.proofs.lemmas.List.{drop_all, length-take-le}
use Rattle.std.proofs.lemmas.Nat.Bits.{bit_at_cat_low, bit_at_cat_high}
use Rattle.byteorder.specs.Endian.{big_bytes, big_from, big_number}
use Rattle.byteorder.specs.Numbers.{big_from-lt, big_number-reads_back, length-bytes_high_first}
use Rattle.byteorder.proofs.Bytes.{pow256}
use Rattle.pli_map.specs.Description.{Bit}
use Rattle.pli_map.specs.Sizes.{size_of}
use Rattle.pli_value.specs.Packing.{packed_bit, unpacked}
use Rattle.pli_value.specs.Short.{bits_of}
use Rattle.pli_value.specs.Value.{Bits}
use Rattle.pli_value.proofs.BitLoopLemmas.{same_tabulated}
use Rattle.pli_bytes.specs.Changes.{IsPut}
use Rattle.pli_bytes.specs.Contents.{value_of}
use Rattle.pli_bytes.proofs.PutFront.{put_front}

-- bytes, each with eight binary digits
abbrev pub AreBytes : List ℕ → Type 0
AreBytes bytes = (k : ℕ) → slice_index bytes k < 256

-- a binary digit of the number that bytes are is a bit of one of them
digit_is : (bytes : List ℕ) → AreBytes bytes → (n i p : ℕ) → p < 8 * n → bit_at (big_from i n bytes) (8 * n - 1 - p) ≡ bit_at (slice_index bytes (i + p / 8)) (7 - p % 8)
digit_is bytes range zero i p below = absurd (omega (arith, below))
digit_is bytes range (suc n) i p below =
    let first : ℕ = slice_index bytes i in
    let rest : ℕ = big_from (suc i) n bytes in
    let digit : ℕ = 8 * suc n - 1 - p in
    let P : ℕ → Type 0 = λ m. rest < m in
    let less : rest < 2 ^ (8 * n) = subst P (pow256 n) (big_from-lt (suc i) n bytes range) in
    let shape : big_from i (suc n) bytes ≡ first * 2 ^ (8 * n) + rest = ap (λ (m : ℕ). first * m + rest) (pow256 n) in
    ap (λ (x : ℕ). bit_at x digit) shape
    ∙ elim (cases_lt p 8) [
      | inl high ↦ (let place : digit - 8 * n ≡ 7 - p % 8 = omega arith in
          let byte : i ≡ i + p / 8 = omega arith in
          bit_at_cat_high first (8 * n) rest digit less (omega arith) ∙ ap (bit_at first) place
          ∙ ap (λ (k : ℕ). bit_at (slice_index bytes k) (7 - p % 8)) byte)
      | inr low ↦ (let place : digit ≡ 8 * n - 1 - (p - 8) = omega arith in
          let byte : suc i + (p - 8) / 8 ≡ i + p / 8 = omega arith in
          let bit : 7 - (p - 8) % 8 ≡ 7 - p % 8 = omega arith in
          bit_at_cat_low first (8 * n) rest digit (omega arith) ∙ ap (bit_at rest) place
          ∙ digit_is bytes range n (suc i) (p - 8) (omega arith)
          ∙ ap (λ (k : ℕ). bit_at (slice_index bytes k) (7 - (p - 8) % 8)) byte
          ∙ ap (bit_at (slice_index bytes (i + p / 8))) bit)
    ]

-- the same of all bytes, by the place of the bit among them
packed_digit : (bytes : List ℕ) (size k : ℕ) → AreBytes bytes → k < 8 * size → nat_eq (bit_at (big_number size bytes) (8 * size - 1 - k)) 1 ≡ packed_bit bytes k
packed_digit bytes size k range below =
    let byte : 0 + k / 8 ≡ k / 8 = omega arith in
    ap (λ (b : ℕ). nat_eq b 1) (digit_is bytes range size 0 k below ∙ ap (λ (m : ℕ). bit_at (slice_index bytes m) (7 - k % 8)) byte)

-- ---- read

module _ (bytes : List ℕ) (count size x : ℕ) (range : AreBytes bytes) (sized : size ≡ div_ceil count 8) (is : x ≡ big_number size bytes) where
  pub read_small : x / 2 ^ (8 * size - count) < 2 ^ count
  read_small =
      let whole : 8 * size ≡ count + (8 * size - count) = omega (arith, sized) in
      let P : ℕ → Type 0 = λ m. x < m in
      let Q : ℕ → Type 0 = λ y. y < 256 ^ size in
      let R : ℕ → Type 0 = λ m. x < 2 ^ m in
      shr_lt count (8 * size - count) (subst R whole (subst P (pow256 size) (subst Q (sym is) (big_from-lt 0 size bytes range))))

  pub read_shown : bits_of count (x / 2 ^ (8 * size - count)) ≡ unpacked count bytes
  read_shown =
      let s : ℕ = 8 * size - count in
      same_tabulated (λ k. nat_eq (bit_at (x / 2 ^ (8 * size - count)) (count - 1 - k)) 1) (packed_bit bytes) count
      (λ k below. let place : s + (count - 1 - k) ≡ 8 * size - 1 - k = omega (arith, sized) in
      ap (λ (b : ℕ). nat_eq b 1) (ap (λ (y : ℕ). y % 2) (shr-shr x s (count - 1 - k)) ∙ ap (bit_at x) place ∙ ap (λ (y : ℕ). bit_at y (8 * size - 1 - k)) is)
      ∙ packed_digit bytes size k range (omega (arith, sized)))

-- ---- put

-- the bytes of a number are such
are_bytes : (n x : ℕ) → AreBytes (bytes_high_first n x)
are_bytes zero x zero = omega arith
are_bytes zero x (suc k) = omega arith
are_bytes (suc zero) x zero = omega arith
are_bytes (suc (suc n)) x zero = omega arith
are_bytes (suc n) x (suc k) = are_bytes n x k

module _ (count size n : ℕ) (sized : size ≡ div_ceil count 8) (few : count ≤ 63) (small : n < 2 ^ count) where
  pad : ℕ
  pad = 8 * size - count

  whole : count + (8 * size - count) ≡ 8 * size
  whole = omega (arith, sized)

  moved : n * 2 ^ (8 * size - count) % 2 ^ 64 ≡ n * 2 ^ (8 * size - count)
  moved = shl_exact count (8 * size - count) 64 small (omega (arith, sized))

  -- nothing is lost where its bytes are written
  pub put_fits : n * 2 ^ (8 * size - count) % 2 ^ 64 < 256 ^ size
  put_fits =
      let P : ℕ → Type 0 = λ m. n * 2 ^ (8 * size - count) < 2 ^ m in
      let Q : ℕ → Type 0 = λ m. n * 2 ^ (8 * size - count) < m in
      let R : ℕ → Type 0 = λ y. y < 256 ^ size in
      subst R (sym moved) (subst Q (sym (pow256 size)) (subst P whole (shl_lt count (8 * size - count) small)))

  front_shown : unpacked count (big_bytes size (n * 2 ^ (8 * size - count) % 2 ^ 64)) ≡ bits_of count n
  front_shown =
      let x : ℕ = n * 2 ^ (8 * size - count) % 2 ^ 64 in
      let front : List ℕ = big_bytes size x in
      let s : ℕ = 8 * size - count in
      let back : big_number size front ≡ x = ap (big_number size) (sym (append-nil front)) ∙ big_number-reads_back size x [] put_fits in
      let shape : x ≡ n * 2 ^ s + 0 = moved ∙ omega arith in
      same_tabulated (packed_bit front) (λ k. nat_eq (bit_at n (count - 1 - k)) 1) count
      (λ k below. let place : 8 * size - 1 - k - s ≡ count - 1 - k = omega (arith, sized) in
      sym (packed_digit front size k (are_bytes size x) (omega (arith, sized)))
      ∙ ap (λ (b : ℕ). nat_eq b 1) (ap (λ (y : ℕ). bit_at y (8 * size - 1 - k)) (back ∙ shape)
      ∙ bit_at_cat_high n s 0 (8 * size - 1 - k) (pow_pos s) (omega (arith, sized)) ∙ ap (bit_at n) place))

  pub short_put : (old new : List ℕ) → div_ceil count 8 ≤ length old → new ≡ big_bytes size (n * 2 ^ (8 * size - count) % 2 ^ 64) ++ drop size old
      → IsPut (Bit count) (Bits (bits_of count n)) 0 old new
  short_put old new inside is =
      let x : ℕ = n * 2 ^ (8 * size - count) % 2 ^ 64 in
      let front : List ℕ = big_bytes size x in
      let long : length front ≡ size = length-bytes_high_first size x in
      let held : List ℕ = take (size_of (Bit count)) old in
      let held_long : length held ≡ div_ceil count 8 = length-take-le (size_of (Bit count)) old inside in
      let none : drop (length front) held ≡ [] = drop_all (length front) held (omega (arith, long, held_long, sized)) in
      put_front (Bit count) (Bits (bits_of count n)) front old new (omega (arith, long, sized)) inside
      (is ∙ ap (λ (k : ℕ). front ++ drop k old) (sym long))
      (ap (λ (l : List ℕ). value_of (Bit count) (front ++ l)) none ∙ ap (value_of (Bit count)) (append-nil front) ∙ ap Bits front_shown)

-- no bits take no bytes
pub none_put : (count n : ℕ) → count ≡ 0 → (old : List ℕ) → IsPut (Bit count) (Bits (bits_of count n)) 0 old old
none_put count n is old =
    let P : ℕ → Type 0 = λ k. IsPut (Bit k) (Bits (bits_of k n)) 0 old old in
    subst P (sym is) (record { bytes = []; size = refl; hold = refl; put = refl })

pub none_shown : (count : ℕ) (bytes : List ℕ) (s : List Bool) → count ≡ 0 → s ≡ [] → s ≡ unpacked count bytes
none_shown count bytes s is empty =
    let P : ℕ → Type 0 = λ k. s ≡ unpacked k bytes in
    subst P (sym is) empty

-- one byte alone
pub one_byte : (bytes : List ℕ) (x : ℕ) → x ≡ slice_index bytes 0 → x ≡ big_number 1 bytes
one_byte bytes x is = omega (arith, is)
