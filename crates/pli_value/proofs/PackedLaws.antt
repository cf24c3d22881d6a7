-- Bytes are those of the bits that stand in them.
use Rattle.std.proofs.Common.{◌≡◌, ℕ, zero, suc, ◌+◌, ◌-◌, ◌*◌, ◌/◌, ◌%◌, ◌<◌, ◌≤◌, Bool, true, false, nat_eq, List, length, map, get_or, slice_index, refl, sym, ap, ◌∙◌, arith, inl, inr}
use Rattle.std.specs.Int.{bit_at}
use Rattle.std.specs.List.{range_with_len}
use Rattle.std.proofs.lemmas.Bool.{agree_below_at, eqb-true, cases_lt}
use Rattle.std.proofs.lemmas.List.FromFn.{fill_by_all, get_or-map-range_with_len, length-map-range_with_len}
use Rattle.pli_value.specs.Packing.{packed_bit, unpacked, IsPacked, byte_of, packed, worth}
use Rattle.pli_value.proofs.PackingLaws.{bit_at_place, bit_after, bits_counted}

-- a byte is that of its bits
byte_is : (b : ℕ) → b < 256 → byte_of (λ i. nat_eq (bit_at b (7 - i)) 1) ≡ b
byte_is b below = eqb-true _ _ (agree_below_at (λ b. nat_eq (byte_of (λ i. nat_eq (bit_at b (7 - i)) 1)) b) (λ b. true) 256 b refl below)

-- the byte of bits that are the same at each place
same_byte : (f g : ℕ → Bool) → f 0 ≡ g 0 → f 1 ≡ g 1 → f 2 ≡ g 2 → f 3 ≡ g 3 → f 4 ≡ g 4 → f 5 ≡ g 5 → f 6 ≡ g 6 → f 7 ≡ g 7 → byte_of f ≡ byte_of g
same_byte f g a b c d e h i j = rw (a, b, c, d, e, h, i, j)

-- a bit of the string is one of its bytes
pub bit_is : (n : ℕ) (bytes : List ℕ) (place : ℕ) → IsPacked n bytes → get_or (unpacked n bytes) place false ≡ packed_bit bytes place
bit_is n bytes place it = elim (cases_lt place n) [
  | inl below ↦ bit_at_place n bytes place below
  | inr over ↦ sym (bit_after n bytes place over) ∙ sym (it.blank place over)
]

pub bit_in_byte : (n : ℕ) (bytes : List ℕ) (k i : ℕ) → IsPacked n bytes → i < 8 → get_or (unpacked n bytes) (8 * k + i) false ≡ nat_eq (bit_at (slice_index bytes k) (7 - i)) 1
bit_in_byte n bytes k i it below =
    let byte : (8 * k + i) / 8 ≡ k = omega arith in
    let bit : (8 * k + i) % 8 ≡ i = omega arith in
    bit_is n bytes (8 * k + i) it ∙ ap (λ m. nat_eq (bit_at (slice_index bytes m) (7 - (8 * k + i) % 8)) 1) byte ∙ ap (λ m. nat_eq (bit_at (slice_index bytes k) (7 - m)) 1) bit

-- the same of a place that is told otherwise, and of the first byte
pub bit_there : (n : ℕ) (bytes : List ℕ) (p q : ℕ) → IsPacked n bytes → p ≡ q → packed_bit bytes p ≡ get_or (unpacked n bytes) q false
bit_there n bytes p q it is = ap (packed_bit bytes) is ∙ sym (bit_is n bytes q it)

pub bit_in_first : (n : ℕ) (bytes : List ℕ) (q j : ℕ) → IsPacked n bytes → q < 8 → j ≡ 7 - q
    → nat_eq (bit_at (get_or bytes 0 0) j) 1 ≡ get_or (unpacked n bytes) q false
bit_in_first n bytes q j it below is =
    let here : 8 * 0 + q ≡ q = omega arith in
    ap (λ (m : ℕ). nat_eq (bit_at (get_or bytes 0 0) m) 1) is
    ∙ sym (bit_in_byte n bytes 0 q it below)
    ∙ ap (λ (m : ℕ). get_or (unpacked n bytes) m false) here

-- what a string shows of bytes that hold it
pub bit_shown : (n : ℕ) (bytes : List ℕ) (s : List Bool) (p q : ℕ) → IsPacked n bytes → unpacked n bytes ≡ s → p ≡ q
    → packed_bit bytes p ≡ get_or s q false
bit_shown n bytes s p q it is same = bit_there n bytes p q it same ∙ ap (λ (bits : List Bool). get_or bits q false) is

byte_at : (n : ℕ) (bytes : List ℕ) (k : ℕ) → IsPacked n bytes → slice_index bytes k < 256 → slice_index bytes k ≡ byte_of (λ i. get_or (unpacked n bytes) (8 * k + i) false)
byte_at n bytes k it small =
    sym (byte_is (slice_index bytes k) small)
    ∙ sym (same_byte (λ i. get_or (unpacked n bytes) (8 * k + i) false) (λ i. nat_eq (bit_at (slice_index bytes k) (7 - i)) 1)
    (bit_in_byte n bytes k 0 it (omega arith)) (bit_in_byte n bytes k 1 it (omega arith)) (bit_in_byte n bytes k 2 it (omega arith)) (bit_in_byte n bytes k 3 it (omega arith))
    (bit_in_byte n bytes k 4 it (omega arith)) (bit_in_byte n bytes k 5 it (omega arith)) (bit_in_byte n bytes k 6 it (omega arith)) (bit_in_byte n bytes k 7 it (omega arith)))

-- such bytes are those of their bits
pub packed_is : (n : ℕ) (bytes : List ℕ) → IsPacked n bytes → ((k : ℕ) → slice_index bytes k < 256) → bytes ≡ packed (unpacked n bytes)
packed_is n bytes it small =
    let f : ℕ → ℕ = λ k. byte_of (λ i. get_or (unpacked n bytes) (8 * k + i) false) in
    fill_by_all f bytes ((n + 7) / 8) 0 it.needed (λ k below. byte_at n bytes k it (small k))
    ∙ ap (λ m. map f (range_with_len 0 ((m + 7) / 8))) (sym (bits_counted n bytes))

-- ---- and bits are those of their bytes

-- a bit is worth 0 or 1, and a bit of a greater value that many times as much
times_worth : (value : ℕ) (b : Bool) → (worth value b ≡ value * worth 1 b) × (worth 1 b ≤ 1)
times_worth value true = (omega arith, omega arith)
times_worth value false = (omega arith, omega arith)

one_if : (b : Bool) (n : ℕ) → n ≡ worth 1 b → nat_eq n 1 ≡ b
one_if true n e = rw e
one_if false n e = rw e

-- the bits of a byte are those of which it is made
bit_back : (f : ℕ → Bool) (i : ℕ) → i < 8 → nat_eq (bit_at (byte_of f) (7 - i)) 1 ≡ f i
bit_back f i below = by_place i below
  where
    fact : (v k : ℕ) → (worth v (f k) ≡ v * worth 1 (f k)) × (worth 1 (f k) ≤ 1)
    fact v k = times_worth v (f k)

    by_place : (i : ℕ) → i < 8 → nat_eq (bit_at (byte_of f) (7 - i)) 1 ≡ f i
    by_place zero h = one_if (f 0) _ (omega (arith, fact 128 0, fact 64 1, fact 32 2, fact 16 3, fact 8 4, fact 4 5, fact 2 6, fact 1 7))
    by_place (suc zero) h = one_if (f 1) _ (omega (arith, fact 128 0, fact 64 1, fact 32 2, fact 16 3, fact 8 4, fact 4 5, fact 2 6, fact 1 7))
    by_place (suc (suc zero)) h = one_if (f 2) _ (omega (arith, fact 128 0, fact 64 1, fact 32 2, fact 16 3, fact 8 4, fact 4 5, fact 2 6, fact 1 7))
    by_place (suc (suc (suc zero))) h = one_if (f 3) _ (omega (arith, fact 128 0, fact 64 1, fact 32 2, fact 16 3, fact 8 4, fact 4 5, fact 2 6, fact 1 7))
    by_place (suc (suc (suc (suc zero)))) h = one_if (f 4) _ (omega (arith, fact 128 0, fact 64 1, fact 32 2, fact 16 3, fact 8 4, fact 4 5, fact 2 6, fact 1 7))
    by_place (suc (suc (suc (suc (suc zero))))) h = one_if (f 5) _ (omega (arith, fact 128 0, fact 64 1, fact 32 2, fact 16 3, fact 8 4, fact 4 5, fact 2 6, fact 1 7))
    by_place (suc (suc (suc (suc (suc (suc zero)))))) h = one_if (f 6) _ (omega (arith, fact 128 0, fact 64 1, fact 32 2, fact 16 3, fact 8 4, fact 4 5, fact 2 6, fact 1 7))
    by_place (suc (suc (suc (suc (suc (suc (suc zero))))))) h = one_if (f 7) _ (omega (arith, fact 128 0, fact 64 1, fact 32 2, fact 16 3, fact 8 4, fact 4 5, fact 2 6, fact 1 7))
    by_place (suc (suc (suc (suc (suc (suc (suc (suc i)))))))) h = absurd (omega (arith, h))

bit_packed : (bits : List Bool) (k : ℕ) → k < length bits → packed_bit (packed bits) k ≡ get_or bits k false
bit_packed bits k below =
    let f : ℕ → ℕ = λ m. byte_of (λ i. get_or bits (8 * m + i) false) in
    let byte : slice_index (packed bits) (k / 8) ≡ f (k / 8) = get_or-map-range_with_len f 0 ((length bits + 7) / 8) (k / 8) (k / 8) 0 (omega arith) (omega arith) in
    let place : 8 * (k / 8) + k % 8 ≡ k = omega arith in
    ap (λ b. nat_eq (bit_at b (7 - k % 8)) 1) byte
    ∙ bit_back (λ i. get_or bits (8 * (k / 8) + i) false) (k % 8) (omega arith)
    ∙ ap (λ p. get_or bits p false) place

pub unpacked_packed : (bits : List Bool) → unpacked (length bits) (packed bits) ≡ bits
unpacked_packed bits =
    sym (fill_by_all (packed_bit (packed bits)) bits (length bits) false refl (λ k below. sym (bit_packed bits k below)))

pub packed_length : (bits : List Bool) → length (packed bits) ≡ (length bits + 7) / 8
packed_length bits = length-map-range_with_len (λ m. byte_of (λ i. get_or bits (8 * m + i) false)) 0 ((length bits + 7) / 8)
