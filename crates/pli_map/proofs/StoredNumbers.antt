-- Numbers in bytes.
use Rattle.std.proofs.Common.{◌≡◌, ℕ, ◌+◌, ◌^◌, ◌<◌, ◌≤◌, ℤ, unsigned_abs, nat_le, true, false, List, [], ◌++◌, length, take, drop, replicate, ◌-◌, refl, ap, sym, ◌∙◌, subst, arith, append-nil, ◌⊎◌, inl, inr}
use Rattle.std.specs.Int.{Width, w16, w32, w64, cast_signed, cast_unsigned}
use Rattle.std.proofs.lemmas.Bool.{le-leb, lt-leb, cases_lt}
use Rattle.std.proofs.lemmas.Int.{to_z-of_z, fits_signed_from_abs}
use Rattle.std.proofs.lemmas.List.{drop_all, take_at, drop_at, length-take, length-drop, length-append}
use borrow.Rule.Slice.PartMut.{put_mid}
use Rattle.std.proofs.Math.Facts.{Fits-of_z}
use Rattle.std.proofs.Math.Nat.{pow-le-pow_right}
use mir.Val.{SFits}
use Rattle.byteorder.specs.Endian.{big_bytes, big_number}
use Rattle.byteorder.specs.Numbers.{big_number-reads_back}
use Rattle.pli_map.specs.Sizes.{number_bytes}
use Rattle.pli_map.specs.StoredValues.{width_of}

-- the three widths
pub is_16 : (p : ℕ) → p ≤ 15 → (width_of p ≡ w16) × (number_bytes p ≡ 2)
is_16 p h = let e : nat_le p 15 ≡ true = le-leb _ _ h in (rw e, rw e)

pub is_32 : (p : ℕ) → 15 < p → p ≤ 31 → (width_of p ≡ w32) × (number_bytes p ≡ 4)
is_32 p g h =
    let e : nat_le p 15 ≡ false = lt-leb _ _ g in
    let f : nat_le p 31 ≡ true = le-leb _ _ h in
    (rw (e, f), rw (e, f))

pub is_64 : (p : ℕ) → 31 < p → (width_of p ≡ w64) × (number_bytes p ≡ 8)
is_64 p h =
    let e : nat_le p 15 ≡ false = lt-leb _ _ (omega arith) in
    let f : nat_le p 31 ≡ false = lt-leb _ _ h in
    (rw (e, f), rw (e, f))

fits_in : (p bits : ℕ) (n : ℕ) → p ≤ bits → n < 2 ^ p → n < 2 ^ bits
fits_in p bits n h k =
    let grows : 2 ^ p ≤ 2 ^ bits = pow-le-pow_right {n = 2} (omega arith) {i = p} {j = bits} h in
    omega (arith, k, grows)

pub fits_16 : (p : ℕ) (x : ℤ) → p ≤ 15 → unsigned_abs x < 2 ^ p → SFits w16 x
fits_16 p x h k = fits_signed_from_abs w16 x (fits_in p 15 (unsigned_abs x) h k)

pub fits_32 : (p : ℕ) (x : ℤ) → p ≤ 31 → unsigned_abs x < 2 ^ p → SFits w32 x
fits_32 p x h k = fits_signed_from_abs w32 x (fits_in p 31 (unsigned_abs x) h k)

pub fits_64 : (p : ℕ) (x : ℤ) → p ≤ 63 → unsigned_abs x < 2 ^ p → SFits w64 x
fits_64 p x h k = fits_signed_from_abs w64 x (fits_in p 63 (unsigned_abs x) h k)

-- what is written, where the number is cast to its width first
pub written_16 : (p : ℕ) (x : ℤ) (bytes new : List ℕ) → p ≤ 15 → SFits w64 x → unsigned_abs x < 2 ^ p → length bytes ≡ number_bytes p
    → new ≡ big_bytes 2 (cast_unsigned w16 (cast_signed w16 (cast_unsigned w16 (cast_signed w64 (cast_unsigned w64 x))))) ++ drop 2 bytes
    → new ≡ big_bytes (number_bytes p) (cast_unsigned (width_of p) x)
written_16 p x bytes new h sx held size is =
    let w = is_16 p h in
    let nothing : drop 2 bytes ≡ [] = drop_all 2 bytes (omega (arith, size, w.1)) in
    is ∙ ap (λ y. big_bytes 2 (cast_unsigned w16 (cast_signed w16 (cast_unsigned w16 y))) ++ drop 2 bytes) (to_z-of_z w64 x sx)
    ∙ ap (λ y. big_bytes 2 (cast_unsigned w16 y) ++ drop 2 bytes) (to_z-of_z w16 x (fits_16 p x h held))
    ∙ ap (λ l. big_bytes 2 (cast_unsigned w16 x) ++ l) nothing ∙ append-nil (big_bytes 2 (cast_unsigned w16 x))
    ∙ ap (λ n. big_bytes n (cast_unsigned w16 x)) (sym w.1) ∙ ap (λ v. big_bytes (number_bytes p) (cast_unsigned v x)) (sym w.0)

pub written_32 : (p : ℕ) (x : ℤ) (bytes new : List ℕ) → 15 < p → p ≤ 31 → SFits w64 x → unsigned_abs x < 2 ^ p → length bytes ≡ number_bytes p
    → new ≡ big_bytes 4 (cast_unsigned w32 (cast_signed w32 (cast_unsigned w32 (cast_signed w64 (cast_unsigned w64 x))))) ++ drop 4 bytes
    → new ≡ big_bytes (number_bytes p) (cast_unsigned (width_of p) x)
written_32 p x bytes new g h sx held size is =
    let w = is_32 p g h in
    let nothing : drop 4 bytes ≡ [] = drop_all 4 bytes (omega (arith, size, w.1)) in
    is ∙ ap (λ y. big_bytes 4 (cast_unsigned w32 (cast_signed w32 (cast_unsigned w32 y))) ++ drop 4 bytes) (to_z-of_z w64 x sx)
    ∙ ap (λ y. big_bytes 4 (cast_unsigned w32 y) ++ drop 4 bytes) (to_z-of_z w32 x (fits_32 p x h held))
    ∙ ap (λ l. big_bytes 4 (cast_unsigned w32 x) ++ l) nothing ∙ append-nil (big_bytes 4 (cast_unsigned w32 x))
    ∙ ap (λ n. big_bytes n (cast_unsigned w32 x)) (sym w.1) ∙ ap (λ v. big_bytes (number_bytes p) (cast_unsigned v x)) (sym w.0)

-- what is written is read
read_back : (n : ℕ) (w : Width) (x : ℤ) → cast_unsigned w x < 256 ^ n → SFits w x → cast_signed w (big_number n (big_bytes n (cast_unsigned w x))) ≡ x
read_back n w x below fits =
    let plain = ap (big_number n) (sym (append-nil (big_bytes n (cast_unsigned w x)))) ∙ big_number-reads_back n (cast_unsigned w x) [] below in
    ap (cast_signed w) plain ∙ to_z-of_z w x fits

at_most : (p n : ℕ) → (p ≤ n) ⊎ (n < p)
at_most p n = elim (cases_lt n p) [ inl h ↦ inr h | inr h ↦ inl h ]

pub number_read_back : (p : ℕ) (x : ℤ) → p ≤ 63 → unsigned_abs x < 2 ^ p
    → cast_signed (width_of p) (big_number (number_bytes p) (big_bytes (number_bytes p) (cast_unsigned (width_of p) x))) ≡ x
number_read_back p x limit held = by_width (at_most p 15) (at_most p 31)
  where
    Claim : Width → ℕ → Type 0
    Claim w n = cast_signed w (big_number n (big_bytes n (cast_unsigned w x))) ≡ x

    moved : (w : Width) (n : ℕ) → (width_of p ≡ w) × (number_bytes p ≡ n) → Claim w n → Claim (width_of p) (number_bytes p)
    moved w n is claim = subst (λ v. Claim v (number_bytes p)) (sym is.0) (subst (λ k. Claim w k) (sym is.1) claim)

    by_width : (p ≤ 15) ⊎ (15 < p) → (p ≤ 31) ⊎ (31 < p) → Claim (width_of p) (number_bytes p)
    by_width (inl a) b = let f = fits_16 p x a held in moved w16 2 (is_16 p a) (read_back 2 w16 x (Fits-of_z f).fits f)
    by_width (inr a) (inl b) = let f = fits_32 p x b held in moved w32 4 (is_32 p a b) (read_back 4 w32 x (Fits-of_z f).fits f)
    by_width (inr a) (inr b) = let f = fits_64 p x limit held in moved w64 8 (is_64 p b) (read_back 8 w64 x (Fits-of_z f).fits f)

-- text and the zeros after it
pub extended : (text bytes copied filled : List ℕ) → length text ≤ length bytes → copied ≡ text
    → filled ≡ replicate (length (take (length (copied ++ drop (length text) bytes) - length text) (drop (length text) (copied ++ drop (length text) bytes)))) 0
    → put_mid (length text) (length (copied ++ drop (length text) bytes) - length text) (copied ++ drop (length text) bytes) filled
    ≡ text ++ replicate (length bytes - length text) 0
extended text bytes copied filled fits copied_is filled_is =
    let n = length text in
    let rest = drop n bytes in
    let xs = copied ++ rest in
    let rest_length : length rest ≡ length bytes - n = length-drop n bytes in
    let whole : xs ≡ text ++ rest = ap (λ l. l ++ rest) copied_is in
    let whole_length : length xs ≡ n + length rest = ap length whole ∙ length-append text rest in
    let front : take n xs ≡ text = ap (take n) whole ∙ take_at text rest n refl in
    let back : drop n xs ≡ rest = ap (drop n) whole ∙ drop_at text rest n refl in
    let back_length : length (drop n xs) ≡ length rest = ap length back in
    let count : length (take (length xs - n) (drop n xs)) ≡ length bytes - n = omega (arith, length-take (length xs - n) (drop n xs), back_length, rest_length, whole_length) in
    let nothing : drop (length xs - n) (drop n xs) ≡ [] = drop_all (length xs - n) (drop n xs) (omega (arith, back_length, whole_length)) in
    ap (λ l. l ++ (filled ++ drop (length xs - n) (drop n xs))) front
    ∙ ap (λ l. text ++ (filled ++ l)) nothing ∙ ap (λ l. text ++ l) (append-nil filled ∙ filled_is ∙ ap (λ m. replicate m 0) count)
