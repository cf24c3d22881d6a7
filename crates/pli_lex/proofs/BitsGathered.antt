-- The bits of digits, as a loop gathers them.
use Rattle.std.proofs.Common.{◌≡◌, ℕ, zero, suc, ◌+◌, ◌*◌, ◌%◌, ◌<◌, ◌≤◌, ◌^◌, Bool, true, ltb, cond, Option, Some, None, List, [], ◌∷◌, ◌++◌, length, get_or, take, refl, sym, subst, ap, ◌∙◌, append_assoc, arith}
use Rattle.std.proofs.lemmas.Bool.{and_from, le-ltb}
use Rattle.std.proofs.lemmas.List.{append-nil, take_more, take_all}
use Rattle.std.proofs.lemmas.List.Folds.{list_all_more, list_all_at}
use Rattle.pli_lex.specs.Characters.{digit_value}
use Rattle.pli_lex.specs.Tokens.{are_digits, bits_of, bits_in}

bits_after : (width : ℕ) (digits : List ℕ) (digit : ℕ) → bits_in width (digits ++ digit ∷ []) ≡ bits_in width digits ++ bits_of width (digit_value digit)
bits_after width [] digit = append-nil (bits_of width (digit_value digit))
bits_after width (d ∷ ds) digit =
    ap (λ bits. bits_of width (digit_value d) ++ bits) (bits_after width ds digit) ∙ sym (append_assoc (bits_of width (digit_value d)) (bits_in width ds) (bits_of width (digit_value digit)))

pub more_bits : (width : ℕ) (digits : List ℕ) (i : ℕ) → i < length digits → bits_in width (take (i + 1) digits) ≡ bits_in width (take i digits) ++ bits_of width (digit_value (get_or digits i 0))
more_bits width digits i lt = ap (bits_in width) (take_more digits i 0 lt) ∙ bits_after width (take i digits) (get_or digits i 0)

pub more_digits : (width : ℕ) (digits : List ℕ) (i : ℕ) → i < length digits → are_digits width (take i digits) ≡ true → ltb (digit_value (get_or digits i 0)) (2 ^ width) ≡ true → are_digits width (take (i + 1) digits) ≡ true
more_digits width digits i lt before here = list_all_more _ digits i 0 lt ∙ and_from _ _ before here

-- a power of two that a byte holds
small_power : (width : ℕ) → width ≤ 4 → (1 * 2 ^ width) % 256 ≡ 2 ^ width
small_power zero h = refl
small_power (suc zero) h = refl
small_power (suc (suc zero)) h = refl
small_power (suc (suc (suc zero))) h = refl
small_power (suc (suc (suc (suc zero)))) h = refl
small_power (suc (suc (suc (suc (suc n))))) h = absurd (omega arith)

-- a digit that has more bits
pub no_bits : (width : ℕ) (digits : List ℕ) (i value : ℕ) → width ≤ 4 → i < length digits → value ≡ digit_value (get_or digits i 0) → (1 * 2 ^ width) % 256 ≤ value
    → ◌≡◌ {A = Option (List Bool)} None (cond (are_digits width digits) (Some (bits_in width digits)) None)
no_bits width digits i value small lt is great =
    let more : 2 ^ width ≤ digit_value (get_or digits i 0) = subst (λ v. 2 ^ width ≤ v) is (subst (λ n. n ≤ value) (small_power width small) great) in
    ap (λ b. cond b (Some (bits_in width digits)) None) (sym (list_all_at (λ digit. ltb (digit_value digit) (2 ^ width)) digits i 0 lt (le-ltb _ _ more)))

-- the bits of all digits
pub all_bits : (width : ℕ) (digits : List ℕ) (i : ℕ) (bits : List Bool) → length digits ≤ i → bits ≡ bits_in width (take i digits) → are_digits width (take i digits) ≡ true
    → ◌≡◌ {A = Option (List Bool)} (Some bits) (cond (are_digits width digits) (Some (bits_in width digits)) None)
all_bits width digits i bits past gathered fit =
    let whole : take i digits ≡ digits = take_all i digits past in
    ap (λ bs. Some bs) (gathered ∙ ap (bits_in width) whole) ∙ ap (λ b. cond b (Some (bits_in width digits)) None) (sym (ap (are_digits width) (sym whole) ∙ fit))
