-- Laws of the fronts of tokens.
use Rattle.std.specs.Prelude.{◌≡◌, ℕ, ◌+◌, ◌<◌, ◌≤◌, nat_lt, Bool, true, false, [], ◌++◌, length, take, drop}
use Rattle.std.proofs.Common.{refl, ap, ◌∙◌, sym, arith}
use Rattle.std.proofs.Math.Seq.{take-append_seam, drop-append_seam}
use Rattle.std.proofs.lemmas.Bool.{ltb-true, ltb-false}
use Rattle.std.proofs.lemmas.List.{append-nil, take-append-drop, take-append-le, drop-append-le}
use Rattle.pli_base.specs.Words.{Tokens}

-- a longer front has the shorter one and more
longer_front : (front rest longer more : Tokens) → front ++ rest ≡ longer ++ more
    → length front ≤ length longer → (us : Tokens) × (longer ≡ front ++ us) × (rest ≡ us ++ more)
longer_front front rest longer more whole small =
    let n : ℕ = length front in
    let first : take n longer ≡ front =
    sym (take-append-le n longer more small) ∙ ap (take n) (sym whole) ∙ take-append_seam front rest in (
      drop n longer,
      sym (take-append-drop n longer) ∙ ap (λ us. us ++ drop n longer) first,
      sym (drop-append_seam front rest) ∙ ap (drop n) whole ∙ drop-append-le n longer more small,
    )

-- a front is no longer than another that stands before what can't be more of it
pub no_longer : (next p : ℕ) (ts front rest longer more : Tokens) → ts ≡ front ++ rest → next ≡ p
    + length front → ts ≡ longer ++ more
    → ((us : Tokens) → longer ≡ front ++ us → rest ≡ us ++ more → us ≡ []) → p + length longer ≤ next
no_longer next p ts front rest longer more shape place whole none =
    by (nat_lt (length front) (length longer)) refl
  where
    by : (b : Bool) → nat_lt (length front) (length longer) ≡ b → p + length longer ≤ next
    by false e = omega (arith, ltb-false (length front) (length longer) e)
    by true e =
        let less : length front < length longer = ltb-true (length front) (length longer) e in
        let f = longer_front front rest longer more (sym shape ∙ whole) (omega arith) in
        let same : length longer ≡ length front =
        ap length (f.1 ∙ ap (λ us. front ++ us) (none f.0 f.1 f.2) ∙ append-nil front) in
        omega arith
