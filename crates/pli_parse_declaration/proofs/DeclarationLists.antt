-- A list, read by a loop.
use Rattle.std.proofs.Common.{◌≡◌, ◌<◌, ℕ, suc, zero, List, [], ◌∷◌, ◌++◌, Some, None, Result, Ok, Err, length, refl, ap, ◌∙◌, sym, arith, append_assoc}
use Rattle.pli_base.specs.Words.{Tokens}
use Rattle.pli_base.specs.Results.{◌>>=◌}
use Rattle.pli_base.specs.Reading.{Front, read_as}
use Rattle.pli_base.specs.declared.token.Fault.{Fault}
use Rattle.pli_base.specs.declared.failure.Failure.TheVariants as errors
use Rattle.pli_parse_declaration.specs.DeclarationReading.{listed_after, listed_at}
use Rattle.pli_base.specs.declared.failure.Failure.{Failure}
use Rattle.pli_base.specs.answers.FailureAnswers.{Fails}
use Rattle.pli_parse_declaration.specs.Separators.{separated, after_separator}
use Rattle.pli_parse_declaration.specs.declared.list.Separator.{Separator}

-- what was read before, and what is still read
abbrev pub with_done : {A : Type 0} → List A → Result (Front (List A)) Fault → Result (Front (List A)) Fault
with_done done read = read >>= λ y. read_as (done ++ y.value) y.next y.rest

-- with what was read before, the list that is left is all of it
abbrev pub Left : {A : Type 0} → Separator → (one : ℕ → Tokens → Result (Front A) Fault) → List A → ℕ → Tokens → Result (Front (List A)) Fault → Type 0
Left separator one done p ts total = (bound : ℕ) × (length ts < bound) × (with_done done (listed_at separator one bound p ts) ≡ total)

regroup : {A : Type 0} → (done : List A) (v : A) (read : Result (Front (List A)) Fault)
    → with_done done (read >>= λ y. read_as (v ∷ y.value) y.next y.rest) ≡ with_done (done ++ v ∷ []) read
regroup done v (Ok y) = ap (λ vs. Ok (record { value = vs; next = y.next; rest = y.rest })) (simp append_assoc)
regroup done v (Err f) = refl

module _ {A : Type 0} (separator : Separator) (one : ℕ → Tokens → Result (Front A) Fault) (done : List A) (p : ℕ) (ts : Tokens) (total : Result (Front (List A)) Fault) where
  turned : (bound : ℕ) (x : Front A) → one p ts ≡ Ok x → with_done done (listed_at separator one (suc bound) p ts) ≡ total → with_done done (listed_after separator (listed_at separator one bound) x (separated separator x.rest)) ≡ total
  unfolding listed_at
  turned bound x read so_far = sym (ap (λ r. with_done done (r >>= λ y. listed_after separator (listed_at separator one bound) y (separated separator y.rest))) read) ∙ so_far

  pub goes_on : (x : Front A) (us : Tokens) → one p ts ≡ Ok x → length us < length ts → separated separator x.rest ≡ Some us → Left separator one done p ts total
      → Left separator one (done ++ x.value ∷ []) (after_separator separator x.next) us total
  goes_on x us read less found (zero, small, so_far) = absurd (omega arith)
  goes_on x us read less found (suc bound, small, so_far) = (
    bound,
    omega arith,
    sym (regroup done x.value (listed_at separator one bound (after_separator separator x.next) us))
        ∙ sym (ap (λ o. with_done done (listed_after separator (listed_at separator one bound) x o)) found)
        ∙ turned bound x read so_far,
  )

  pub is_done : (x : Front A) → one p ts ≡ Ok x → separated separator x.rest ≡ None → Left separator one done p ts total → total ≡ read_as (done ++ x.value ∷ []) x.next x.rest
  is_done x read none (zero, small, so_far) = absurd (omega arith)
  is_done x read none (suc bound, small, so_far) =
      sym (turned bound x read so_far) ∙ ap (λ o. with_done done (listed_after separator (listed_at separator one bound) x o)) none

  pub fails : (e : Failure Fault) → Fails e (one p ts) → Left separator one done p ts total → Fails e total
  unfolding listed_at
  fails errors.OutOfMemory h left = tt
  fails (errors.Fault f) h (zero, small, so_far) = absurd (omega arith)
  fails (errors.Fault f) h (suc bound, small, so_far) =
      sym so_far ∙ ap (λ r. with_done done (r >>= λ y. listed_after separator (listed_at separator one bound) y (separated separator y.rest))) h
