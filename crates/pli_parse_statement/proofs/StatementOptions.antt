-- Options of a procedure, read by a loop.
use Rattle.std.proofs.Common.{◌≡◌, ◌<◌, ℕ, ◌+◌, suc, zero, List, [], ◌∷◌, ◌++◌, Some, None, Result, Ok, Err, length, refl, ap, ◌∙◌, sym, arith, append_assoc, append-nil}
use Rattle.pli_base.specs.Words.{Tokens}
use Rattle.pli_base.specs.Results.{◌>>=◌}
use Rattle.pli_base.specs.Reading.{Front, read_as, mapped}
use Rattle.pli_base.specs.declared.token.Fault.{Fault}
use Rattle.pli_base.specs.declared.failure.Failure.TheVariants as errors
use Rattle.pli_parse_declaration.specs.DeclarationReading.{returned_at}
use Rattle.pli_parse_declaration.proofs.DeclarationLists.{with_done}
use Rattle.pli_base.specs.Statements.{ProcedureOption}
use Rattle.pli_parse_statement.specs.StatementReading.{OptionWord, OptionsWord, ReturnsWord, RecursiveWord, option_first, options_by, options_from}
use Rattle.pli_parse_statement.specs.answers.StatementAnswers.{option_of}
use Rattle.pli_base.specs.declared.failure.Failure.{Failure}
use Rattle.pli_base.specs.answers.FailureAnswers.{Fails}

-- with what was read before, the options that are left are all of them
abbrev pub OptionsLeft : List ProcedureOption → ℕ → Tokens → Result (Front (List ProcedureOption)) Fault → Type 0
OptionsLeft done p ts total = (bound : ℕ) × (length ts < bound) × (with_done done (options_from bound p ts) ≡ total)

abbrev Reader : Type 0
Reader = ℕ → Tokens → Result (Front (List ProcedureOption)) Fault

abbrev front_of : ProcedureOption → Result (Front (List ProcedureOption)) Fault → Result (Front (List ProcedureOption)) Fault
front_of o read = mapped (λ os. o ∷ os) read

mapped_twice : (more : Reader) (read : Result (Front _) Fault)
    → (read >>= λ x. front_of (ProcedureOption.Returns x.value) (more x.next x.rest)) ≡ (mapped ProcedureOption.Returns read >>= λ x. front_of x.value (more x.next x.rest))
mapped_twice more (Ok x) = refl
mapped_twice more (Err f) = refl

-- an option, and then what more reads
by_option : (more : Reader) (p : ℕ) (ts us : Tokens) (w : OptionWord) → options_by more p ts (Some (w, us)) ≡ (option_of w (p + 1) us >>= λ x. front_of x.value (more x.next x.rest))
by_option more p ts us OptionsWord = refl
by_option more p ts us ReturnsWord = mapped_twice more (returned_at (p + 1) us)
by_option more p ts us RecursiveWord = refl

regroup : (done : List ProcedureOption) (o : ProcedureOption) (read : Result (Front (List ProcedureOption)) Fault) → with_done done (front_of o read) ≡ with_done (done ++ o ∷ []) read
regroup done o (Ok y) = ap (λ os. Ok (record { value = os; next = y.next; rest = y.rest })) (simp append_assoc)
regroup done o (Err f) = refl

-- at the beginning nothing was read before
pub begins : (done : List ProcedureOption) (p : ℕ) (ts : Tokens) → done ≡ [] → OptionsLeft done p ts (options_from (length ts + 1) p ts)
begins done p ts empty = (length ts + 1, omega arith, begun done (options_from (length ts + 1) p ts) empty)
  where
    begun : (done : List ProcedureOption) (read : Result (Front (List ProcedureOption)) Fault) → done ≡ [] → with_done done read ≡ read
    begun done (Ok x) empty = ap (λ (d : List ProcedureOption). Ok (record { value = d ++ x.value; next = x.next; rest = x.rest })) empty
    begun done (Err f) empty = refl

module _ (done : List ProcedureOption) (p : ℕ) (ts : Tokens) (total : Result (Front (List ProcedureOption)) Fault) where
  turned : (bound : ℕ) (w : OptionWord) (us : Tokens) → option_first ts ≡ Some (w, us) → with_done done (options_from (suc bound) p ts) ≡ total
      → with_done done (option_of w (p + 1) us >>= λ x. front_of x.value (options_from bound x.next x.rest)) ≡ total
  unfolding options_from
  turned bound w us first so_far = sym (ap (with_done done) (ap (options_by (options_from bound) p ts) first ∙ by_option (options_from bound) p ts us w)) ∙ so_far

  pub goes_on : (w : OptionWord) (us : Tokens) (x : Front ProcedureOption) → option_first ts ≡ Some (w, us) → option_of w (p + 1) us ≡ Ok x → length x.rest < length ts → OptionsLeft done p ts total
      → OptionsLeft (done ++ x.value ∷ []) x.next x.rest total
  goes_on w us x first read less (zero, small, so_far) = absurd (omega arith)
  goes_on w us x first read less (suc bound, small, so_far) = (
    bound,
    omega arith,
    sym (regroup done x.value (options_from bound x.next x.rest))
        ∙ sym (ap (λ r. with_done done (r >>= λ x. front_of x.value (options_from bound x.next x.rest))) read)
        ∙ turned bound w us first so_far,
  )

  pub fails : (w : OptionWord) (us : Tokens) (e : Failure Fault) → option_first ts ≡ Some (w, us) → Fails e (option_of w (p + 1) us) → OptionsLeft done p ts total → Fails e total
  fails w us errors.OutOfMemory first h left = tt
  fails w us (errors.Fault f) first h (zero, small, so_far) = absurd (omega arith)
  fails w us (errors.Fault f) first h (suc bound, small, so_far) =
      sym (turned bound w us first so_far) ∙ ap (λ r. with_done done (r >>= λ x. front_of x.value (options_from bound x.next x.rest))) h

  pub is_done : option_first ts ≡ None → OptionsLeft done p ts total → total ≡ read_as done p ts
  unfolding options_from
  is_done none (zero, small, so_far) = absurd (omega arith)
  is_done none (suc bound, small, so_far) = sym so_far ∙ ap (λ o. with_done done (options_by (options_from bound) p ts o)) none ∙ ap (λ d. Ok (record { value = d; next = p; rest = ts })) (simp append-nil)
