-- Statements of a block or group, read by a loop.
use Rattle.std.proofs.Common.{◌≡◌, ◌<◌, ℕ, ◌+◌, suc, zero, List, [], ◌∷◌, ◌++◌, Option, Result, Ok, Err, length, refl, ap, ◌∙◌, sym, arith}
use Rattle.pli_base.specs.Words.{Tokens}
use Rattle.pli_base.specs.Results.{◌>>=◌}
use Rattle.pli_base.specs.Reading.{Front, read_as}
use Rattle.pli_base.specs.declared.syntax.Identifier.{Identifier}
use Rattle.pli_base.specs.declared.token.Fault.{Fault}
use Rattle.pli_base.specs.declared.failure.Failure.TheVariants as errors
use Rattle.pli_base.specs.Statements as tree
use Rattle.pli_base.specs.Statements.{count, list_count}
use Rattle.pli_parse_statement.specs.StatementWords.{Context}
use Rattle.pli_base.specs.views.StatementView.{statement_view, statements_view}
use Rattle.pli_base.specs.declared.statement.Statement.{Statement}
use Rattle.pli_parse_statement.specs.StatementReading.{StatementReader, Listing, NextStatement, EndsHere, Another, next_of, list_by, list_from, before, ending_at}
use Rattle.pli_base.specs.declared.failure.Failure.{Failure}
use Rattle.pli_base.specs.answers.FailureAnswers.{Fails}

-- statements in front of others
abbrev pub in_front : List Statement → tree.Statements → tree.Statements
in_front [] more = more
in_front (s ∷ ss) more = tree.Before (statement_view s) (in_front ss more)

in_front_of_end : (done : List Statement) → in_front done tree.Ended ≡ statements_view done
in_front_of_end [] = refl
in_front_of_end (s ∷ ss) = ap (tree.Before (statement_view s)) (in_front_of_end ss)

in_front_of_one : (done : List Statement) (s : Statement) (more : tree.Statements) → in_front done (tree.Before (statement_view s) more) ≡ in_front (done ++ s ∷ []) more
in_front_of_one [] s more = refl
in_front_of_one (d ∷ done) s more = ap (tree.Before (statement_view d)) (in_front_of_one done s more)

-- one statement more is counted
pub one_more : (done : List Statement) (s : Statement) → list_count (statements_view (done ++ s ∷ [])) ≡ list_count (statements_view done) + count (statement_view s)
one_more [] s = omega arith
one_more (d ∷ done) s = let e = one_more done s in omega (arith, e)

-- what was read before, and what is still read
abbrev pub with_rows : List Statement → Result (Front Listing) Fault → Result (Front Listing) Fault
with_rows done read = read >>= λ y. read_as (record { statements = in_front done y.value.statements; end = y.value.end }) y.next y.rest

regroup : (done : List Statement) (s : Statement) (read : Result (Front Listing) Fault) → with_rows done (read >>= before (statement_view s)) ≡ with_rows (done ++ s ∷ []) read
regroup done s (Ok y) = ap (λ ss. Ok (record { value = record { statements = ss; end = y.value.end }; next = y.next; rest = y.rest })) (in_front_of_one done s y.value.statements)
regroup done s (Err f) = refl

module _ (one : StatementReader) (c : Context) (label : Option Identifier) where
  -- with what was read before, the statements that are left are all of them
  abbrev pub RowsLeft : List Statement → (p k : ℕ) → Tokens → Result (Front Listing) Fault → Type 0
  RowsLeft done p k ts total = (bound : ℕ) × (length ts < bound) × (with_rows done (list_from one c label bound p k ts) ≡ total)

  pub begins : (done : List Statement) (p k : ℕ) (ts : Tokens) → done ≡ [] → RowsLeft done p k ts (list_from one c label (length ts + 1) p k ts)
  begins done p k ts empty = (length ts + 1, omega arith, begun done (list_from one c label (length ts + 1) p k ts) empty)
    where
      begun : (done : List Statement) (read : Result (Front Listing) Fault) → done ≡ [] → with_rows done read ≡ read
      begun done (Ok x) empty = ap (λ (d : List Statement). Ok (record { value = record { statements = in_front d x.value.statements; end = x.value.end }; next = x.next; rest = x.rest })) empty
      begun done (Err f) empty = refl

  module _ (done : List Statement) (p k : ℕ) (ts : Tokens) (total : Result (Front Listing) Fault) where
    turned : (bound : ℕ) (n : NextStatement) → next_of ts ≡ n → with_rows done (list_from one c label (suc bound) p k ts) ≡ total → with_rows done (list_by one c label (list_from one c label bound) p k ts n) ≡ total
    unfolding list_from
    turned bound n next so_far = sym (ap (λ n. with_rows done (list_by one c label (list_from one c label bound) p k ts n)) next) ∙ so_far

    pub goes_on : (s : Statement) (q : ℕ) (us : Tokens) (m : ℕ) → next_of ts ≡ Another → one c p k ts ≡ Ok (record { value = statement_view s; next = q; rest = us }) → m ≡ k + count (statement_view s) → length us < length ts
        → RowsLeft done p k ts total → RowsLeft (done ++ s ∷ []) q m us total
    goes_on s q us m next read counted less (zero, small, so_far) = absurd (omega arith)
    goes_on s q us m next read counted less (suc bound, small, so_far) = (
      bound,
      omega arith,
      sym (regroup done s (list_from one c label bound q m us))
          ∙ ap (λ m. with_rows done (list_from one c label bound q m us >>= before (statement_view s))) counted
          ∙ sym (ap (λ r. with_rows done (r >>= λ x. list_from one c label bound x.next (k + count x.value) x.rest >>= before x.value)) read)
          ∙ turned bound Another next so_far,
    )

    pub statement_fails : (e : Failure Fault) → next_of ts ≡ Another → Fails e (one c p k ts) → RowsLeft done p k ts total → Fails e total
    statement_fails errors.OutOfMemory next h left = tt
    statement_fails (errors.Fault f) next h (zero, small, so_far) = absurd (omega arith)
    statement_fails (errors.Fault f) next h (suc bound, small, so_far) =
        sym (turned bound Another next so_far) ∙ ap (λ r. with_rows done (r >>= λ x. list_from one c label bound x.next (k + count x.value) x.rest >>= before x.value)) h

    pub end_fails : (us : Tokens) (e : Failure Fault) → next_of ts ≡ EndsHere us → Fails e (ending_at label (p + 1) us) → RowsLeft done p k ts total → Fails e total
    end_fails us errors.OutOfMemory next h left = tt
    end_fails us (errors.Fault f) next h (zero, small, so_far) = absurd (omega arith)
    end_fails us (errors.Fault f) next h (suc bound, small, so_far) =
        sym (turned bound (EndsHere us) next so_far) ∙ ap (λ r. with_rows done (r >>= λ x. read_as (record { statements = tree.Ended; end = k }) x.next x.rest)) h

    pub ends : (us : Tokens) (q : ℕ) (vs : Tokens) → next_of ts ≡ EndsHere us → ending_at label (p + 1) us ≡ Ok (record { value = tt; next = q; rest = vs }) → RowsLeft done p k ts total
        → total ≡ read_as (record { statements = statements_view done; end = k }) q vs
    ends us q vs next read (zero, small, so_far) = absurd (omega arith)
    ends us q vs next read (suc bound, small, so_far) =
        sym (turned bound (EndsHere us) next so_far) ∙ ap (λ r. with_rows done (r >>= λ x. read_as (record { statements = tree.Ended; end = k }) x.next x.rest)) read
        ∙ ap (λ ss. Ok (record { value = record { statements = ss; end = k }; next = q; rest = vs })) (in_front_of_end done)
