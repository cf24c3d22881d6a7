-- A walk through a nest, by a loop.
use Rattle.std.proofs.Common.{◌≡◌, ◌<◌, ◌+◌, ℕ, suc, zero, true, false, List, [], ◌∷◌, Result, Ok, length, refl, ap, ◌∙◌, sym, arith}
use Rattle.std.proofs.lemmas.Bool.{eqb-true}
use Rattle.pli_base.specs.Words.{Tokens}
use Rattle.pli_base.specs.Results.{◌>>=◌}
use Rattle.pli_base.specs.Reading.{Front, read_as}
use Rattle.pli_base.specs.declared.token.Fault.{Fault}
use Rattle.pli_base.specs.declared.failure.Failure.TheVariants as errors
use Rattle.pli_parse_declaration.specs.declared.nest.Open.{Open}
use Rattle.pli_parse_declaration.specs.declared.nest.Expects.{Expects}
use Rattle.pli_parse_declaration.specs.declared.nest.Expects.TheVariants as expects
use Rattle.pli_parse_declaration.specs.DeclarationReading.{Walk, step_at, is_over, walked_after, walked, nest_at}
use Rattle.pli_base.specs.declared.failure.Failure.{Failure}
use Rattle.pli_base.specs.answers.FailureAnswers.{Fails}

-- the walk from here is the whole walk
abbrev pub Walks : List Open → Expects → ℕ → Tokens → Result (Front (Unit {0})) Fault → Type 0
Walks opens what p ts total = (bound : ℕ) × (length ts < bound) × (walked bound opens what p ts ≡ total)

pub begins : (p : ℕ) (ts : Tokens) → Walks [] expects.Attribute p ts (nest_at p ts)
unfolding nest_at
begins p ts = (length ts + 1, omega arith, refl)

over : (more : List Open → Expects → ℕ → Tokens → Result (Front (Unit {0})) Fault) (opens : List Open) (what : Expects) (p : ℕ) (ts : Tokens) → is_over opens what ≡ true → walked_after more opens what p ts ≡ read_as tt p ts
over more [] expects.More p ts h = refl
over more (o ∷ opens) expects.More p ts h = absurd (omega (arith, eqb-true (length (o ∷ opens)) 0 h))
over more opens expects.Attribute p ts h = cc

not_over : (more : List Open → Expects → ℕ → Tokens → Result (Front (Unit {0})) Fault) (opens : List Open) (what : Expects) (p : ℕ) (ts : Tokens) → is_over opens what ≡ false → walked_after more opens what p ts ≡ more opens what p ts
not_over more [] expects.More p ts h = cc
not_over more (o ∷ opens) expects.More p ts h = refl
not_over more [] expects.Attribute p ts h = refl
not_over more (o ∷ opens) expects.Attribute p ts h = refl

module _ (opens : List Open) (what : Expects) (p : ℕ) (ts : Tokens) (total : Result (Front (Unit {0})) Fault) where
  turned : (bound : ℕ) (w : Walk) → step_at opens what p ts ≡ Ok w → walked (suc bound) opens what p ts ≡ total → walked_after (walked bound) w.opens w.expects w.next w.rest ≡ total
  unfolding walked
  turned bound w step so_far = sym (ap (λ r. r >>= λ v. walked_after (walked bound) v.opens v.expects v.next v.rest) step) ∙ so_far

  pub goes_on : (w : Walk) → step_at opens what p ts ≡ Ok w → length w.rest < length ts → is_over w.opens w.expects ≡ false → Walks opens what p ts total → Walks w.opens w.expects w.next w.rest total
  goes_on w step less left (zero, small, so_far) = absurd (omega arith)
  goes_on w step less left (suc bound, small, so_far) =
      (bound, omega arith, sym (not_over (walked bound) w.opens w.expects w.next w.rest left) ∙ turned bound w step so_far)

  pub is_done : (w : Walk) → step_at opens what p ts ≡ Ok w → is_over w.opens w.expects ≡ true → Walks opens what p ts total → total ≡ read_as tt w.next w.rest
  is_done w step ended (zero, small, so_far) = absurd (omega arith)
  is_done w step ended (suc bound, small, so_far) = sym (turned bound w step so_far) ∙ over (walked bound) w.opens w.expects w.next w.rest ended

  pub fails : (e : Failure Fault) → Fails e (step_at opens what p ts) → Walks opens what p ts total → Fails e total
  unfolding walked
  fails errors.OutOfMemory h left = tt
  fails (errors.Fault f) h (zero, small, so_far) = absurd (omega arith)
  fails (errors.Fault f) h (suc bound, small, so_far) = sym so_far ∙ ap (λ r. r >>= λ v. walked_after (walked bound) v.opens v.expects v.next v.rest) h
