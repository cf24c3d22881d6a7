-- A reader's fault stands at one of the tokens, or at the last where they have ended.
use Rattle.std.proofs.Common.{◌≡◌, ◌≤◌, ◌+◌, ℕ, true, [], ◌∷◌, Result, Ok, Err, subst, arith}
use Rattle.pli_base.specs.FaultPlaces.{Passes}
use Rattle.pli_base.specs.laws.FaultPlaceLaws.{passes_on}
use Rattle.pli_base.specs.Words.{Tokens}
use Rattle.pli_base.specs.Results.{◌>>=◌}
use Rattle.pli_base.specs.Reading.{Front, misfit, read_as, mapped}
use Rattle.pli_base.specs.declared.code.Code.{Code}
use Rattle.pli_base.specs.declared.token.Fault.{Fault}
use Rattle.pli_parse_fault.specs.FaultCodes.{is_of_part, IsToldOf}
use Rattle.pli_parse_fault.proofs.StepLemmas.{same_err}
use Rattle.pli_parse_fault.proofs.ToldFaults.{told_first, told_ended, told_after}

-- what was read passes over so many tokens at least, and a fault stands at one of them
abbrev pub Stands : {A : Type 0} → (least p : ℕ) → Tokens → Result (Front A) Fault → Type 0
Stands least p ts (Ok x) = Passes least p ts x.next x.rest
Stands least p ts (Err f) = IsToldOf p ts f

pub misfit_stands : (code : Code) → is_of_part code ≡ true → (p : ℕ) (ts : Tokens) → IsToldOf p ts (misfit code p ts)
unfolding misfit
misfit_stands code part p [] = told_ended p
misfit_stands code part p (t ∷ ts) = told_first code part p (t ∷ ts) (omega arith)

-- with less passed over
pub at_least : {A : Type 0} (most least p : ℕ) (ts : Tokens) (r : Result (Front A) Fault) → least ≤ most → Stands most p ts r → Stands least p ts r
at_least most least p ts (Ok x) less h = (omega (arith, h.0), h.1)
at_least most least p ts (Err f) less h = h

-- after tokens that were passed over
pub stands_after : {A : Type 0} (a b p q : ℕ) (ts us : Tokens) (r : Result (Front A) Fault) → Passes a p ts q us → Stands b q us r → Stands (a + b) p ts r
stands_after a b p q ts us (Ok x) passed h = passes_on a b p q x.next ts us x.rest passed h
stands_after a b p q ts us (Err f) passed h = told_after a p q ts us f passed h

-- one step after another
pub stands_then : {A B : Type 0} (a b p : ℕ) (ts : Tokens) (r : Result (Front A) Fault) (f : Front A → Result (Front B) Fault)
    → Stands a p ts r → ((x : Front A) → Passes a p ts x.next x.rest → Stands b x.next x.rest (f x)) → Stands (a + b) p ts (r >>= f)
stands_then a b p ts (Ok x) f h more = stands_after a b p x.next ts x.rest (f x) h (more x h)
stands_then a b p ts (Err e) f h more = h

-- where something is made of what was read
pub stands_made : {A B : Type 0} (a p : ℕ) (ts : Tokens) (r : Result (Front A) Fault) (value : Front A → B) → Stands a p ts r → Stands a p ts (r >>= λ x. read_as (value x) x.next x.rest)
stands_made a p ts (Ok x) value h = h
stands_made a p ts (Err e) value h = h

pub mapped_stands : {A B : Type 0} (a p : ℕ) (ts : Tokens) (f : A → B) (r : Result (Front A) Fault) → Stands a p ts r → Stands a p ts (mapped f r)
mapped_stands a p ts f r h = stands_made a p ts r (λ x. f x.value) h

-- the fault that a reader gives
pub fault_of : {A : Type 0} (least p : ℕ) (ts : Tokens) (r : Result (Front A) Fault) (f : Fault) → Stands least p ts r → r ≡ Err f → IsToldOf p ts f
fault_of least p ts (Ok x) f h e = cc
fault_of least p ts (Err g) f h e = subst (IsToldOf p ts) (same_err e) h
