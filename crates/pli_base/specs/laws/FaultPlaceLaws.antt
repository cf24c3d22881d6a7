-- Laws of the places of faults.
use Rattle.std.specs.Prelude.{◌≡◌, ℕ, suc, ◌+◌, ◌-◌, ◌<◌, [], ◌∷◌, length}
use Rattle.std.proofs.Common.{refl, ap, ◌∙◌, arith, inl, inr, ⊎_elim}
use Rattle.pli_base.specs.Words.{Tokens}
use Rattle.pli_base.specs.FaultPlaces.{StandsAtToken, FaultStands, Passes}
use Rattle.pli_base.specs.declared.code.Code.{Code}
use Rattle.pli_base.specs.declared.code.Code.TheVariants.{EndMissing}
use Rattle.pli_base.specs.declared.token.Fault.{Fault}

-- nothing was passed over
pub passes_none : (p : ℕ) (ts : Tokens) → Passes 0 p ts p ts
passes_none p ts = (omega arith, refl)

-- one token was
pub passes_one : (p : ℕ) (ts us : Tokens) → length ts ≡ suc (length us) → Passes 1 p ts (p + 1) us
passes_one p ts us one = (omega arith, omega arith)

pub passes_two : (p : ℕ) (ts us : Tokens) → length ts ≡ suc (suc (length us)) → Passes 2 p ts (p + 2) us
passes_two p ts us both = (omega arith, omega arith)

pub passes_on : (a b p q r : ℕ) (ts us vs : Tokens) → Passes a p ts q us → Passes b q us r vs
    → Passes (a + b) p ts r vs
passes_on a b p q r ts us vs first second =
    (omega (arith, first.0, second.0), omega (arith, first.1, second.1))

-- a fault at the first token
pub fault_first : (code : Code) (p : ℕ) (ts : Tokens) → 0 < length ts
    → FaultStands p ts (record { code = code; at = p })
fault_first code p ts some = inl (omega arith, omega arith)

-- where the tokens have ended
pub fault_last : (p : ℕ) (ts : Tokens)
    → FaultStands p ts (record { code = EndMissing; at = p + length ts - 1 })
fault_last p ts = inr (refl, refl)

pub fault_ended : (p : ℕ) → FaultStands p [] (record { code = EndMissing; at = p - 1 })
fault_ended p =
    let none : p ≡ p + 0 = omega arith in
    inr (refl, ap (λ n. n - 1) none)

-- a fault after what was passed over
pub fault_after : (least p q : ℕ) (ts us : Tokens) (f : Fault) → Passes least p ts q us → FaultStands q us f
    → FaultStands p ts f
fault_after least p q ts us f passed stands =
    ⊎_elim (λ here. inl (
      omega (arith, passed.0, here.0),
      omega (arith, passed.1, here.1),
    )) (λ end. inr (end.0, end.1 ∙ ap (λ n. n - 1) passed.1)) stands

-- of a whole text
pub fault_of_text : (ts : Tokens) (f : Fault) → FaultStands 0 ts f → StandsAtToken ts f
fault_of_text [] f stands = ⊎_elim (λ here. absurd (omega (arith, here.1))) (λ end. end.1) stands
fault_of_text (t ∷ ts) f stands = ⊎_elim (λ here. omega (arith, here.1)) (λ end. omega (arith, end.1)) stands
