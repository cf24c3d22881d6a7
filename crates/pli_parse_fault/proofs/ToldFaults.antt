-- Laws of the codes and places of faults.
use Rattle.std.proofs.Common.{◌≡◌, ℕ, ◌+◌, ◌-◌, ◌<◌, true, [], length, refl, ap, ◌∙◌, arith, inl, inr, ⊎_elim}
use Rattle.pli_base.specs.Words.{Tokens}
use Rattle.pli_base.specs.FaultPlaces.{FaultStands, Passes}
use Rattle.pli_base.specs.declared.code.Code.{Code}
use Rattle.pli_base.specs.declared.code.Code.TheVariants.{EndMissing}
use Rattle.pli_base.specs.declared.token.Fault.{Fault}
use Rattle.pli_parse_fault.specs.FaultCodes.{is_of_part, IsToldOf}

-- a fault at the first token
pub told_first : (code : Code) → is_of_part code ≡ true → (p : ℕ) (ts : Tokens) → 0 < length ts
    → IsToldOf p ts (record { code = code; at = p })
told_first code part p ts some = inl (omega arith, omega (arith, some), part)

-- where the tokens have ended
pub told_last : (p : ℕ) (ts : Tokens) → IsToldOf p ts (record { code = EndMissing; at = p + length ts - 1 })
told_last p ts = inr (refl, refl)

pub told_ended : (p : ℕ) → IsToldOf p [] (record { code = EndMissing; at = p - 1 })
told_ended p =
    let none : p ≡ p + 0 = omega arith in
    inr (refl, ap (λ n. n - 1) none)

-- a fault after what was passed over
pub told_after : (least p q : ℕ) (ts us : Tokens) (f : Fault) → Passes least p ts q us → IsToldOf q us f
    → IsToldOf p ts f
told_after least p q ts us f passed told =
    ⊎_elim (λ here. inl (
      omega (arith, passed.0, here.0),
      omega (arith, passed.1, here.1),
      here.2,
    )) (λ end. inr (end.0, end.1 ∙ ap (λ n. n - 1) passed.1)) told

-- where it stands
pub told_stands : (p : ℕ) (ts : Tokens) (f : Fault) → IsToldOf p ts f → FaultStands p ts f
told_stands p ts f told = ⊎_elim (λ here. inl (here.0, here.1)) (λ end. inr end) told
