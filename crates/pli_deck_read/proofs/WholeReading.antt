-- What stands after what is read whole.
use Rattle.std.proofs.Common.{◌≡◌, ℕ, ◌<◌, List, [], ◌∷◌, length, Option, Err, refl, arith}
use Rattle.pli_code.specs.declared.fault.DeckFault.{DeckFault}
use Rattle.pli_code.specs.declared.fault.DeckFault.TheVariants.{Trailing}
use Rattle.pli_deck_write.specs.Whole.{unless_faulty, whole}

pub more_left : {X : Type 0} (fault_of : X → Option DeckFault) (x : X) (rest : List ℕ) → 0 < length rest → whole fault_of x rest ≡ Err Trailing
more_left fault_of x [] some = absurd (omega (arith, some))
more_left fault_of x (b ∷ rest) some = refl

pub none_left : {X : Type 0} (fault_of : X → Option DeckFault) (x : X) (rest : List ℕ) → length rest ≡ 0 → whole fault_of x rest ≡ unless_faulty (fault_of x) x
none_left fault_of x [] none = refl
none_left fault_of x (b ∷ rest) none = absurd (omega (arith, none))
