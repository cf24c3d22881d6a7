-- What is read whole from bytes: nothing stands after its last item, and then it has no fault as a whole.
use Rattle.std.specs.Prelude.{ℕ, List, [], ◌∷◌, Option, Some, None, Result, Ok, Err}
use Rattle.pli_code.specs.declared.fault.DeckFault.{DeckFault}
use Rattle.pli_code.specs.declared.fault.DeckFault.TheVariants.{Trailing}
use Rattle.pli_base.specs.Results.{◌>>=◌}
use Rattle.pli_code.specs.Fields.{Field}

-- what was read, if it has no fault as a whole
abbrev pub unless_faulty : {X : Type 0} → Option DeckFault → X → Result X DeckFault
unless_faulty None x = Ok x
unless_faulty (Some f) x = Err f

-- the same, if nothing stands after it
abbrev pub whole : {X : Type 0} → (fault_of : X → Option DeckFault) → X → (rest : List ℕ) → Result X DeckFault
whole fault_of x [] = unless_faulty (fault_of x) x
whole fault_of x (b ∷ rest) = Err Trailing

-- what bytes are read as, or the first fault
abbrev pub whole_read : {X : Type 0} → (fault_of : X → Option DeckFault) → Field X → List ℕ
    → Result X DeckFault
whole_read fault_of f bytes = f.read bytes >>= λ x. whole fault_of x.0 x.1
