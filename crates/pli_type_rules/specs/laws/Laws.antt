-- Laws of faults of types.
use Rattle.std.specs.Prelude.{nat_le, Bool, true, ◌&&◌, IsTrue, List, [], ◌∷◌, Result, Ok, Err}
use Rattle.pli_base.specs.Codes.{code_place}
use Rattle.pli_base.specs.declared.code.Code.{Code}
use Rattle.pli_base.specs.declared.code.Code.TheVariants.{BadGoto}
use Rattle.pli_base.specs.declared.token.Fault.{Fault}
use Rattle.pli_type_rules.specs.Checked.{checked}
use Rattle.pli_type_rules.specs.Names.{NamedUnit}

-- a code of types, T1 to T14, or A11, which typing has for a GOTO that leads nowhere
abbrev pub is_of_types : Code → Bool
is_of_types BadGoto = true
is_of_types code = nat_le 43 (code_place code) && nat_le (code_place code) 56

-- each of these faults is of such a code
abbrev pub AreOfTypes : List Fault → Type 0
AreOfTypes [] = Unit {0}
AreOfTypes (f ∷ fs) = IsTrue (is_of_types f.code) × AreOfTypes fs

-- there is a fault
abbrev pub IsFault : List Fault → Type 0
IsFault [] = ⊥
IsFault (f ∷ fs) = Unit {0}

-- what is refused has a fault, and all its faults are of types
abbrev pub IsToldOfTypes : {A : Type 0} → Result A (List Fault) → Type 0
IsToldOfTypes (Ok x) = Unit {0}
IsToldOfTypes (Err fs) = IsFault fs × AreOfTypes fs

-- a unit that is not typed has a fault of types, and no fault of another kind
abbrev pub FaultsAreOfTypes : Type 0
FaultsAreOfTypes = (u : NamedUnit) → IsToldOfTypes (checked u)
