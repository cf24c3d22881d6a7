-- A fault of types where something is missing.
use Rattle.std.specs.Prelude.{ℕ, Option, Some, None, Result, Ok}
use Rattle.pli_base.specs.Reading.{at_fault}
use Rattle.pli_base.specs.declared.code.Code.{Code}
use Rattle.pli_base.specs.declared.token.Fault.{Fault}

-- what is there, or a fault at a token
abbrev pub or_fault : {A : Type 0} → Code → (at : ℕ) → Option A → Result A Fault
or_fault code at None = at_fault code at
or_fault code at (Some x) = Ok x
