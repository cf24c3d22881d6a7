-- The codes that a fault inside a unit may have, and where it then stands. Tokens are counted from 0.
use Rattle.std.specs.Prelude.{◌≡◌, ℕ, ◌+◌, ◌-◌, ◌<◌, ◌≤◌, ◌⊎◌, Bool, true, false, length}
use Rattle.pli_base.specs.Words.{Tokens}
use Rattle.pli_base.specs.declared.code.Code.{Code}
use Rattle.pli_base.specs.declared.code.Code.TheVariants.{NoProcedure, EndMissing, TextAfterEnd}
use Rattle.pli_base.specs.declared.token.Fault.{Fault}

-- a code that is neither about the unit as a whole, nor about where the text ends
abbrev pub is_of_part : Code → Bool
is_of_part NoProcedure = false
is_of_part EndMissing = false
is_of_part TextAfterEnd = false
is_of_part code = true

-- a fault met while tokens are read, the first of which is at p: it stands at one of them, with the code of a
-- part; or the text ends too early, and it stands at the last token
abbrev pub IsToldOf : (p : ℕ) → Tokens → Fault → Type 0
IsToldOf p ts f =
    ((p ≤ f.at) × (f.at < p + length ts) × (is_of_part f.code ≡ true))
    ⊎ ((f.code ≡ EndMissing) × (f.at ≡ p + length ts - 1))
