-- Where a fault of reading stands (own). Tokens are counted from 0.
use Rattle.std.specs.Prelude.{◌≡◌, ℕ, ◌+◌, ◌-◌, ◌<◌, ◌≤◌, ◌⊎◌, [], ◌∷◌, length}
use Rattle.pli_base.specs.Words.{Tokens}
use Rattle.pli_base.specs.declared.code.Code.TheVariants.{EndMissing}
use Rattle.pli_base.specs.declared.token.Fault.{Fault}

-- a fault stands at a token of the text; that of a text without tokens stands at 0
abbrev pub StandsAtToken : Tokens → Fault → Type 0
StandsAtToken [] f = f.at ≡ 0
StandsAtToken (t ∷ ts) f = f.at < length (t ∷ ts)

-- a fault met while tokens are read, the first of which is at p: it stands at one of them; or they have
-- ended, and it stands at the last token, which is the one before p where there are none
abbrev pub FaultStands : (p : ℕ) → Tokens → Fault → Type 0
FaultStands p ts f =
    ((p ≤ f.at) × (f.at < p + length ts)) ⊎ ((f.code ≡ EndMissing) × (f.at ≡ p + length ts - 1))

-- reading stands at q with us left of the tokens ts from p on, and has passed over at least so many
abbrev pub Passes : (least p : ℕ) → Tokens → (q : ℕ) → Tokens → Type 0
Passes least p ts q us = (p + least ≤ q) × (q + length us ≡ p + length ts)
