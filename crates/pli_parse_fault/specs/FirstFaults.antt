-- The first fault of tokens: where they stop being the beginning of what is spelled. Tokens are counted from
-- 0, and p is the place of the first.
use Rattle.std.specs.Prelude.{◌≡◌, ℕ, ◌+◌, ◌-◌, ◌⊎◌, [], ◌∷◌, ◌++◌, length}
use Rattle.pli_base.specs.Words.{Tokens}
use Rattle.pli_base.specs.declared.code.Code.TheVariants.{EndMissing}
use Rattle.pli_base.specs.declared.token.Fault.{Fault}
use Rattle.pli_base.specs.declared.token.TokenText.{TokenText}

-- some tokens after them make of them what spells a value
abbrev pub CanBeCompleted : {A : Type 0} → (Spells : ℕ → Tokens → A → Type 0) → ℕ → Tokens → Type 0
CanBeCompleted {A = A} Spells p ts = (more : Tokens) × (value : A) × Spells p (ts ++ more) value

-- the fault stands at a token: those before it can be completed, and with it they cannot
abbrev pub CannotGoOn : {A : Type 0} → (Spells : ℕ → Tokens → A → Type 0) → ℕ → Tokens → Fault → Type 0
CannotGoOn Spells p ts f =
    (front : Tokens) × (t : TokenText) × (rest : Tokens) × (ts ≡ front ++ t ∷ rest)
    × (f.at ≡ p + length front) × CanBeCompleted Spells p front
    × (CanBeCompleted Spells p (front ++ t ∷ []) → ⊥)

-- all tokens can be completed, and they have ended: the fault stands at the last
abbrev pub HasEnded : {A : Type 0} → (Spells : ℕ → Tokens → A → Type 0) → ℕ → Tokens → Fault → Type 0
HasEnded Spells p ts f =
    (f.code ≡ EndMissing) × (f.at ≡ p + length ts - 1) × CanBeCompleted Spells p ts

-- the fault stands at the first token with which the tokens before it cannot be completed; or at the last
-- token, where there is no such
abbrev pub IsFirstFault : {A : Type 0} → (Spells : ℕ → Tokens → A → Type 0) → ℕ → Tokens → Fault → Type 0
IsFirstFault Spells p ts f = CannotGoOn Spells p ts f ⊎ HasEnded Spells p ts f
