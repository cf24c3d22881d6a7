-- Worked examples of first faults, where `A;` is all that is spelled.
use Rattle.std.specs.Prelude.{◌≡◌, ℕ, [], ◌∷◌, codes}
use Rattle.pli_base.specs.Words.{Tokens}
use Rattle.pli_base.specs.declared.code.Code.TheVariants.{EndMissing, SemicolonExpected}
use Rattle.pli_base.specs.declared.token.Sign.TheVariants.{CloseParenthesis, Semicolon}
use Rattle.pli_base.specs.declared.token.TokenText.TheVariants.{Word, Sign}
use Rattle.pli_parse_fault.specs.FirstFaults.{CanBeCompleted, IsFirstFault}

-- `A;` alone spells, and its value is its place
abbrev pub SpellsOnlyText : ℕ → Tokens → ℕ → Type 0
SpellsOnlyText p ts value = (ts ≡ Word (codes "A") ∷ Sign Semicolon ∷ []) × (value ≡ p)

-- no tokens can be completed
abbrev pub NoneYet : Type 0
NoneYet = CanBeCompleted SpellsOnlyText 0 []

-- `A)` stops at the parenthesis
abbrev pub StopsAtParenthesis : Type 0
StopsAtParenthesis =
    IsFirstFault SpellsOnlyText 0 (Word (codes "A") ∷ Sign CloseParenthesis ∷ [])
    (record { code = SemicolonExpected; at = 1 })

-- `A` ends too early
abbrev pub EndsTooEarly : Type 0
EndsTooEarly = IsFirstFault SpellsOnlyText 0 (Word (codes "A") ∷ []) (record { code = EndMissing; at = 0 })
