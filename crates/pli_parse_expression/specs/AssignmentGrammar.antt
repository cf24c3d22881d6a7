-- Which tokens are an assignment (X3.74, the rule own).
use Rattle.std.specs.Prelude.{◌≡◌, ℕ, ◌+◌, ◌∷◌, ◌++◌, length}
use Rattle.pli_base.specs.Syntax.{Expression, Reference}
use Rattle.pli_base.specs.Words.{Tokens}
use Rattle.pli_base.specs.declared.token.Sign.TheVariants as signs
use Rattle.pli_base.specs.declared.token.TokenText.TheVariants as tokens
use Rattle.pli_parse_expression.specs.Expressions.{SpellsReference, SpellsExpression}

-- the tokens are a reference, `=` and one expression; no word is reserved
abbrev pub IsAssignment : ℕ → Tokens → Type 0
IsAssignment p ts =
    (ls : Tokens) × (rs : Tokens) × (target : Reference) × (value : Expression)
    × (ts ≡ ls ++ tokens.Sign signs.Equals ∷ rs)
    × SpellsReference p ls target × SpellsExpression (p + length ls + 1) rs value
