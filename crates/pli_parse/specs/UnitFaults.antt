-- The faults of a unit as a whole: where no procedure begins (P1), and where text stands after the unit
-- (P10). Tokens are counted from 0.
use Rattle.std.specs.Prelude.{◌≡◌, ℕ, zero, suc, ◌+◌, ◌<◌, Bool, true, false, [], ◌∷◌, ◌++◌, length}
use Rattle.pli_base.specs.Statements.{ExternalProcedure}
use Rattle.pli_base.specs.Words.{Tokens, is_procedure}
use Rattle.pli_base.specs.declared.token.Sign.TheVariants.{Colon}
use Rattle.pli_base.specs.declared.token.TokenText.{TokenText}
use Rattle.pli_base.specs.declared.token.TokenText.TheVariants.{Word, Sign}
use Rattle.pli_parse_statement.specs.StatementGrammar.{SpellsUnit}

-- the token can stand at this place of `name : PROCEDURE`
abbrev pub can_head : ℕ → TokenText → Bool
can_head zero (Word n) = true
can_head (suc zero) (Sign Colon) = true
can_head (suc (suc zero)) (Word n) = is_procedure n
can_head q t = false

-- each of the tokens can, from this place on
abbrev pub Heads : ℕ → Tokens → Type 0
Heads q [] = Unit {0}
Heads q (t ∷ ts) = (can_head q t ≡ true) × Heads (q + 1) ts

-- P1 at p: there is no text, or the token at p is the first of the first three that cannot stand there
abbrev pub HasNoProcedure : Tokens → ℕ → Type 0
HasNoProcedure [] p = p ≡ 0
HasNoProcedure (u ∷ us) p =
    (front : Tokens) × (t : TokenText) × (rest : Tokens) × (u ∷ us ≡ front ++ t ∷ rest) × (p ≡ length front)
    × (p < 3) × Heads 0 front × (can_head p t ≡ false)

-- P10 at p: a front of the tokens spells a unit, and something stands after it, its first token at p
abbrev pub HasTextAfter : Tokens → ℕ → Type 0
HasTextAfter ts p =
    (front : Tokens) × (t : TokenText) × (rest : Tokens) × (unit : ExternalProcedure)
    × (ts ≡ front ++ t ∷ rest) × (p ≡ length front) × SpellsUnit front unit
