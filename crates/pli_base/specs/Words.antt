-- The words and signs of the language, and tests of tokens (X3.74).
use Rattle.std.specs.Prelude.{◌≡◌, ℕ, Bool, true, false, ◌||◌, nat_eq, List, [], ◌∷◌, Option, Some, None}
use Rattle.std.specs.Prelude.{codes, if◌then◌else◌}
use Rattle.std.specs.Cmp.Lexicographic.{pointwise}
use Rattle.std.specs.List.{list_any}
use Rattle.pli_base.specs.Name.{Name}
use Rattle.pli_base.specs.declared.syntax.Identifier.{Identifier}
use Rattle.pli_base.specs.declared.token.Sign.TheVariants.{Colon, Semicolon, Comma, Period, OpenParenthesis}
use Rattle.pli_base.specs.declared.token.Sign.TheVariants.{CloseParenthesis}
use Rattle.pli_base.specs.declared.token.TokenText.{TokenText}
use Rattle.pli_base.specs.declared.token.TokenText.TheVariants.{Word, Sign}

-- the tokens of a text
abbrev pub Tokens : Type 0
Tokens = List TokenText

-- equal names
abbrev pub same_name : Name → Name → Bool
same_name = pointwise nat_eq

-- a name is one of these
abbrev pub is_among : Name → List Name → Bool
is_among n names = list_any (same_name n) names

-- PROCEDURE or PROC; no word is reserved: it is a name, and a keyword only where the grammar reads it so
abbrev pub is_procedure : Name → Bool
is_procedure n = same_name n (codes "PROCEDURE") || same_name n (codes "PROC")

-- the token is this name
abbrev pub is_word : Name → TokenText → Bool
is_word w (Word n) = same_name n w
is_word w _ = false

-- the sign `;`
abbrev pub is_semicolon : TokenText → Bool
is_semicolon (Sign Semicolon) = true
is_semicolon _ = false

-- the sign `(`
abbrev pub is_open : TokenText → Bool
is_open (Sign OpenParenthesis) = true
is_open _ = false

-- the sign `)`
abbrev pub is_close : TokenText → Bool
is_close (Sign CloseParenthesis) = true
is_close _ = false

-- the sign `,`
abbrev pub is_comma : TokenText → Bool
is_comma (Sign Comma) = true
is_comma _ = false

-- the sign `:`
abbrev pub is_colon : TokenText → Bool
is_colon (Sign Colon) = true
is_colon _ = false

-- the sign `.`
abbrev pub is_period : TokenText → Bool
is_period (Sign Period) = true
is_period _ = false

-- the tokens after the first, if it fits
unfoldable pub rest_after : (TokenText → Bool) → Tokens → Option Tokens
rest_after fits [] = None
rest_after fits (t ∷ ts) = if fits t then Some ts else None

-- the name that the tokens begin with, and those after it
unfoldable pub name_first : Tokens → Option (Name × Tokens)
name_first (Word n ∷ ts) = Some (n, ts)
name_first _ = None

-- a name with its token
abbrev pub SpellsIdentifier : ℕ → Tokens → Identifier → Type 0
SpellsIdentifier p ts i = (ts ≡ Word i.name ∷ []) × (i.at ≡ p)
