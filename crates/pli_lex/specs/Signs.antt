-- The signs of the language and their spellings (X3.74; the signs for "not" are own).
use Rattle.std.specs.Prelude.{ℕ, nat_eq, ◌&&◌, List, [], ◌∷◌, Option, Some, None, if◌then◌else◌}
use Rattle.pli_base.specs.declared.token.Sign.{Sign}
use Rattle.pli_base.specs.declared.token.Sign.TheVariants as signs

-- `+ - * ( ) , . ; : = < > & | ^ ~ %`: each character that is a sign
abbrev pub single_signs : List (ℕ × Sign)
single_signs =
    (43, signs.Plus) ∷ (45, signs.Minus) ∷ (42, signs.Times)
    ∷ (40, signs.OpenParenthesis) ∷ (41, signs.CloseParenthesis)
    ∷ (44, signs.Comma) ∷ (46, signs.Period) ∷ (59, signs.Semicolon) ∷ (58, signs.Colon)
    ∷ (61, signs.Equals) ∷ (60, signs.Less) ∷ (62, signs.Greater)
    ∷ (38, signs.And) ∷ (124, signs.Or) ∷ (94, signs.Not) ∷ (126, signs.Not) ∷ (37, signs.Percent) ∷ []

-- `<=  >=  ^=  ~=  ^<  ~<  ^>  ~>  ->  ||`: each pair of characters that is a sign
abbrev pub double_signs : List (ℕ × ℕ × Sign)
double_signs =
    (60, 61, signs.LessOrEqual) ∷ (62, 61, signs.GreaterOrEqual)
    ∷ (94, 61, signs.NotEqual) ∷ (126, 61, signs.NotEqual)
    ∷ (94, 60, signs.GreaterOrEqual) ∷ (126, 60, signs.GreaterOrEqual)
    ∷ (94, 62, signs.LessOrEqual) ∷ (126, 62, signs.LessOrEqual)
    ∷ (45, 62, signs.Arrow) ∷ (124, 124, signs.Concatenate) ∷ []

-- the sign of a character, where there is one
abbrev pub single_in : List (ℕ × Sign) → ℕ → Option Sign
single_in [] c = None
single_in (entry ∷ entries) c = if nat_eq c entry.0 then Some entry.1 else single_in entries c

-- the sign of two characters, where there is one
abbrev pub double_in : List (ℕ × ℕ × Sign) → ℕ → ℕ → Option Sign
double_in [] c d = None
double_in (entry ∷ entries) c d =
    if nat_eq d entry.1 && nat_eq c entry.0 then Some entry.2 else double_in entries c d

-- the sign that a run of characters is
abbrev pub sign_of : List ℕ → Option Sign
sign_of (c ∷ []) = single_in single_signs c
sign_of (c ∷ d ∷ []) = double_in double_signs c d
sign_of others = None
