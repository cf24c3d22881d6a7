-- What a text spells, apart from how it is read (X3.74; the limits of constants are own).
use Rattle.std.specs.Prelude.{◌≡◌, ◌⊎◌, ℕ, ◌+◌, IsTrue}
use Rattle.std.specs.Prelude.{IsFalse, ◌||◌, List, [], ◌∷◌, ◌++◌, length}
use Rattle.std.specs.Prelude.{Some, codes, if◌then◌else◌}
use Rattle.std.specs.List.{concat}
use Rattle.std.specs.Option.{is_some}
use Rattle.pli_base.specs.Digits.{value_in}
use Rattle.pli_base.specs.Name.{is_name_character, name_of}
use Rattle.pli_base.specs.declared.token.TokenText.{TokenText}
use Rattle.pli_base.specs.declared.token.TokenText.TheVariants as texts
use Rattle.pli_base.specs.declared.token.Token.{Token}
use Rattle.pli_lex.specs.Characters.{text_of, line_ends, on_one_line, is_blank, is_quote, is_b}
use Rattle.pli_lex.specs.Characters.{continues_number}
use Rattle.pli_lex.specs.Characters.{begins_with}
use Rattle.pli_lex.specs.Signs.{sign_of}
pub use Rattle.pli_lex.specs.Constants.{are_digits, bits_in, bits_of, is_binary_constant, is_constant}
pub use Rattle.pli_lex.specs.Constants.{width_of}

-- a comment ends at its first `*/`: comments do not nest
abbrev pub IsComment : List ℕ → Type 0
IsComment run =
    (body : List ℕ) × (run ≡ codes "/*" ++ (body ++ codes "*/"))
    × ((before after : List ℕ) → body ≡ before ++ (codes "*/" ++ after) → ⊥)

-- blanks, tabs, line ends and comments separate tokens
abbrev pub IsSeparator : List ℕ → Type 0
IsSeparator run = ((c : ℕ) × IsTrue (is_blank c) × (run ≡ c ∷ [])) ⊎ IsComment run

-- each of them separates
abbrev pub AreSeparators : List (List ℕ) → Type 0
AreSeparators [] = Unit {0}
AreSeparators (run ∷ runs) = IsSeparator run × AreSeparators runs

-- separators one after another, or none
abbrev pub IsGap : List ℕ → Type 0
IsGap gap = (runs : List (List ℕ)) × (gap ≡ concat runs) × AreSeparators runs

-- ---- strings

-- characters with each quote doubled
abbrev pub doubled : List ℕ → List ℕ
doubled [] = []
doubled (c ∷ cs) = (if is_quote c then c ∷ c ∷ [] else c ∷ []) ++ doubled cs

-- characters in quotes
abbrev pub quoted : List ℕ → List ℕ
quoted characters = 39 ∷ (doubled characters ++ 39 ∷ [])

-- ---- tokens

-- the run of characters is the token
abbrev pub IsToken : List ℕ → TokenText → Type 0
IsToken run (texts.Word name) = name_of run ≡ Some name
IsToken run (texts.Decimal value digits) =
    IsTrue (is_constant run) × (value ≡ value_in 10 run) × (digits ≡ length run)
IsToken run (texts.Binary value digits) =
    (front : List ℕ) × (b : ℕ) × (run ≡ front ++ b ∷ []) × IsTrue (is_b b)
    × IsTrue (is_binary_constant front) × (value ≡ value_in 2 front) × (digits ≡ length front)
IsToken run (texts.Characters characters) = (run ≡ quoted characters) × IsTrue (on_one_line characters)
IsToken run (texts.Bits bits) =
    (digits after : List ℕ) × (width : ℕ) × (run ≡ quoted digits ++ after) × (width_of after ≡ Some width)
    × IsTrue (are_digits width digits) × (bits ≡ bits_in width digits)
IsToken run (texts.Sign sign) = sign_of run ≡ Some sign

-- the text after a token does not go on with it, so that the token is the longest that can stand there (a law
-- says so), and what must not stand directly after a constant does not
abbrev pub EndsAt : List ℕ → TokenText → List ℕ → Type 0
EndsAt run (texts.Word name) rest = IsFalse (begins_with is_name_character rest)
EndsAt run (texts.Decimal value digits) rest = IsFalse (begins_with continues_number rest)
EndsAt run (texts.Binary value digits) rest = IsFalse (begins_with continues_number rest)
EndsAt run (texts.Characters characters) rest = IsFalse (begins_with (λ c. is_quote c || is_b c) rest)
EndsAt run (texts.Bits bits) rest = IsFalse (begins_with is_name_character rest)
EndsAt run (texts.Sign sign) rest = IsFalse (begins_with (λ c. is_some (sign_of (run ++ c ∷ []))) rest)

-- ---- texts

-- A text that begins on the line with this number is separators and these tokens in turn, then separators, up
-- to the rest, which begins on the line with the number `last`; each token has the number of its line. (No
-- token has a line's end in it.)
abbrev pub SpellsUpTo : (number : ℕ) → List ℕ → List Token → (last : ℕ) → List ℕ → Type 0
SpellsUpTo number text [] last rest =
    (gap : List ℕ) × (text ≡ gap ++ rest) × IsGap gap × (last ≡ number + line_ends gap)
SpellsUpTo number text (token ∷ tokens) last rest =
    (gap run after : List ℕ) × (text ≡ gap ++ (run ++ after)) × IsGap gap
    × (token.line ≡ number + line_ends gap) × IsToken run token.text × EndsAt run token.text after
    × SpellsUpTo (token.line + line_ends run) after tokens last rest

-- the whole text, its lines being numbered from 1
abbrev pub Spells : List ℕ → List Token → Type 0
Spells text tokens = (last : ℕ) × SpellsUpTo 1 text tokens last []

-- lines spell what their text spells
abbrev pub SpellsLines : List (List ℕ) → List Token → Type 0
SpellsLines lines tokens = Spells (text_of lines) tokens
