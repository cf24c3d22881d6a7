-- The first place where neither a separator nor a token can stand, apart from how a text is read (own).
use Rattle.std.specs.Prelude.{◌≡◌, ℕ, IsTrue, IsFalse, ◌||◌, List, ◌∷◌, ◌++◌}
use Rattle.pli_base.specs.Name.{is_letter, is_digit}
use Rattle.pli_base.specs.declared.code.Code.{Code}
use Rattle.pli_base.specs.declared.code.Code.TheVariants.{UnendedComment, UnendedString, BadCharacter}
use Rattle.pli_base.specs.declared.code.Code.TheVariants.{BadNumber, NameTooLong, BadBits}
use Rattle.pli_base.specs.declared.token.TokenText.{TokenText}
use Rattle.pli_base.specs.declared.token.Token.{Token}
use Rattle.pli_lex.specs.declared.answer.LexFault.{LexFault}
use Rattle.pli_lex.specs.Characters.{text_of, on_one_line, is_quote, begins_with, begins_comment}
use Rattle.pli_lex.specs.Tokens.{IsSeparator, quoted, IsToken, EndsAt, SpellsUpTo}

-- neither a separator nor a token stands at the front of the text
abbrev pub NothingStands : List ℕ → Type 0
NothingStands text =
    (run rest : List ℕ) → text ≡ run ++ rest
    → (IsSeparator run → ⊥) × ((t : TokenText) → IsToken run t → EndsAt run t rest → ⊥)

-- a string in quotes stands at the front of the text: no quote follows the one that closes it
abbrev pub IsQuoted : List ℕ → Type 0
IsQuoted text =
    (characters rest : List ℕ) × (text ≡ quoted characters ++ rest)
    × IsTrue (on_one_line characters) × IsFalse (begins_with is_quote rest)

-- Where nothing stands, the text there tells the code: a comment or a string that does not end, a string that
-- is no bit constant, digits that are no number, a name that is too long, or any other character.
abbrev pub IsCodeOf : List ℕ → Code → Type 0
IsCodeOf text UnendedComment = IsTrue (begins_comment text)
IsCodeOf text UnendedString = IsTrue (begins_with is_quote text) × (IsQuoted text → ⊥)
IsCodeOf text BadBits = IsQuoted text
IsCodeOf text BadNumber = IsTrue (begins_with is_digit text)
IsCodeOf text NameTooLong = IsTrue (begins_with is_letter text)
IsCodeOf text BadCharacter =
    (c : ℕ) × (cs : List ℕ) × (text ≡ c ∷ cs) × IsFalse (begins_comment text)
    × IsFalse (is_letter c || is_digit c || is_quote c)
IsCodeOf text others = ⊥

-- separators and tokens lead to a place on the fault's line where nothing stands
abbrev pub HasFault : List ℕ → LexFault → Type 0
HasFault text fault =
    (tokens : List Token) × (rest : List ℕ) × SpellsUpTo 1 text tokens fault.line rest × NothingStands rest
    × IsCodeOf rest fault.code

-- the fault of lines is that of their text
abbrev pub HasLineFault : List (List ℕ) → LexFault → Type 0
HasLineFault lines fault = HasFault (text_of lines) fault
