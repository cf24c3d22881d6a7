-- Reading a text from left to right (own): its tokens, or the fault of the first place where nothing can
-- stand.
use Rattle.std.specs.Prelude.{ℕ, zero, suc, ◌+◌, ◌-◌, nat_eq, Bool, false, ◌&&◌, not, List, [], ◌∷◌, ◌++◌}
use Rattle.pli_base.specs.Results.{◌>>=◌}
use Rattle.std.specs.Prelude.{length, take, drop, Option, Some, None, Result, Ok, Err, if◌then◌else◌}
use Rattle.std.specs.List.{prefix_len}
use Rattle.std.specs.Option.{is_some, option_map}
use Rattle.pli_base.specs.Digits.{value_in}
use Rattle.pli_base.specs.Name.{Name, is_letter, is_digit, is_name_character, name_of}
use Rattle.pli_base.specs.declared.code.Code.{Code}
use Rattle.pli_base.specs.declared.code.Code.TheVariants.{UnendedComment, UnendedString, BadCharacter}
use Rattle.pli_base.specs.declared.code.Code.TheVariants.{BadNumber, NameTooLong, BadBits}
use Rattle.pli_base.specs.declared.token.Sign.{Sign}
use Rattle.pli_base.specs.declared.token.TokenText.{TokenText}
use Rattle.pli_base.specs.declared.token.TokenText.TheVariants as texts
use Rattle.pli_base.specs.declared.token.Token.{Token}
use Rattle.pli_lex.specs.declared.answer.LexFault.{LexFault}
use Rattle.pli_lex.specs.Characters.{text_of, line_ends, is_line_end, is_blank, is_quote, is_b}
use Rattle.pli_lex.specs.Characters.{is_width_digit, continues_number, begins_with, begins_comment}
use Rattle.pli_lex.specs.Signs.{sign_of}
use Rattle.pli_lex.specs.Constants.{is_constant, is_binary_constant, width_of, are_digits, bits_in}

-- ---- a token

-- What stands at the front of a text: a token, or None for a separator; and how many characters it takes.
abbrev pub Piece : Type 0
Piece = Option TokenText × ℕ

-- a token, and how many characters it takes
abbrev pub Found : Type 0
Found = TokenText × ℕ

-- the name of a run, which is too long where it is none
abbrev pub word : Option Name → ℕ → Result Found Code
word None width = Err NameTooLong
word (Some name) width = Ok (texts.Word name, width)

-- after a letter, the longest run of name characters
abbrev pub word_at : List ℕ → Result Found Code
word_at text = let width = prefix_len is_name_character text in word (name_of (take width text)) width

-- digits that nothing continues
abbrev pub decimal : List ℕ → List ℕ → Result Found Code
decimal run rest =
    if is_constant run && not (begins_with continues_number rest)
    then Ok (texts.Decimal (value_in 10 run) (length run), length run)
    else Err BadNumber

-- digits before a `B` that nothing continues
abbrev pub binary : List ℕ → List ℕ → Result Found Code
binary run rest =
    if is_binary_constant run && not (begins_with continues_number rest)
    then Ok (texts.Binary (value_in 2 run) (length run), length run + 1)
    else Err BadNumber

-- digits and what stands after them: a `B` directly there makes them binary
abbrev pub number_of : List ℕ → List ℕ → Result Found Code
number_of run rest = if begins_with is_b rest then binary run (drop 1 rest) else decimal run rest

-- after a digit, the longest run of digits
abbrev pub number_at : List ℕ → Result Found Code
number_at text =
    let width = prefix_len is_digit text in
    number_of (take width text) (drop width text)

-- One character more of a string, where `found` is what its rest gives: its characters, and how many the text
-- has up to the end of the closing quote. A quote with another directly after it (`more`) is one character,
-- and the other (`second`) is passed over.
abbrev pub string_on : (second : Bool) → ℕ → (more : Bool) → Option (List ℕ × ℕ) → Option (List ℕ × ℕ)
string_on second c more found =
    if is_line_end c then None
    else (if second then option_map (λ string. (string.0, string.1 + 1)) found
    else (if is_quote c && not more then Some ([], 1)
    else option_map (λ string. (c ∷ string.0, string.1 + 1)) found))

-- the string after its opening quote; None where no quote closes it on the line
unfoldable pub string_from : (second : Bool) → List ℕ → Option (List ℕ × ℕ)
string_from second [] = None
string_from second (c ∷ cs) =
    let more = begins_with is_quote cs in
    string_on second c more (string_from (not second && (is_quote c && more)) cs)

-- how many characters a `B` has with the digit after it
abbrev pub suffix_width : List ℕ → ℕ
suffix_width text = if begins_with is_width_digit (drop 1 text) then 2 else 1

-- digits of so many bits that no name character follows
abbrev pub bits : Option ℕ → List ℕ → List ℕ → ℕ → Result Found Code
bits None digits rest taken = Err BadBits
bits (Some width) digits rest taken =
    if are_digits width digits && not (begins_with is_name_character rest)
    then Ok (texts.Bits (bits_in width digits), taken)
    else Err BadBits

-- a string that takes so many characters, before this rest: with a `B` directly after it, it is a bit
-- constant
abbrev pub string : List ℕ → ℕ → List ℕ → Result Found Code
string characters taken rest =
    let suffix = suffix_width rest in
    if begins_with is_b rest
    then bits (width_of (take suffix rest)) characters (drop suffix rest) (taken + suffix)
    else Ok (texts.Characters characters, taken)

-- a string that is closed, or not
abbrev pub string_found : List ℕ → Option (List ℕ × ℕ) → Result Found Code
string_found text None = Err UnendedString
string_found text (Some found) = string found.0 (found.1 + 1) (drop (found.1 + 1) text)

-- after a quote, the string that it opens
abbrev pub string_at : List ℕ → Result Found Code
string_at text = string_found text (string_from false (drop 1 text))

-- a sign, or a bad character
abbrev pub sign : Option Sign → ℕ → Result Found Code
sign None width = Err BadCharacter
sign (Some s) width = Ok (texts.Sign s, width)

-- the longest sign
abbrev pub sign_at : List ℕ → Result Found Code
sign_at [] = Err BadCharacter
sign_at (c ∷ cs) =
    let width = if begins_with (λ d. is_some (sign_of (c ∷ d ∷ []))) cs then 2 else 1 in
    sign (sign_of (take width (c ∷ cs))) width

-- the token at the front of a text, which its first character tells
unfoldable pub token_at : List ℕ → Result Found Code
token_at text =
    if begins_with is_letter text then word_at text
    else (if begins_with is_digit text then number_at text
    else (if begins_with is_quote text then string_at text
    else sign_at text))

-- ---- a text

-- how many characters there are up to the end of the first `*/`
unfoldable pub closing_width : List ℕ → Option ℕ
closing_width [] = None
closing_width (c ∷ cs) =
    if nat_eq c 42 && begins_with (λ d. nat_eq d 47) cs then Some 2
    else option_map (λ width. width + 1) (closing_width cs)

-- a comment ends at the first `*/` after its `/*`
abbrev pub comment : Option ℕ → Result Piece Code
comment None = Err UnendedComment
comment (Some width) = Ok (None, width + 2)

-- the piece that a token is
abbrev pub piece : Result Found Code → Result Piece Code
piece read = read >>= λ found. Ok (Some found.0, found.1)

-- the separator or the token at the front of a text
unfoldable pub piece_at : List ℕ → Result Piece Code
piece_at text =
    if begins_with is_blank text then Ok (None, 1)
    else (if begins_comment text then comment (closing_width (drop 2 text))
    else piece (token_at text))

-- a fault on a line
abbrev pub at_line : {A : Type 0} → ℕ → Result A Code → Result A LexFault
at_line number (Ok x) = Ok x
at_line number (Err code) = Err (record { code = code; line = number })

-- what was read before, and what is read then
abbrev pub with_front : {A E : Type 0} → List A → Result (List A) E → Result (List A) E
with_front front read = read >>= λ others. Ok (front ++ others)

-- the token of a piece, if it is one, on its line
abbrev pub tokens_in : ℕ → Option TokenText → List Token
tokens_in number None = []
tokens_in number (Some t) = record { text = t; line = number } ∷ []

-- the tokens of a text that begins on the line with this number, after so many characters, which belong to a
-- piece that is read
unfoldable pub tokens_after : ℕ → (number : ℕ) → List ℕ → Result (List Token) LexFault
tokens_after n number [] = Ok []
tokens_after (suc n) number (c ∷ cs) = tokens_after n (number + line_ends (c ∷ [])) cs
tokens_after zero number (c ∷ cs) =
    at_line number (piece_at (c ∷ cs)) >>= λ piece.
    with_front (tokens_in number piece.0) (tokens_after (piece.1 - 1) (number + line_ends (c ∷ [])) cs)

-- the tokens of a text, its lines being numbered from 1
abbrev pub tokens_of : List ℕ → Result (List Token) LexFault
tokens_of text = tokens_after 0 1 text

-- the tokens of lines
abbrev pub lexed : List (List ℕ) → Result (List Token) LexFault
lexed lines = tokens_of (text_of lines)
