-- Worked examples: what lines spell, and the first faults of lines.
use Rattle.std.specs.Prelude.{◌≡◌, ℕ, true, false, List, [], ◌∷◌, map, Ok, Err, codes}
use Rattle.pli_base.specs.declared.code.Code.{Code}
use Rattle.pli_base.specs.declared.code.Code.TheVariants.{UnendedComment, UnendedString, BadCharacter}
use Rattle.pli_base.specs.declared.code.Code.TheVariants.{BadNumber, NameTooLong, BadBits}
use Rattle.pli_base.specs.declared.token.Sign.TheVariants as signs
use Rattle.pli_base.specs.declared.token.TokenText.{TokenText}
use Rattle.pli_base.specs.declared.token.TokenText.TheVariants.{Word, Decimal, Binary, Characters, Bits, Sign}
use Rattle.pli_base.specs.declared.token.Token.{Token}
use Rattle.pli_lex.specs.Reading.{lexed}

-- a token on a line
abbrev on_line : ℕ → TokenText → Token
on_line number t = record { text = t; line = number }

-- one line spells these tokens
abbrev Says : List ℕ → List TokenText → Type 0
Says text tokens = lexed (text ∷ []) ≡ Ok (map (on_line 1) tokens)

-- lines have this fault on this line
abbrev HaveFault : List (List ℕ) → Code → ℕ → Type 0
HaveFault lines code number = lexed lines ≡ Err (record { code = code; line = number })

-- one line has this fault
abbrev Fails : List ℕ → Code → Type 0
Fails text code = HaveFault (text ∷ []) code 1

-- a procedure's first line
abbrev pub ProcedureLine : Type 0
ProcedureLine =
    Says (codes "M: PROC OPTIONS(MAIN);")
    (Word (codes "M") ∷ Sign signs.Colon ∷ Word (codes "PROC") ∷ Word (codes "OPTIONS")
    ∷ Sign signs.OpenParenthesis ∷ Word (codes "MAIN") ∷ Sign signs.CloseParenthesis ∷ Sign signs.Semicolon
    ∷ [])

-- lower case equals upper case, and leading zeros count as digits
abbrev pub LowerCaseLine : Type 0
LowerCaseLine =
    Says
    (codes "x_1$=007,y")
    (Word (codes "X_1$") ∷ Sign signs.Equals ∷ Decimal 7 3 ∷ Sign signs.Comma ∷ Word (codes "Y") ∷ [])

-- a tab separates, and separators alone say nothing
abbrev pub TabLine : Type 0
TabLine = Says (65 ∷ 9 ∷ 66 ∷ 9 ∷ 32 ∷ []) (Word (codes "A") ∷ Word (codes "B") ∷ [])

-- a binary constant has its number of digits, and `b` equals `B`
abbrev pub BinaryConstants : Type 0
BinaryConstants = Says (codes "101B 0101b") (Binary 5 3 ∷ Binary 5 4 ∷ [])

-- a doubled quote is one, and lower case stays
abbrev pub CharacterConstants : Type 0
CharacterConstants = Says (codes "'It''s' ''") (Characters (codes "It's") ∷ Characters [] ∷ [])

-- digits of one, two, three and four bits
abbrev pub BitConstants : Type 0
BitConstants =
    Says (codes "'10'B '1'b1 '2'B2 '5'B3 'aF'B4 ''B")
    (Bits (true ∷ false ∷ []) ∷ Bits (true ∷ []) ∷ Bits (true ∷ false ∷ []) ∷ Bits (true ∷ false ∷ true ∷ [])
    ∷ Bits (true ∷ false ∷ true ∷ false ∷ true ∷ true ∷ true ∷ true ∷ []) ∷ Bits [] ∷ [])

-- the longest sign is taken, and the signs for "not" and for the comparisons have synonyms
abbrev pub Signs : Type 0
Signs =
    Says (codes "->->=^=~=^<~>||| - >")
    (Sign signs.Arrow ∷ Sign signs.Arrow ∷ Sign signs.Equals ∷ Sign signs.NotEqual ∷ Sign signs.NotEqual
    ∷ Sign signs.GreaterOrEqual ∷ Sign signs.LessOrEqual ∷ Sign signs.Concatenate ∷ Sign signs.Or
    ∷ Sign signs.Minus ∷ Sign signs.Greater ∷ [])

-- a comment separates, ends at its first `*/`, and begins in no string
abbrev pub CommentLine : Type 0
CommentLine =
    Says (codes "A/* /* ' */B/**/'/*'") (Word (codes "A") ∷ Word (codes "B") ∷ Characters (codes "/*") ∷ [])

-- a comment over lines, and tokens with the numbers of their lines
abbrev pub CommentLines : Type 0
CommentLines =
    lexed (codes "A /* B" ∷ codes "C" ∷ codes "*/ D" ∷ [])
    ≡ Ok (on_line 1 (Word (codes "A")) ∷ on_line 3 (Word (codes "D")) ∷ [])

-- the two characters of a comment's beginning or end stand on one line
abbrev pub CommentOnOneLine : Type 0
CommentOnOneLine =
    HaveFault (codes "/" ∷ codes "* A */" ∷ []) BadCharacter 1
    × HaveFault (codes "A /* *" ∷ codes "/" ∷ []) UnendedComment 1

-- the line's end separates
abbrev pub TwoLines : Type 0
TwoLines =
    lexed (codes "PR" ∷ [] ∷ codes "OC /*" ∷ codes "*/ ;" ∷ [])
    ≡ Ok (on_line 1 (Word (codes "PR")) ∷ on_line 3 (Word (codes "OC")) ∷ on_line 4 (Sign signs.Semicolon)
    ∷ [])

-- a comment that does not end is a fault where it begins
abbrev pub UnendedComments : Type 0
UnendedComments = HaveFault (codes "A" ∷ codes "/*/ B /*" ∷ codes "C" ∷ []) UnendedComment 2

-- a string that does not end on its line, also where a quote at its end is doubled
abbrev pub UnendedStrings : Type 0
UnendedStrings =
    HaveFault (codes "A" ∷ codes "'B" ∷ codes "C'" ∷ []) UnendedString 2 × Fails (codes "'A''") UnendedString

-- a name character or `.` directly after a number
abbrev pub BadNumbers : Type 0
BadNumbers =
    Fails (codes "12B") BadNumber × Fails (codes "1A") BadNumber × Fails (codes "12.5") BadNumber
    × Fails (codes "101B2") BadNumber × Fails (codes "101B.") BadNumber

-- 20 digits are too many, and so are 64 binary ones
abbrev pub TooManyDigits : Type 0
TooManyDigits =
    Fails (codes "00000000000000000001") BadNumber
    × Fails (codes "0000000000000000000000000000000000000000000000000000000000000001B") BadNumber

-- the greatest constants, and the next
abbrev pub GreatestNumbers : Type 0
GreatestNumbers =
    Says
    (codes "9223372036854775807 111111111111111111111111111111111111111111111111111111111111111B")
    (Decimal 9223372036854775807 19 ∷ Binary 9223372036854775807 63 ∷ [])
    × Fails (codes "9223372036854775808") BadNumber

-- digits that are too great, a width that is none, and a name character directly after it
abbrev pub BadBitConstants : Type 0
BadBitConstants =
    Fails (codes "'12'B") BadBits × Fails (codes "'8'B3") BadBits × Fails (codes "'1'B5") BadBits
    × Fails (codes "'1'B4X") BadBits

-- another letter begins a name
abbrev pub CharactersThenName : Type 0
CharactersThenName = Says (codes "'A'C") (Characters (codes "A") ∷ Word (codes "C") ∷ [])

-- a character of no token
abbrev pub BadCharacters : Type 0
BadCharacters = Fails (codes "X?") BadCharacter × Fails (codes "*/") BadCharacter

-- 31 characters are a name, 32 are none
abbrev pub LongestName : Type 0
LongestName =
    Says (codes "ABCDEFGHIJKLMNOPQRSTUVWXYZ12345") (Word (codes "ABCDEFGHIJKLMNOPQRSTUVWXYZ12345") ∷ [])
    × Fails (codes "ABCDEFGHIJKLMNOPQRSTUVWXYZ123456") NameTooLong
