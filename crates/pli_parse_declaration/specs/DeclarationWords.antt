-- The keywords of attributes, and tests of tokens (X3.74).
use Rattle.std.specs.Prelude.{Bool, false, ◌||◌, ◌&&◌, is_some, nat_eq, ◌∷◌, codes, Option, Some}
use Rattle.std.specs.Prelude.{None, if◌then◌else◌}
use Rattle.pli_base.specs.Name.{Name}
use Rattle.pli_base.specs.Words.{Tokens, same_name, is_open, rest_after}
use Rattle.pli_base.specs.declared.token.TokenText.{TokenText}
use Rattle.pli_base.specs.declared.token.TokenText.TheVariants.{Word, Decimal}
use Rattle.pli_parse_declaration.specs.declared.word.SimpleWord.{SimpleWord}
use Rattle.pli_parse_declaration.specs.declared.word.SimpleWord.TheVariants.{Fixed, Binary, Character, Bit}
use Rattle.pli_parse_declaration.specs.declared.word.SimpleWord.TheVariants.{Varying, Pointer, Offset, Area}
use Rattle.pli_parse_declaration.specs.declared.word.SimpleWord.TheVariants.{Based, Controlled, Static}
use Rattle.pli_parse_declaration.specs.declared.word.SimpleWord.TheVariants.{Automatic, External, Internal}
use Rattle.pli_parse_declaration.specs.declared.word.SimpleWord.TheVariants.{Builtin, Initial}
use Rattle.pli_parse_declaration.specs.declared.word.AttributeWord.{AttributeWord}
use Rattle.pli_parse_declaration.specs.declared.word.AttributeWord.TheVariants as words

-- a keyword and its abbreviation mean the same
abbrev pub is_either : Name → Name → Name → Bool
is_either long short n = same_name n long || same_name n short

-- the word of a data attribute
unfoldable pub data_word : Name → Option SimpleWord
data_word n =
    if same_name n (codes "FIXED") then Some Fixed
    else if is_either (codes "BINARY") (codes "BIN") n then Some Binary
    else if is_either (codes "CHARACTER") (codes "CHAR") n then Some Character
    else if same_name n (codes "BIT") then Some Bit
    else if is_either (codes "VARYING") (codes "VAR") n then Some Varying
    else if is_either (codes "POINTER") (codes "PTR") n then Some Pointer
    else if same_name n (codes "OFFSET") then Some Offset
    else if same_name n (codes "AREA") then Some Area
    else None

-- the word of a storage class, a scope or BUILTIN
unfoldable pub storage_word : Name → Option SimpleWord
storage_word n =
    if same_name n (codes "BASED") then Some Based
    else if is_either (codes "CONTROLLED") (codes "CTL") n then Some Controlled
    else if same_name n (codes "STATIC") then Some Static
    else if is_either (codes "AUTOMATIC") (codes "AUTO") n then Some Automatic
    else if is_either (codes "EXTERNAL") (codes "EXT") n then Some External
    else if is_either (codes "INTERNAL") (codes "INT") n then Some Internal
    else if same_name n (codes "BUILTIN") then Some Builtin
    else if is_either (codes "INITIAL") (codes "INIT") n then Some Initial
    else None

-- ENTRY, RETURNS or none
unfoldable pub nesting_word : Name → Option AttributeWord
nesting_word n =
    if same_name n (codes "ENTRY") then Some words.Entry else if same_name n (codes "RETURNS")
    then Some words.Returns else None

-- the first of two words that is there
abbrev pub word_or : Option SimpleWord → Option AttributeWord → Option AttributeWord
word_or (Some w) other = Some (words.Simple w)
word_or None other = other

-- the attribute whose keyword a name is, where an attribute may stand; no word is reserved
unfoldable pub attribute_word : Name → Option AttributeWord
attribute_word n = word_or (data_word n) (word_or (storage_word n) (nesting_word n))

-- the keyword, if it is one, with the tokens after it
abbrev pub with_rest : Tokens → Option AttributeWord → Option (AttributeWord × Tokens)
with_rest us (Some w) = Some (w, us)
with_rest us None = None

-- the attribute whose keyword the first token is, and the tokens after it
unfoldable pub attribute_first : Tokens → Option (AttributeWord × Tokens)
attribute_first (Word n ∷ us) = with_rest us (attribute_word n)
attribute_first _ = None

-- the decimal constant of the one digit 0
abbrev pub is_zero : TokenText → Bool
is_zero (Decimal v d) = nat_eq v 0 && nat_eq d 1
is_zero _ = false

-- the tokens, if an attribute's keyword is the first of them
abbrev pub if_first : {A : Type 0} → Tokens → Option A → Option Tokens
if_first ts (Some x) = Some ts
if_first ts None = None

-- the tokens, where the word of an attribute stands in front
abbrev pub with_attribute : Tokens → Option Tokens
with_attribute ts = if_first ts (attribute_first ts)

-- a description of a parameter begins with its dimensions or an attribute
unfoldable pub begins_description : Tokens → Bool
begins_description ts = is_some (rest_after is_open ts) || is_some (attribute_first ts)
