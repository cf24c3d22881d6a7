-- Reading declarations (X3.74).
use Rattle.std.specs.Prelude.{ℕ, zero, suc, ◌+◌, Bool, true, false, ◌||◌, Option, Some, None, is_some, Ok}
use Rattle.std.specs.Prelude.{List, [], ◌∷◌, ◌++◌, length, map, codes}
use Rattle.pli_base.specs.Name.{Name}
use Rattle.pli_base.specs.Words.{is_among, is_word, is_open, is_close, is_comma, is_period, is_colon}
use Rattle.pli_base.specs.Words.{is_semicolon}
use Rattle.pli_base.specs.Reading.{expected, read_as, or_none}
use Rattle.pli_base.specs.Declarations.{SimpleAttribute, Fixed, Binary, Character, Bit, Varying, Pointer}
use Rattle.pli_base.specs.Declarations.{Offset, Area, Based, Controlled, Static, Automatic, External}
use Rattle.pli_base.specs.Declarations.{Internal, Builtin, Initial, DescribedAttribute, Plain, AnyEntry}
use Rattle.pli_base.specs.Declarations.{AnyReturns, ParameterDescription, Simple, Entry}
use Rattle.pli_base.specs.Declarations.{Returns, Item}
use Rattle.pli_base.specs.declared.code.Code.TheVariants.{ParenthesisExpected, SemicolonExpected}
use Rattle.pli_base.specs.declared.code.Code.TheVariants.{ConstantExpected, BadAttribute}
use Rattle.pli_base.specs.declared.declaration.WrittenBounds.{WrittenBounds}
use Rattle.pli_base.specs.declared.declaration.WrittenBounds.TheVariants as limits
use Rattle.pli_base.specs.declared.declaration.WrittenLength.{WrittenLength}
use Rattle.pli_base.specs.declared.declaration.WrittenLength.TheVariants as extents
use Rattle.pli_base.specs.declared.declaration.InitialValue.{InitialValue}
use Rattle.pli_base.specs.declared.declaration.InitialValue.TheVariants as initial
use Rattle.pli_base.specs.declared.token.Sign.TheVariants.{Times}
use Rattle.pli_base.specs.declared.token.TokenText.{TokenText}
use Rattle.pli_base.specs.declared.token.TokenText.TheVariants as tokens
use Rattle.pli_parse_declaration.specs.DeclarationWords.{is_zero}
use Rattle.pli_parse_declaration.specs.DeclarationReading.{number_at, integer_at, name_at, identifier_at}
use Rattle.pli_parse_declaration.specs.DeclarationReading.{level_at}
use Rattle.pli_grammar.specs.Readers.{Reader, ◌>>=◌, made, token, after_token, optional, begun, closed}
use Rattle.pli_grammar.specs.Readers.{parenthesized, in_parentheses, list_by, list_of, meaning_in, worded}

-- the sign `*`
abbrev pub is_times : TokenText → Bool
is_times (tokens.Sign Times) = true
is_times t = false

-- the bounds of a dimension: `*`, one number, or two with a colon between them
abbrev pub bounds : Reader WrittenBounds
bounds = after_token is_times (read_as limits.Any) (do
  first ← integer_at
  after_token is_colon (made (limits.Stated (Some first)) integer_at) (read_as (limits.Stated None first)))

-- dimensions in parentheses, or none
abbrev pub dimensions : Reader (List WrittenBounds)
dimensions = made or_none (in_parentheses (list_of bounds))

-- a length or a size in parentheses: `*`, or a number
abbrev pub extent : Reader (Option WrittenLength)
extent = in_parentheses (after_token is_times (read_as extents.Any) (made extents.Stated number_at))

-- a precision in parentheses, perhaps with the scale 0
abbrev pub precision : Reader (Option ℕ)
precision = in_parentheses (do
  digits ← number_at
  _ ← optional is_comma (token is_zero ConstantExpected)
  read_as digits)

-- a value in INITIAL: a string, NULL or NULL(), or an integer, perhaps with a factor in parentheses before it
abbrev pub value : Reader InitialValue
value p (tokens.Characters s ∷ ts) = read_as (initial.Characters s) (p + 1) ts
value p (tokens.Bits s ∷ ts) = read_as (initial.Bits s) (p + 1) ts
value p ts = after_token (is_word (codes "NULL")) (do
  _ ← optional is_open (token is_close ParenthesisExpected)
  read_as initial.Null) (do
    factor ← in_parentheses number_at
    integer ← integer_at
    read_as (initial.Integer factor integer)) p ts

-- the keywords of the attributes other than ENTRY and RETURNS, and what reads each after its keyword
abbrev pub simple_attributes : List (Name × Reader SimpleAttribute)
simple_attributes =
    (codes "FIXED", made Fixed precision)
    ∷ (codes "BINARY", made Binary precision) ∷ (codes "BIN", made Binary precision)
    ∷ (codes "CHARACTER", made Character extent) ∷ (codes "CHAR", made Character extent)
    ∷ (codes "BIT", made Bit extent)
    ∷ (codes "VARYING", read_as Varying) ∷ (codes "VAR", read_as Varying)
    ∷ (codes "POINTER", read_as Pointer) ∷ (codes "PTR", read_as Pointer)
    ∷ (codes "OFFSET", made Offset (in_parentheses name_at))
    ∷ (codes "AREA", made Area extent)
    ∷ (codes "BASED", made Based (in_parentheses (list_by (optional is_period) name_at)))
    ∷ (codes "CONTROLLED", read_as Controlled) ∷ (codes "CTL", read_as Controlled)
    ∷ (codes "STATIC", read_as Static)
    ∷ (codes "AUTOMATIC", read_as Automatic) ∷ (codes "AUTO", read_as Automatic)
    ∷ (codes "EXTERNAL", read_as External) ∷ (codes "EXT", read_as External)
    ∷ (codes "INTERNAL", read_as Internal) ∷ (codes "INT", read_as Internal)
    ∷ (codes "BUILTIN", read_as Builtin)
    ∷ (codes "INITIAL", made Initial (parenthesized (list_of value)))
    ∷ (codes "INIT", made Initial (parenthesized (list_of value))) ∷ []

-- the keyword of an attribute; no word is reserved
abbrev pub is_attribute : TokenText → Bool
is_attribute (tokens.Word n) =
    is_some (meaning_in simple_attributes n) || is_among n (codes "ENTRY" ∷ codes "RETURNS" ∷ [])
is_attribute t = false

-- one attribute, where these read what stands after ENTRY and after RETURNS
abbrev pub attribute_with : {A : Type 0} → (SimpleAttribute → A) → (entry returns : Reader A) → Reader A
attribute_with simple entry returns = worded (map (λ row. (row.0, made simple row.1)) simple_attributes
    ++ (codes "ENTRY", entry) ∷ (codes "RETURNS", returns) ∷ []) (λ read. read) (expected BadAttribute)

-- one or more attributes
abbrev pub attributes : {A : Type 0} → Reader A → Reader (List A)
attributes = list_by (begun is_attribute)

-- the description of a parameter, whose attributes are read so
abbrev pub parameter : Reader DescribedAttribute → Reader ParameterDescription
parameter attribute = do
  sizes ← dimensions
  others ← attributes attribute
  read_as (record { dimensions = sizes; attributes = others })

-- after ENTRY: perhaps parentheses, in which descriptions may stand
abbrev pub entry : Reader DescribedAttribute → Reader (Option (List ParameterDescription))
entry attribute = in_parentheses (made or_none (begun (λ t. is_open t || is_attribute t)
    (list_of (parameter attribute))))

-- after RETURNS: attributes in parentheses
abbrev pub returned : Reader DescribedAttribute → Reader (List DescribedAttribute)
returned attribute = parenthesized (attributes attribute)

-- an attribute of a description, in which there may be so many such levels more
unfoldable pub described_within : (levels : ℕ) → Reader DescribedAttribute
described_within zero p ts = expected BadAttribute p ts
described_within (suc levels) p ts =
    attribute_with Plain (made (λ parameters. AnyEntry) (entry (described_within levels)))
    (made (λ others. AnyReturns) (returned (described_within levels))) p ts

-- an attribute of a description; there are fewer levels than tokens
abbrev pub described : Reader DescribedAttribute
described p ts = described_within (length ts) p ts

-- one item of DECLARE: level, names, dimensions, attributes
abbrev pub item : Reader Item
item = do
  level ← λ p ts. Ok (level_at p ts)
  names ← after_token is_open (closed (list_of identifier_at)) (made (λ name. name ∷ []) identifier_at)
  sizes ← dimensions
  others ← begun is_attribute (attributes (attribute_with Simple (made Entry (entry described))
      (made Returns (returned described))))
  read_as (record { level = level; names = names; dimensions = sizes; attributes = or_none others })

-- after DECLARE, with the `;`
abbrev pub declaration : Reader (List Item)
declaration = do
  items ← list_of item
  _ ← token is_semicolon SemicolonExpected
  read_as items
