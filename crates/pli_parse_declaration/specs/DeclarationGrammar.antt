-- The grammar of what stands after DECLARE (X3.74): which tokens spell which tree. Tokens are counted from
-- 0; p, where it is given, is the place of the first.
use Rattle.std.specs.Prelude.{◌≡◌, ℕ, ◌+◌, ◌⊎◌, Bool, true, false, Option, Some, None, List, [], ◌∷◌, ◌++◌}
use Rattle.std.specs.Prelude.{length, codes}
use Rattle.pli_base.specs.Name.{Name}
use Rattle.pli_base.specs.Words.{Tokens, is_open, is_comma, rest_after, SpellsIdentifier}
use Rattle.pli_base.specs.Reading.{Front}
use Rattle.pli_base.specs.declared.token.Sign.TheVariants.{Colon, Semicolon, Comma, Period, OpenParenthesis}
use Rattle.pli_base.specs.declared.token.Sign.TheVariants.{CloseParenthesis, Plus, Minus, Times}
use Rattle.pli_base.specs.declared.token.TokenText.TheVariants.{Word, Decimal, Binary, Characters, Bits, Sign}
use Rattle.pli_parse_declaration.specs.DeclarationWords.{attribute_word, with_attribute}
use Rattle.pli_base.specs.Declarations as tree
use Rattle.pli_base.specs.declared.syntax.Identifier.{Identifier}
use Rattle.pli_base.specs.declared.declaration.Integer.{Integer}
use Rattle.pli_base.specs.declared.declaration.WrittenBounds.{WrittenBounds}
use Rattle.pli_base.specs.declared.declaration.WrittenBounds.TheVariants as limits
use Rattle.pli_base.specs.declared.declaration.WrittenLength.{WrittenLength}
use Rattle.pli_base.specs.declared.declaration.WrittenLength.TheVariants as extent
use Rattle.pli_base.specs.declared.declaration.InitialValue.{InitialValue}
use Rattle.pli_base.specs.declared.declaration.InitialValue.TheVariants as initial
use Rattle.pli_parse_declaration.specs.declared.word.SimpleWord.{SimpleWord}
use Rattle.pli_parse_declaration.specs.declared.word.SimpleWord.TheVariants as words
use Rattle.pli_parse_declaration.specs.declared.word.AttributeWord.TheVariants as attribute
use Rattle.pli_parse_declaration.specs.Separators.{after_separator}
use Rattle.pli_parse_declaration.specs.declared.list.Separator.{Separator}
use Rattle.pli_parse_declaration.specs.declared.list.Separator.TheVariants.{Commas, Periods, Nothing}

-- what stands between two of a list
abbrev pub between : Separator → Tokens
between Commas = Sign Comma ∷ []
between Periods = Sign Period ∷ []
between Nothing = []

-- one or more, with the separator between
abbrev pub SpellsListed : {A : Type 0} → Separator → (Spells : ℕ → Tokens → A → Type 0) → ℕ → Tokens → List A
    → Type 0
SpellsListed separator Spells p ts [] = ⊥
SpellsListed separator Spells p ts (x ∷ []) = Spells p ts x
SpellsListed separator Spells p ts (x ∷ y ∷ more) =
    (front : Tokens) × (rest : Tokens) × (ts ≡ front ++ (between separator ++ rest)) × Spells p front x
    × SpellsListed separator Spells (after_separator separator (p + length front)) rest (y ∷ more)

-- what spells it does so at any place
abbrev pub Anywhere : {A : Type 0} → (Tokens → A → Type 0) → ℕ → Tokens → A → Type 0
Anywhere Spells p ts x = Spells ts x

-- a list with its separators
abbrev pub SpellsList : {A : Type 0} → Separator → (Tokens → A → Type 0) → Tokens → List A → Type 0
SpellsList separator Spells ts xs = SpellsListed separator (Anywhere Spells) 0 ts xs

-- in parentheses
abbrev pub SpellsEnclosed : {A : Type 0} → (Tokens → A → Type 0) → Tokens → A → Type 0
SpellsEnclosed Spells ts x =
    (inner : Tokens) × (ts ≡ Sign OpenParenthesis ∷ inner ++ Sign CloseParenthesis ∷ []) × Spells inner x

-- in parentheses, or not there
abbrev pub SpellsOptional : {A : Type 0} → (Tokens → A → Type 0) → Tokens → Option A → Type 0
SpellsOptional Spells ts None = ts ≡ []
SpellsOptional Spells ts (Some x) = SpellsEnclosed Spells ts x

-- number = decimal or binary constant
abbrev pub SpellsNumber : Tokens → ℕ → Type 0
SpellsNumber ts n = (d : ℕ) × ((ts ≡ Decimal n d ∷ []) ⊎ (ts ≡ Binary n d ∷ []))

-- int = ["+" | "-"] number
abbrev pub SpellsSigned : Tokens → Bool → ℕ → Type 0
SpellsSigned ts true n = (us : Tokens) × (ts ≡ Sign Minus ∷ us) × SpellsNumber us n
SpellsSigned ts false n = SpellsNumber ts n ⊎ ((us : Tokens) × (ts ≡ Sign Plus ∷ us) × SpellsNumber us n)

-- a number, perhaps with a sign
abbrev pub SpellsInteger : Tokens → Integer → Type 0
SpellsInteger ts i = SpellsSigned ts i.negative i.value

-- [int ":"] int
abbrev pub SpellsRange : Tokens → Option Integer → Integer → Type 0
SpellsRange ts None high = SpellsInteger ts high
SpellsRange ts (Some low) high =
    (ls : Tokens) × (hs : Tokens) × (ts ≡ ls ++ Sign Colon ∷ hs) × SpellsInteger ls low
    × SpellsInteger hs high

-- bound = "*" | [int ":"] int
abbrev pub SpellsBounds : Tokens → WrittenBounds → Type 0
SpellsBounds ts (limits.Stated low high) = SpellsRange ts low high
SpellsBounds ts limits.Any = ts ≡ Sign Times ∷ []

-- [dims], dims = "(" bound {"," bound} ")"
abbrev pub SpellsDimensions : Tokens → List WrittenBounds → Type 0
SpellsDimensions ts [] = ts ≡ []
SpellsDimensions ts (b ∷ bs) = SpellsEnclosed (SpellsList Commas SpellsBounds) ts (b ∷ bs)

-- number | "*", in the parentheses of a length or a size
abbrev pub SpellsLength : Tokens → WrittenLength → Type 0
SpellsLength ts (extent.Stated n) = SpellsNumber ts n
SpellsLength ts extent.Any = ts ≡ Sign Times ∷ []

-- number ["," "0"], in the parentheses of a precision
abbrev pub SpellsScaled : Tokens → ℕ → Type 0
SpellsScaled ts n =
    SpellsNumber ts n ⊎ ((us : Tokens) × (ts ≡ us ++ Sign Comma ∷ Decimal 0 1 ∷ []) × SpellsNumber us n)

-- a name
abbrev pub SpellsName : Tokens → Name → Type 0
SpellsName ts n = ts ≡ Word n ∷ []

-- init = ["(" number ")"] int | string | NULL ["(" ")"]
abbrev pub SpellsValue : Tokens → InitialValue → Type 0
SpellsValue ts (initial.Integer None v) = SpellsInteger ts v
SpellsValue ts (initial.Integer (Some factor) v) =
    (fs : Tokens) × (vs : Tokens) × (ts ≡ Sign OpenParenthesis ∷ fs ++ Sign CloseParenthesis ∷ vs)
    × SpellsNumber fs factor × SpellsInteger vs v
SpellsValue ts (initial.Characters s) = ts ≡ Characters s ∷ []
SpellsValue ts (initial.Bits s) = ts ≡ Bits s ∷ []
SpellsValue ts initial.Null =
    (ts ≡ Word (codes "NULL") ∷ [])
    ⊎ (ts ≡ Word (codes "NULL") ∷ Sign OpenParenthesis ∷ Sign CloseParenthesis ∷ [])

-- the keyword of a simple attribute
abbrev pub word_of : tree.SimpleAttribute → SimpleWord
word_of (tree.Fixed n) = words.Fixed
word_of (tree.Binary n) = words.Binary
word_of (tree.Character n) = words.Character
word_of (tree.Bit n) = words.Bit
word_of tree.Varying = words.Varying
word_of tree.Pointer = words.Pointer
word_of (tree.Offset n) = words.Offset
word_of (tree.Area n) = words.Area
word_of (tree.Based names) = words.Based
word_of tree.Controlled = words.Controlled
word_of tree.Static = words.Static
word_of tree.Automatic = words.Automatic
word_of tree.External = words.External
word_of tree.Internal = words.Internal
word_of tree.Builtin = words.Builtin
word_of (tree.Initial values) = words.Initial

-- what stands after that keyword
abbrev pub SpellsAfter : Tokens → tree.SimpleAttribute → Type 0
SpellsAfter ts (tree.Fixed n) = SpellsOptional SpellsScaled ts n
SpellsAfter ts (tree.Binary n) = SpellsOptional SpellsScaled ts n
SpellsAfter ts (tree.Character n) = SpellsOptional SpellsLength ts n
SpellsAfter ts (tree.Bit n) = SpellsOptional SpellsLength ts n
SpellsAfter ts (tree.Area n) = SpellsOptional SpellsLength ts n
SpellsAfter ts (tree.Offset n) = SpellsOptional SpellsName ts n
SpellsAfter ts (tree.Based names) = SpellsOptional (SpellsList Periods SpellsName) ts names
SpellsAfter ts (tree.Initial values) = SpellsEnclosed (SpellsList Commas SpellsValue) ts values
SpellsAfter ts a = ts ≡ []

-- a keyword, long or short, and what stands after it; no word is reserved
abbrev pub SpellsSimple : Tokens → tree.SimpleAttribute → Type 0
SpellsSimple ts a =
    (k : Name) × (us : Tokens) × (ts ≡ Word k ∷ us) × (attribute_word k ≡ Some (attribute.Simple (word_of a)))
    × SpellsAfter us a

-- the parts of a nest
pub data Part : Type 0 where
  OneAttribute : Part
  Attributes : Part
  OneDescription : Part
  Descriptions : Part

-- a nest: an ENTRY or RETURNS in a description must be well formed, though nothing is kept of it
pub data IsWellFormed : Part → Tokens → Type 0 where
  simple : (ts : Tokens) (a : tree.SimpleAttribute) → SpellsSimple ts a → IsWellFormed OneAttribute ts
  entry : (ts : Tokens) → ts ≡ Word (codes "ENTRY") ∷ [] → IsWellFormed OneAttribute ts
  entry_of_none : (ts : Tokens) → ts ≡ Word (codes "ENTRY") ∷ Sign OpenParenthesis ∷ Sign CloseParenthesis
      ∷ [] → IsWellFormed OneAttribute ts
  entry_of : (ts inner : Tokens) → ts ≡ Word (codes "ENTRY") ∷ Sign OpenParenthesis ∷ inner
      ++ Sign CloseParenthesis ∷ [] → IsWellFormed Descriptions inner → IsWellFormed OneAttribute ts
  returns_of : (ts inner : Tokens) → ts ≡ Word (codes "RETURNS") ∷ Sign OpenParenthesis ∷ inner
      ++ Sign CloseParenthesis ∷ [] → IsWellFormed Attributes inner → IsWellFormed OneAttribute ts
  last_attribute : (ts : Tokens) → IsWellFormed OneAttribute ts → IsWellFormed Attributes ts
  more_attributes : (ts front rest : Tokens) → ts ≡ front ++ rest → IsWellFormed OneAttribute front
      → IsWellFormed Attributes rest → IsWellFormed Attributes ts
  description : (ts front rest : Tokens) (dimensions : List WrittenBounds) → ts ≡ front ++ rest
      → SpellsDimensions front dimensions → IsWellFormed Attributes rest → IsWellFormed OneDescription ts
  last_description : (ts : Tokens) → IsWellFormed OneDescription ts → IsWellFormed Descriptions ts
  more_descriptions : (ts front rest : Tokens) → ts ≡ front ++ Sign Comma ∷ rest
      → IsWellFormed OneDescription front → IsWellFormed Descriptions rest → IsWellFormed Descriptions ts

-- attr, in a description
abbrev pub SpellsDescribed : Tokens → tree.DescribedAttribute → Type 0
SpellsDescribed ts (tree.Plain a) = SpellsSimple ts a
SpellsDescribed ts tree.AnyEntry =
    (us : Tokens) × (ts ≡ Word (codes "ENTRY") ∷ us) × IsWellFormed OneAttribute ts
SpellsDescribed ts tree.AnyReturns =
    (us : Tokens) × (ts ≡ Word (codes "RETURNS") ∷ us) × IsWellFormed OneAttribute ts

-- pd = [dims] attr {attr}
abbrev pub SpellsParameter : Tokens → tree.ParameterDescription → Type 0
SpellsParameter ts d =
    (front : Tokens) × (rest : Tokens) × (ts ≡ front ++ rest) × SpellsDimensions front d.dimensions
    × SpellsList Nothing SpellsDescribed rest d.attributes

-- [pd {"," pd}], in the parentheses of an ENTRY
abbrev pub SpellsParameters : Tokens → List tree.ParameterDescription → Type 0
SpellsParameters ts [] = ts ≡ []
SpellsParameters ts (d ∷ ds) = SpellsList Commas SpellsParameter ts (d ∷ ds)

-- "(" attr {attr} ")", after a RETURNS
abbrev pub SpellsReturned : Tokens → List tree.DescribedAttribute → Type 0
SpellsReturned ts attributes = SpellsEnclosed (SpellsList Nothing SpellsDescribed) ts attributes

-- attr, of an item
abbrev pub SpellsAttribute : Tokens → tree.Attribute → Type 0
SpellsAttribute ts (tree.Simple a) = SpellsSimple ts a
SpellsAttribute ts (tree.Entry parameters) =
    (us : Tokens) × (ts ≡ Word (codes "ENTRY") ∷ us) × SpellsOptional SpellsParameters us parameters
SpellsAttribute ts (tree.Returns attributes) =
    (us : Tokens) × (ts ≡ Word (codes "RETURNS") ∷ us) × SpellsReturned us attributes

-- {attr}
abbrev pub SpellsAttributes : Tokens → List tree.Attribute → Type 0
SpellsAttributes ts [] = ts ≡ []
SpellsAttributes ts (a ∷ more) = SpellsList Nothing SpellsAttribute ts (a ∷ more)

-- name | "(" name {"," name} ")": one name alone and a list of one name are one tree
abbrev pub SpellsNames : ℕ → Tokens → List Identifier → Type 0
SpellsNames p ts names =
    ((i : Identifier) × (names ≡ i ∷ []) × SpellsIdentifier p ts i)
    ⊎ ((inner : Tokens) × (ts ≡ Sign OpenParenthesis ∷ inner ++ Sign CloseParenthesis ∷ [])
    × SpellsListed Commas SpellsIdentifier (p + 1) inner names)

-- [number]
abbrev pub SpellsLevel : Tokens → Option ℕ → Type 0
SpellsLevel ts None = ts ≡ []
SpellsLevel ts (Some n) = SpellsNumber ts n

-- item = [number] (name | "(" name {"," name} ")") [dims] {attr}
abbrev pub SpellsItem : ℕ → Tokens → tree.Item → Type 0
SpellsItem p ts i =
    (ls : Tokens) × (ns : Tokens) × (ds : Tokens) × (rs : Tokens) × (ts ≡ ls ++ (ns ++ (ds ++ rs)))
    × SpellsLevel ls i.level × SpellsNames (p + length ls) ns i.names × SpellsDimensions ds i.dimensions
    × SpellsAttributes rs i.attributes

-- item {"," item}
abbrev pub SpellsItems : ℕ → Tokens → List tree.Item → Type 0
SpellsItems p ts items = SpellsListed Commas SpellsItem p ts items

-- item {"," item} ";", after DECLARE
abbrev pub SpellsDeclaration : ℕ → Tokens → List tree.Item → Type 0
SpellsDeclaration p ts items = (us : Tokens) × (ts ≡ us ++ Sign Semicolon ∷ []) × SpellsItems p us items

-- the front of the tokens spells what was read, and the rest is left
abbrev pub SpellsFront : {A : Type 0} → (Spells : ℕ → Tokens → A → Type 0) → ℕ → Tokens → Front A → Type 0
SpellsFront Spells p ts x =
    (front : Tokens) × (ts ≡ front ++ x.rest) × (x.next ≡ p + length front) × Spells p front x.value

-- no item goes on at these tokens: they begin with no comma, parenthesis or keyword of an attribute
abbrev pub EndsItems : Tokens → Type 0
EndsItems ts = (rest_after is_comma ts ≡ None) × (with_attribute ts ≡ None) × (rest_after is_open ts ≡ None)
