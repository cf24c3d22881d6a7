-- Reading what stands after DECLARE (X3.74): items, or the one fault. Tokens are counted from 0, and p is
-- the place of the first. A part that need not stand is passed over, so a fault is about what must stand
-- next.
use Rattle.std.specs.Prelude.{ℕ, zero, suc, ◌+◌, nat_eq, Bool, true, false, Option, Some, None, Result}
use Rattle.std.specs.Prelude.{Ok, List, [], ◌∷◌, length, codes, if◌then◌else◌}
use Rattle.pli_base.specs.Name.{Name}
use Rattle.pli_base.specs.Words.{Tokens, same_name, is_open, is_close, is_comma, is_semicolon, rest_after}
use Rattle.pli_base.specs.Words.{name_first, is_colon}
use Rattle.pli_base.specs.Results.{◌>>=◌}
use Rattle.pli_base.specs.Reading.{at_fault, Front, expected, read_as, mapped, taken, enclosed}
use Rattle.pli_base.specs.Reading.{if_open, or_none}
use Rattle.pli_base.specs.declared.code.Code.TheVariants.{ParenthesisExpected, SemicolonExpected}
use Rattle.pli_base.specs.declared.code.Code.TheVariants.{NameExpected, EndMissing, BadAttribute}
use Rattle.pli_base.specs.declared.code.Code.TheVariants.{ConstantExpected}
use Rattle.pli_base.specs.declared.token.Fault.{Fault}
use Rattle.pli_base.specs.declared.token.Sign.TheVariants.{OpenParenthesis, Plus, Minus, Times}
use Rattle.pli_base.specs.declared.token.TokenText.TheVariants.{Word, Decimal, Binary, Characters, Bits, Sign}
use Rattle.pli_parse_declaration.specs.DeclarationWords.{attribute_first, with_attribute, begins_description}
use Rattle.pli_parse_declaration.specs.DeclarationWords.{is_zero}
use Rattle.pli_base.specs.Declarations as tree
use Rattle.pli_base.specs.declared.syntax.Identifier.{Identifier}
use Rattle.pli_base.specs.declared.declaration.Integer.{Integer}
use Rattle.pli_base.specs.declared.declaration.WrittenBounds.{WrittenBounds}
use Rattle.pli_base.specs.declared.declaration.WrittenBounds.TheVariants as limits
use Rattle.pli_base.specs.declared.declaration.WrittenLength.{WrittenLength}
use Rattle.pli_base.specs.declared.declaration.WrittenLength.TheVariants as extent
use Rattle.pli_base.specs.declared.declaration.InitialValue.{InitialValue}
use Rattle.pli_base.specs.declared.declaration.InitialValue.TheVariants as initial
use Rattle.pli_parse_declaration.specs.declared.word.SimpleWord.{SimpleWord}
use Rattle.pli_parse_declaration.specs.declared.word.SimpleWord.TheVariants as words
use Rattle.pli_parse_declaration.specs.declared.word.AttributeWord.{AttributeWord}
use Rattle.pli_parse_declaration.specs.declared.word.AttributeWord.TheVariants as attribute
use Rattle.pli_parse_declaration.specs.declared.nest.Open.{Open}
use Rattle.pli_parse_declaration.specs.declared.nest.Open.TheVariants as opened
use Rattle.pli_parse_declaration.specs.declared.nest.Expects.{Expects}
use Rattle.pli_parse_declaration.specs.declared.nest.Expects.TheVariants as expects
use Rattle.pli_parse_declaration.specs.Separators.{separated, after_separator}
use Rattle.pli_parse_declaration.specs.declared.list.Separator.{Separator}
use Rattle.pli_parse_declaration.specs.declared.list.Separator.TheVariants.{Commas, Periods, Nothing}

-- after a value of a list: what more reads, or the list's end
abbrev pub listed_after : {A : Type 0} → Separator → (more : ℕ → Tokens → Result (Front (List A)) Fault)
    → Front A → Option Tokens → Result (Front (List A)) Fault
listed_after separator more x None = read_as (x.value ∷ []) x.next x.rest
listed_after separator more x (Some us) =
    more (after_separator separator x.next) us >>= λ y. read_as (x.value ∷ y.value) y.next y.rest

-- one or more of what `one` reads; each takes one of the bound, which is more than the number of tokens
unfoldable pub listed_at : {A : Type 0} → Separator → (one : ℕ → Tokens → Result (Front A) Fault)
    → (bound : ℕ) → ℕ → Tokens → Result (Front (List A)) Fault
listed_at separator one zero p ts = at_fault EndMissing p
listed_at separator one (suc bound) p ts =
    one p ts >>= λ x. listed_after separator (listed_at separator one bound) x (separated separator x.rest)

-- a list with its separators
abbrev pub list_at : {A : Type 0} → Separator → (one : ℕ → Tokens → Result (Front A) Fault) → ℕ → Tokens
    → Result (Front (List A)) Fault
list_at separator one p ts = listed_at separator one (length ts + 1) p ts

-- a decimal or binary constant
unfoldable pub number_at : ℕ → Tokens → Result (Front ℕ) Fault
number_at p (Decimal v d ∷ ts) = read_as v (p + 1) ts
number_at p (Binary v d ∷ ts) = read_as v (p + 1) ts
number_at p ts = expected ConstantExpected p ts

-- of this sign
abbrev pub signed : Bool → Result (Front ℕ) Fault → Result (Front Integer) Fault
signed negative = mapped (λ v. record { negative = negative; value = v })

-- a constant with or without a sign
unfoldable pub integer_at : ℕ → Tokens → Result (Front Integer) Fault
integer_at p (Sign Plus ∷ ts) = signed false (number_at (p + 1) ts)
integer_at p (Sign Minus ∷ ts) = signed true (number_at (p + 1) ts)
integer_at p ts = signed false (number_at p ts)

-- a lower bound is one after which a colon stands
abbrev pub bounds_from : Front Integer → Option Tokens → Result (Front WrittenBounds) Fault
bounds_from x None = read_as (limits.Stated None x.value) x.next x.rest
bounds_from x (Some us) = mapped (limits.Stated (Some x.value)) (integer_at (x.next + 1) us)

-- bounds that are written: one number, or two with a colon between them
abbrev pub stated_at : ℕ → Tokens → Result (Front WrittenBounds) Fault
stated_at p ts = integer_at p ts >>= λ x. bounds_from x (rest_after is_colon x.rest)

-- the bounds of a dimension: `*`, or those that are written
unfoldable pub bounds_at : ℕ → Tokens → Result (Front WrittenBounds) Fault
bounds_at p (Sign Times ∷ ts) = read_as limits.Any (p + 1) ts
bounds_at p ts = stated_at p ts

-- dimensions in parentheses, or none
unfoldable pub dimensions_at : ℕ → Tokens → Result (Front (List WrittenBounds)) Fault
dimensions_at p ts = mapped or_none (if_open (list_at Commas bounds_at) p ts (rest_after is_open ts))

-- a length or a size: `*`, or a number
unfoldable pub extent_at : ℕ → Tokens → Result (Front WrittenLength) Fault
extent_at p (Sign Times ∷ ts) = read_as extent.Any (p + 1) ts
extent_at p ts = mapped extent.Stated (number_at p ts)

-- the same in parentheses
unfoldable pub length_at : ℕ → Tokens → Result (Front (Option WrittenLength)) Fault
length_at p ts = if_open extent_at p ts (rest_after is_open ts)

-- a scale is 0
abbrev pub with_scale : Front ℕ → Option Tokens → Result (Front ℕ) Fault
with_scale x None = Ok x
with_scale x (Some us) =
    taken is_zero ConstantExpected (x.next + 1) us >>= λ rest. read_as x.value (x.next + 2) rest

-- a precision, perhaps with the scale 0
unfoldable pub scaled_at : ℕ → Tokens → Result (Front ℕ) Fault
scaled_at p ts = number_at p ts >>= λ x. with_scale x (rest_after is_comma x.rest)

-- a precision in parentheses
unfoldable pub precision_at : ℕ → Tokens → Result (Front (Option ℕ)) Fault
precision_at p ts = if_open scaled_at p ts (rest_after is_open ts)

-- a name
abbrev pub name_from : ℕ → Tokens → Option (Name × Tokens) → Result (Front Name) Fault
name_from p ts None = expected NameExpected p ts
name_from p ts (Some x) = read_as x.0 (p + 1) x.1

-- a name
unfoldable pub name_at : ℕ → Tokens → Result (Front Name) Fault
name_at p ts = name_from p ts (name_first ts)

-- a name with its token
unfoldable pub identifier_at : ℕ → Tokens → Result (Front Identifier) Fault
identifier_at p ts = mapped (λ n. record { name = n; at = p }) (name_at p ts)

-- the name of an area in parentheses
unfoldable pub area_at : ℕ → Tokens → Result (Front (Option Name)) Fault
area_at p ts = if_open name_at p ts (rest_after is_open ts)

-- a locator in parentheses: a name, qualified by those before it
unfoldable pub locator_at : ℕ → Tokens → Result (Front (Option (List Name))) Fault
locator_at p ts = if_open (list_at Periods name_at) p ts (rest_after is_open ts)

-- a factor stands before an integer only
unfoldable pub repeated_at : ℕ → Tokens → Result (Front InitialValue) Fault
repeated_at p ts =
    enclosed (number_at p ts) >>= λ factor. mapped (initial.Integer (Some factor.value))
    (integer_at factor.next factor.rest)

-- NULL with or without `()`
abbrev pub null_from : ℕ → Tokens → Option Tokens → Result (Front InitialValue) Fault
null_from p ts None = read_as initial.Null p ts
null_from p ts (Some us) =
    taken is_close ParenthesisExpected (p + 1) us >>= λ rest. read_as initial.Null (p + 2) rest

-- a value in INITIAL
unfoldable pub value_at : ℕ → Tokens → Result (Front InitialValue) Fault
value_at p (Characters s ∷ ts) = read_as (initial.Characters s) (p + 1) ts
value_at p (Bits s ∷ ts) = read_as (initial.Bits s) (p + 1) ts
value_at p (Sign OpenParenthesis ∷ ts) = repeated_at (p + 1) ts
value_at p (Word n ∷ ts) =
    if same_name n (codes "NULL") then null_from (p + 1) ts (rest_after is_open ts)
    else expected ConstantExpected p (Word n ∷ ts)
value_at p ts = mapped (initial.Integer None) (integer_at p ts)

-- the values of INITIAL in their parentheses
unfoldable pub values_at : ℕ → Tokens → Result (Front (List InitialValue)) Fault
values_at p ts =
    taken is_open ParenthesisExpected p ts >>= λ us. enclosed (list_at Commas value_at (p + 1) us)

-- after the keyword of a simple attribute
unfoldable pub simple_of : SimpleWord → ℕ → Tokens → Result (Front tree.SimpleAttribute) Fault
simple_of words.Fixed p ts = mapped tree.Fixed (precision_at p ts)
simple_of words.Binary p ts = mapped tree.Binary (precision_at p ts)
simple_of words.Character p ts = mapped tree.Character (length_at p ts)
simple_of words.Bit p ts = mapped tree.Bit (length_at p ts)
simple_of words.Varying p ts = read_as tree.Varying p ts
simple_of words.Pointer p ts = read_as tree.Pointer p ts
simple_of words.Offset p ts = mapped tree.Offset (area_at p ts)
simple_of words.Area p ts = mapped tree.Area (length_at p ts)
simple_of words.Based p ts = mapped tree.Based (locator_at p ts)
simple_of words.Controlled p ts = read_as tree.Controlled p ts
simple_of words.Static p ts = read_as tree.Static p ts
simple_of words.Automatic p ts = read_as tree.Automatic p ts
simple_of words.External p ts = read_as tree.External p ts
simple_of words.Internal p ts = read_as tree.Internal p ts
simple_of words.Builtin p ts = read_as tree.Builtin p ts
simple_of words.Initial p ts = mapped tree.Initial (values_at p ts)

-- A nest: an ENTRY or RETURNS in a description. It is walked with a list of the parentheses that are open,
-- the innermost first, since it may be as deep as the text is long.
pub record Walk : Type 0 where
  pub opens : List Open
  pub expects : Expects
  pub next : ℕ
  pub rest : Tokens

-- a description in the parentheses of an ENTRY: its attributes must stand after its dimensions
unfoldable pub description_walk : List Open → ℕ → Tokens → Result Walk Fault
description_walk opens p ts =
    dimensions_at p ts >>= λ x. Ok (record {
      opens = opened.Entry
          ∷ opens;
      expects = expects.Attribute;
      next = x.next;
      rest = x.rest;
    })

-- after `ENTRY(`: `)`, or a description
abbrev pub parameters_walk : List Open → ℕ → Tokens → Option Tokens → Result Walk Fault
parameters_walk opens p us (Some vs) =
    Ok (record { opens = opens; expects = expects.More; next = p + 1; rest = vs })
parameters_walk opens p us None =
    if begins_description us then description_walk opens p us else expected ParenthesisExpected p us

-- after ENTRY
abbrev pub entry_walk : List Open → ℕ → Tokens → Option Tokens → Result Walk Fault
entry_walk opens p ts None = Ok (record { opens = opens; expects = expects.More; next = p; rest = ts })
entry_walk opens p ts (Some us) = parameters_walk opens (p + 1) us (rest_after is_close us)

-- after the keyword of an attribute
unfoldable pub word_walk : List Open → AttributeWord → ℕ → Tokens → Result Walk Fault
word_walk opens (attribute.Simple w) p ts =
    simple_of w p ts >>= λ x. Ok (record {
      opens = opens;
      expects = expects.More;
      next = x.next;
      rest = x.rest;
    })
word_walk opens attribute.Entry p ts = entry_walk opens p ts (rest_after is_open ts)
word_walk opens attribute.Returns p ts =
    taken is_open ParenthesisExpected p ts >>= λ us. Ok (record {
      opens = opened.Returns
          ∷ opens;
      expects = expects.Attribute;
      next = p + 1;
      rest = us;
    })

-- after an attribute where no other begins: the innermost parenthesis closes, or in an ENTRY another
-- description follows
abbrev pub closed_walk : List Open → ℕ → Tokens → Option Tokens → Result Walk Fault
closed_walk opens p ts (Some us) =
    Ok (record { opens = opens; expects = expects.More; next = p + 1; rest = us })
closed_walk opens p ts None = expected ParenthesisExpected p ts

-- after a comma another parameter description begins; else the parenthesis closes
abbrev pub comma_walk : List Open → ℕ → Tokens → Option Tokens → Result Walk Fault
comma_walk opens p ts (Some us) = description_walk opens (p + 1) us
comma_walk opens p ts None = closed_walk opens p ts (rest_after is_close ts)

-- what follows an attribute inside the parentheses that are open
unfoldable pub after_attributes_walk : List Open → ℕ → Tokens → Result Walk Fault
after_attributes_walk [] p ts = expected ParenthesisExpected p ts
after_attributes_walk (opened.Entry ∷ opens) p ts = comma_walk opens p ts (rest_after is_comma ts)
after_attributes_walk (opened.Returns ∷ opens) p ts = closed_walk opens p ts (rest_after is_close ts)

-- where no attribute's keyword stands
abbrev pub no_word_walk : List Open → Expects → ℕ → Tokens → Result Walk Fault
no_word_walk opens expects.Attribute p ts = expected BadAttribute p ts
no_word_walk opens expects.More p ts = after_attributes_walk opens p ts

-- the next attribute, if a word for one stands here
abbrev pub walk_by : List Open → Expects → ℕ → Tokens → Option (AttributeWord × Tokens) → Result Walk Fault
walk_by opens what p ts (Some x) = word_walk opens x.0 (p + 1) x.1
walk_by opens what p ts None = no_word_walk opens what p ts

-- a step of the walk
unfoldable pub step_at : List Open → Expects → ℕ → Tokens → Result Walk Fault
step_at opens what p ts = walk_by opens what p ts (attribute_first ts)

-- whether the walk may end here: all parentheses are closed
abbrev pub is_over : List Open → Expects → Bool
is_over opens expects.Attribute = false
is_over opens expects.More = nat_eq (length opens) 0

-- the walk goes on until an attribute has ended and no parenthesis is open
abbrev pub walked_after : (more : List Open → Expects → ℕ → Tokens → Result (Front (Unit {0})) Fault)
    → List Open → Expects → ℕ → Tokens → Result (Front (Unit {0})) Fault
walked_after more [] expects.More p ts = read_as tt p ts
walked_after more opens what p ts = more opens what p ts

-- each step takes one of the bound, which is more than the number of tokens
unfoldable pub walked : (bound : ℕ) → List Open → Expects → ℕ → Tokens → Result (Front (Unit {0})) Fault
walked zero opens what p ts = at_fault EndMissing p
walked (suc bound) opens what p ts =
    step_at opens what p ts >>= λ w. walked_after (walked bound) w.opens w.expects w.next w.rest

-- an attribute, nothing of which is kept
unfoldable pub nest_at : ℕ → Tokens → Result (Front (Unit {0})) Fault
nest_at p ts = walked (length ts + 1) [] expects.Attribute p ts

-- an attribute of a description
abbrev pub described_from : ℕ → Tokens → Option (AttributeWord × Tokens)
    → Result (Front tree.DescribedAttribute) Fault
described_from p ts None = expected BadAttribute p ts
described_from p ts (Some (attribute.Simple w, us)) = mapped tree.Plain (simple_of w (p + 1) us)
described_from p ts (Some (attribute.Entry, us)) = mapped (λ nothing. tree.AnyEntry) (nest_at p ts)
described_from p ts (Some (attribute.Returns, us)) = mapped (λ nothing. tree.AnyReturns) (nest_at p ts)

-- one attribute of a description
unfoldable pub described_at : ℕ → Tokens → Result (Front tree.DescribedAttribute) Fault
described_at p ts = described_from p ts (attribute_first ts)

-- the description of a parameter
unfoldable pub parameter_at : ℕ → Tokens → Result (Front tree.ParameterDescription) Fault
parameter_at p ts = do
  dimensions ← dimensions_at p ts
  attributes ← list_at Nothing described_at dimensions.next dimensions.rest
  read_as (record {
    dimensions = dimensions.value;
    attributes = attributes.value;
  }) attributes.next attributes.rest

-- after `ENTRY(`: `)`, or descriptions and `)`
abbrev pub parameters_from : ℕ → Tokens → Option Tokens
    → Result (Front (List tree.ParameterDescription)) Fault
parameters_from p us (Some vs) = read_as [] (p + 1) vs
parameters_from p us None =
    if begins_description us then enclosed (list_at Commas parameter_at p us)
    else expected ParenthesisExpected p us

-- the parameter descriptions of ENTRY up to its parenthesis
unfoldable pub parameters_at : ℕ → Tokens → Result (Front (List tree.ParameterDescription)) Fault
parameters_at p us = parameters_from p us (rest_after is_close us)

-- after ENTRY
abbrev pub entry_from : ℕ → Tokens → Option Tokens
    → Result (Front (Option (List tree.ParameterDescription))) Fault
entry_from p ts None = read_as None p ts
entry_from p ts (Some us) = mapped Some (parameters_at (p + 1) us)

-- the parameter descriptions of ENTRY, if there are any
unfoldable pub entry_at : ℕ → Tokens → Result (Front (Option (List tree.ParameterDescription))) Fault
entry_at p ts = entry_from p ts (rest_after is_open ts)

-- after RETURNS: attributes in parentheses
unfoldable pub returned_at : ℕ → Tokens → Result (Front (List tree.DescribedAttribute)) Fault
returned_at p ts =
    taken is_open ParenthesisExpected p ts >>= λ us. enclosed (list_at Nothing described_at (p + 1) us)

-- an attribute of an item
abbrev pub attribute_from : ℕ → Tokens → Option (AttributeWord × Tokens) → Result (Front tree.Attribute) Fault
attribute_from p ts None = expected BadAttribute p ts
attribute_from p ts (Some (attribute.Simple w, us)) = mapped tree.Simple (simple_of w (p + 1) us)
attribute_from p ts (Some (attribute.Entry, us)) = mapped tree.Entry (entry_at (p + 1) us)
attribute_from p ts (Some (attribute.Returns, us)) = mapped tree.Returns (returned_at (p + 1) us)

-- one attribute of an item
unfoldable pub attribute_at : ℕ → Tokens → Result (Front tree.Attribute) Fault
attribute_at p ts = attribute_from p ts (attribute_first ts)

-- attributes as long as they come
abbrev pub attributes_from : ℕ → Tokens → Option Tokens → Result (Front (List tree.Attribute)) Fault
attributes_from p ts None = read_as [] p ts
attributes_from p ts (Some us) = list_at Nothing attribute_at p ts

-- the attributes of an item
unfoldable pub attributes_at : ℕ → Tokens → Result (Front (List tree.Attribute)) Fault
attributes_at p ts = attributes_from p ts (with_attribute ts)

-- a level number, if there is one
unfoldable pub level_at : ℕ → Tokens → Front (Option ℕ)
level_at p (Decimal v d ∷ ts) = record { value = Some v; next = p + 1; rest = ts }
level_at p (Binary v d ∷ ts) = record { value = Some v; next = p + 1; rest = ts }
level_at p ts = record { value = None; next = p; rest = ts }

-- one name, or names in parentheses
abbrev pub names_from : ℕ → Tokens → Option Tokens → Result (Front (List Identifier)) Fault
names_from p ts None = mapped (λ x. x ∷ []) (identifier_at p ts)
names_from p ts (Some us) = enclosed (list_at Commas identifier_at (p + 1) us)

-- the name of an item, or its names in parentheses
unfoldable pub names_at : ℕ → Tokens → Result (Front (List Identifier)) Fault
names_at p ts = names_from p ts (rest_after is_open ts)

-- one item of DECLARE: level, names, dimensions, attributes
unfoldable pub item_at : ℕ → Tokens → Result (Front tree.Item) Fault
item_at p ts = do
  names ← names_at (level_at p ts).next (level_at p ts).rest
  dimensions ← dimensions_at names.next names.rest
  attributes ← attributes_at dimensions.next dimensions.rest
  read_as (record {
    level = (level_at p ts).value;
    names = names.value;
    dimensions = dimensions.value;
    attributes = attributes.value;
  }) attributes.next attributes.rest

-- after DECLARE, up to what neither continues an item nor is a comma
abbrev pub items_at : ℕ → Tokens → Result (Front (List tree.Item)) Fault
items_at p ts = list_at Commas item_at p ts

-- after DECLARE, with the `;`
unfoldable pub declaration_at : ℕ → Tokens → Result (Front (List tree.Item)) Fault
declaration_at p ts =
    items_at p ts >>= λ x. taken is_semicolon SemicolonExpected x.next x.rest >>= λ rest. read_as x.value
    (x.next + 1) rest
