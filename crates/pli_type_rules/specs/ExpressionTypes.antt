-- The types of expressions: how many digits the number of an operation has, which operands an operator takes,
-- and which conversion a value goes through where it is assigned or printed. Precisions are own, the rest is
-- X3.74.
use Rattle.std.specs.Prelude.{ℕ, ◌+◌, ◌-◌, ◌*◌, ◌^◌, max, min, Bool, true, false, ◌&&◌, Option, Some, None}
use Rattle.std.specs.Prelude.{option_map, pos, if◌then◌else◌}
use Rattle.std.specs.Prelude.{List, [], ◌∷◌, ◌++◌, take}
use Rattle.std.specs.Int.{div_ceil}
use Rattle.pli_base.specs.declared.syntax.ConstantValue.{ConstantValue}
use Rattle.pli_base.specs.declared.syntax.ConstantValue.TheVariants as constants
use Rattle.pli_base.specs.declared.syntax.InfixOperator.{InfixOperator}
use Rattle.pli_base.specs.declared.syntax.InfixOperator.TheVariants as infixes
use Rattle.pli_base.specs.declared.syntax.PrefixOperator.{PrefixOperator}
use Rattle.pli_base.specs.declared.syntax.PrefixOperator.TheVariants as prefixes
use Rattle.pli_map.specs.Description as described
use Rattle.pli_map.specs.Description.{Description}
use Rattle.pli_map.specs.ParameterTypes.{ParameterType, Stated, AnyString}
use Rattle.pli_map.specs.declared.parameter.StringForm.{StringForm}
use Rattle.pli_map.specs.declared.parameter.StringForm.TheVariants as forms
use Rattle.pli_operation.specs.declared.operation.Operation.{Operation}
use Rattle.pli_operation.specs.declared.operation.Operation.TheVariants.{Negate, Not, FromBits, ToCharacters}
use Rattle.pli_operation.specs.declared.operation.Operation.TheVariants.{Add, Subtract, Multiply, Compare}
use Rattle.pli_operation.specs.declared.operation.Operation.TheVariants.{Concatenate, And, Or}
use Rattle.pli_operation.specs.declared.operation.Relation.{Relation}
use Rattle.pli_operation.specs.declared.operation.Relation.TheVariants.{Equal, Unequal, Less, AtMost, Greater}
use Rattle.pli_operation.specs.declared.operation.Relation.TheVariants.{AtLeast}
use Rattle.pli_type_rules.specs.Beginnings.{whole_at}
use Rattle.pli_type_rules.specs.declared.beginning.Beginning.{Beginning}
use Rattle.pli_type_rules.specs.declared.expression_type.ExpressionType.{ExpressionType}
use Rattle.pli_type_rules.specs.declared.expression_type.ExpressionType.TheVariants as types
use Rattle.pli_type_tree.specs.TypedTree.{TypedExpression, Literal, Calculated, Operands, NoOperand}
use Rattle.pli_type_tree.specs.TypedTree.{OperandThen, TypedOperation, Fit, Operate, AsPointer, AsOffset}
use Rattle.pli_type_tree.specs.TypedTree.{Conversion, ByOperations, AsPointerIn, AsOffsetIn, ToPlace}
use Rattle.pli_type_tree.specs.Extents.{longest}
use Rattle.pli_value.specs.Value.{Value, Number, Characters, Bits, Located}
use Rattle.pli_value.specs.declared.locator.Locator.TheVariants as locators

-- an expression with its type
pub record TypedValue : Type 0 where
  pub expression : TypedExpression
  pub kind : ExpressionType

-- precisions: a number has at most so many binary digits, 63

-- of p decimal digits: 1 + 3.32p, rounded up
abbrev pub binary_digits : (greatest digits : ℕ) → ℕ
binary_digits greatest digits = min greatest (1 + div_ceil (332 * digits) 100)

-- of p binary digits: 1 + p / 3.32, rounded up
abbrev pub decimal_digits : (precision : ℕ) → ℕ
decimal_digits precision = 1 + div_ceil (100 * precision) 332

-- as many characters as a number of p decimal digits takes; a constant has at most 19 of them, so the
-- limit of 255 columns is never met
abbrev pub columns : (digits : ℕ) → ℕ
columns digits = min 255 (digits + 3)

-- of what `+` or `-` gives, by those of its operands
abbrev pub sum_precision : (greatest p q : ℕ) → ℕ
sum_precision greatest p q = min greatest (max p q + 1)

-- of what `*` gives
abbrev pub product_precision : (greatest p q : ℕ) → ℕ
product_precision greatest p q = min greatest (p + q + 1)

-- the precision of LENGTH, INDEX, SIGN, ALLOCATION, LBOUND and HBOUND
abbrev pub count_precision : ℕ
count_precision = 15

-- the precision of a number: a decimal constant is FIXED BINARY where it is an operand
abbrev pub precision_of : (greatest : ℕ) → ExpressionType → Option ℕ
precision_of greatest (types.FixedDecimal digits) = Some (binary_digits greatest digits)
precision_of greatest (types.FixedBinary precision) = Some precision
precision_of greatest other = None

-- how many characters a number becomes
abbrev pub width_of : ExpressionType → Option ℕ
width_of (types.FixedDecimal digits) = Some (columns digits)
width_of (types.FixedBinary precision) = Some (columns (decimal_digits precision))
width_of other = None

-- the type of what a variable holds, whose declaration names this area if it is an OFFSET; an aggregate has
-- none
abbrev pub type_of : (area : Option Beginning) → Description → Option ExpressionType
type_of area (described.FixedBinary precision) = Some (types.FixedBinary precision)
type_of area (described.Character n) = Some types.Characters
type_of area (described.Varying n) = Some types.Characters
type_of area (described.Bit n) = Some types.Bits
type_of area described.Pointer = Some types.Pointer
type_of area described.Offset = Some (types.Offset area)
type_of area (described.Area n) = Some types.Area
type_of area aggregate = None

-- the type of strings of a form
abbrev pub form_type : StringForm → ExpressionType
form_type forms.Character = types.Characters
form_type forms.Varying = types.Characters
form_type forms.Bit = types.Bits

-- the type of what a variable of a type holds, whatever the lengths are that are the argument's
abbrev pub held_type : (area : Option Beginning) → ParameterType → Option ExpressionType
held_type area (Stated d) = type_of area d
held_type area (AnyString form) = Some (form_type form)
held_type area aggregate = None

-- a number as far as so many binary digits have room for it: no more than the greatest that they have
abbrev pub within : (precision value : ℕ) → ℕ
within precision value = min value (2 ^ precision - 1)

-- the value of a constant, as far as its type has room for it; of a constant of a text this is what is written
-- (`ConstantsAreAsWritten` of `pli_type_laws`)
abbrev pub literal_value : (greatest : ℕ) → ConstantValue → Value
literal_value greatest (constants.Decimal value digits) =
    Number (pos (within (binary_digits greatest digits) value))
literal_value greatest (constants.Binary value digits) = Number (pos (within (min greatest digits) value))
literal_value greatest (constants.Characters text) = Characters (take longest text)
literal_value greatest (constants.Bits bits) = Bits (take longest bits)

-- the type of a constant: of the digits that are written, leading zeros too
abbrev pub constant_type : (greatest : ℕ) → ConstantValue → ExpressionType
constant_type greatest (constants.Decimal value digits) = types.FixedDecimal digits
constant_type greatest (constants.Binary value digits) = types.FixedBinary (min greatest digits)
constant_type greatest (constants.Characters text) = types.Characters
constant_type greatest (constants.Bits bits) = types.Bits

-- a constant
abbrev pub constant : (greatest : ℕ) → ConstantValue → TypedValue
constant greatest value =
    record { expression = Literal (literal_value greatest value); kind = constant_type greatest value }

-- NULL; it is the null pointer, but beside an OFFSET, and where one is wanted, it is the null offset
abbrev pub null_value : TypedValue
null_value = record { expression = Literal (Located locators.Null); kind = types.Null }

-- the null offset
abbrev pub null_offset : TypedExpression
null_offset = Literal (Located (locators.Offset 0))

-- EMPTY where it is no area that is assigned: nothing takes a value of its type, so what it holds does not
-- matter
abbrev pub empty_value : TypedValue
empty_value = record { expression = Literal (Located locators.Null); kind = types.Area }

-- operations on typed expressions

-- operands in a row, from left to right
abbrev pub all_operands : List TypedExpression → Operands
all_operands [] = NoOperand
all_operands (e ∷ es) = OperandThen e (all_operands es)

-- an operation with one operand
abbrev pub with_one : TypedOperation → TypedExpression → TypedExpression
with_one operation e = Calculated operation (all_operands (e ∷ []))

-- an operation without a description with two operands
abbrev pub with_two : Operation → (left right : TypedExpression) → TypedExpression
with_two operation left right = Calculated (Operate operation) (all_operands (left ∷ right ∷ []))

-- a prefix operator

-- `^` takes bits
abbrev pub with_not : TypedExpression → ExpressionType → Option TypedValue
with_not e types.Bits = Some (record { expression = with_one (Operate Not) e; kind = types.Bits })
with_not e other = None

-- `+` and `-` take a number, which is itself after `+`, and of its own type after `-`, so that a constant is a
-- constant still; `^` takes bits
abbrev pub prefix_value : (greatest : ℕ) → PrefixOperator → TypedValue → Option TypedValue
prefix_value greatest prefixes.Plus v = option_map (λ p. v) (precision_of greatest v.kind)
prefix_value greatest prefixes.Minus v =
    option_map (λ p. record { expression = with_one (Operate Negate) v.expression; kind = v.kind })
    (precision_of greatest v.kind)
prefix_value greatest prefixes.Not v = with_not v.expression v.kind

-- an infix operator

-- two, where there are both
abbrev pub paired : Option ℕ → Option ℕ → Option (ℕ × ℕ)
paired (Some p) (Some q) = Some (p, q)
paired p q = None

-- the precisions of two numbers
abbrev pub precisions : (greatest : ℕ) → (left right : ExpressionType) → Option (ℕ × ℕ)
precisions greatest left right = paired (precision_of greatest left) (precision_of greatest right)

-- an operation on two numbers, by the precision of its result
abbrev pub on_numbers : (greatest : ℕ) → Operation → (precision : (p q : ℕ) → ℕ) → (left right : TypedValue)
    → Option TypedValue
on_numbers greatest operation precision left right =
    option_map (λ ps. record {
      expression = with_two operation left.expression right.expression;
      kind = types.FixedBinary (precision ps.0 ps.1);
    }) (precisions greatest left.kind right.kind)

-- the type in which two strings stand beside one another: bits are read as characters beside characters
abbrev pub string_type : (left right : ExpressionType) → Option ExpressionType
string_type types.Characters types.Characters = Some types.Characters
string_type types.Characters types.Bits = Some types.Characters
string_type types.Bits types.Characters = Some types.Characters
string_type types.Bits types.Bits = Some types.Bits
string_type left right = None

-- a string of this type in one of that type
abbrev pub string_as : TypedExpression → (from to : ExpressionType) → TypedExpression
string_as e types.Bits types.Characters = with_one (Operate FromBits) e
string_as e from to = e

-- an operation on two strings of one type
abbrev pub on_strings : Operation → (left right : TypedValue) → ExpressionType → TypedExpression
on_strings operation left right kind =
    with_two operation (string_as left.expression left.kind kind) (string_as right.expression right.kind kind)

-- a comparison gives one bit
abbrev pub as_bits : TypedExpression → TypedValue
as_bits e = record { expression = e; kind = types.Bits }

-- two strings are compared in the type in which they stand beside one another, or else two numbers
abbrev pub compared : (greatest : ℕ) → Relation → (left right : TypedValue) → Option ExpressionType
    → Option TypedValue
compared greatest relation left right (Some kind) =
    Some (as_bits (on_strings (Compare relation) left right kind))
compared greatest relation left right None =
    option_map (λ v. as_bits v.expression)
    (on_numbers greatest (Compare relation) (sum_precision greatest) left right)

-- a POINTER, an OFFSET or NULL
abbrev pub is_locator : ExpressionType → Bool
is_locator types.Pointer = true
is_locator types.Null = true
is_locator (types.Offset area) = true
is_locator other = false

-- a locator as a pointer: an OFFSET is one in the area that it names
abbrev pub as_pointer : TypedExpression → ExpressionType → Option TypedExpression
as_pointer e types.Pointer = Some e
as_pointer e types.Null = Some e
as_pointer e (types.Offset (Some area)) = Some (AsPointer (whole_at area) e)
as_pointer e other = None

-- a locator as an offset of this area; a POINTER becomes none where no area is named
abbrev pub as_offset : (area : Option Beginning) → TypedExpression → ExpressionType → Option TypedExpression
as_offset area e (types.Offset other) = Some e
as_offset area e types.Null = Some null_offset
as_offset (Some area) e types.Pointer = Some (AsOffset (whole_at area) e)
as_offset area e other = None

-- two locators are compared as offsets where one is an OFFSET, and the other one too, or NULL
abbrev pub are_offsets : (left right : ExpressionType) → Bool
are_offsets (types.Offset area) (types.Offset other) = true
are_offsets (types.Offset area) types.Null = true
are_offsets types.Null (types.Offset area) = true
are_offsets left right = false

-- locators are equal or not; none is less than another
abbrev pub locators_compared : Relation → (left right : Option TypedExpression) → Option TypedValue
locators_compared Equal (Some left) (Some right) = Some (as_bits (with_two (Compare Equal) left right))
locators_compared Unequal (Some left) (Some right) = Some (as_bits (with_two (Compare Unequal) left right))
locators_compared relation left right = None

-- two locators that are not compared as offsets are compared as pointers
abbrev pub locators_beside : Relation → (left right : TypedValue) → Option TypedValue
locators_beside relation left right =
    if are_offsets left.kind right.kind
    then locators_compared relation (as_offset None left.expression left.kind)
    (as_offset None right.expression right.kind)
    else locators_compared relation (as_pointer left.expression left.kind)
    (as_pointer right.expression right.kind)

-- a comparison takes two locators, two strings, or else two numbers
abbrev pub comparison : (greatest : ℕ) → Relation → (left right : TypedValue) → Option TypedValue
comparison greatest relation left right =
    if is_locator left.kind && is_locator right.kind then locators_beside relation left right
    else compared greatest relation left right (string_type left.kind right.kind)

-- `||` takes two strings
abbrev pub concatenation : (left right : TypedValue) → Option TypedValue
concatenation left right =
    option_map (λ kind. record { expression = on_strings Concatenate left right kind; kind = kind })
    (string_type left.kind right.kind)

-- an operation on two strings of bits
abbrev pub of_bits_alone : Operation → (left right : TypedExpression) → (one other : ExpressionType)
    → Option TypedValue
of_bits_alone operation left right types.Bits types.Bits = Some (as_bits (with_two operation left right))
of_bits_alone operation left right one other = None

-- `&` and `|` take two strings of bits
abbrev pub logical : Operation → (left right : TypedValue) → Option TypedValue
logical operation left right =
    of_bits_alone operation left.expression right.expression left.kind right.kind

-- what an infix operator gives, of operands that it takes
abbrev pub infix_value : (greatest : ℕ) → InfixOperator → (left right : TypedValue) → Option TypedValue
infix_value greatest infixes.Add = on_numbers greatest Add (sum_precision greatest)
infix_value greatest infixes.Subtract = on_numbers greatest Subtract (sum_precision greatest)
infix_value greatest infixes.Multiply = on_numbers greatest Multiply (product_precision greatest)
infix_value greatest infixes.Equal = comparison greatest Equal
infix_value greatest infixes.NotEqual = comparison greatest Unequal
infix_value greatest infixes.Less = comparison greatest Less
infix_value greatest infixes.LessOrEqual = comparison greatest AtMost
infix_value greatest infixes.Greater = comparison greatest Greater
infix_value greatest infixes.GreaterOrEqual = comparison greatest AtLeast
infix_value greatest infixes.Concatenate = concatenation
infix_value greatest infixes.And = logical And
infix_value greatest infixes.Or = logical Or

-- conversions

-- a number as characters: a constant that is all that is converted is FIXED DECIMAL
abbrev pub number_as_characters : TypedExpression → Option ℕ → Option TypedExpression
number_as_characters e (Some width) = Some (with_one (Operate (ToCharacters width)) e)
number_as_characters e None = None

-- characters of a string or a number
abbrev pub as_characters : TypedExpression → ExpressionType → Option TypedExpression
as_characters e types.Characters = Some e
as_characters e types.Bits = Some (with_one (Operate FromBits) e)
as_characters e other = number_as_characters e (width_of other)

-- a number stands where a number is assigned
abbrev pub as_number : (greatest : ℕ) → TypedExpression → ExpressionType → Option TypedExpression
as_number greatest e kind = option_map (λ p. e) (precision_of greatest kind)

-- bits stand where bits are assigned
abbrev pub only_bits : TypedExpression → ExpressionType → Option TypedExpression
only_bits e types.Bits = Some e
only_bits e other = None

-- a value of this type for a variable of this description: FIXED from FIXED, BIT from BIT, CHARACTER from
-- CHARACTER, BIT and FIXED
abbrev pub suited : (greatest : ℕ) → Description → TypedExpression → ExpressionType → Option TypedExpression
suited greatest (described.FixedBinary precision) e kind = as_number greatest e kind
suited greatest (described.Character n) e kind = as_characters e kind
suited greatest (described.Varying n) e kind = as_characters e kind
suited greatest (described.Bit n) e kind = only_bits e kind
suited greatest other e kind = None

-- a value of this type for a string of this form and any length, to which it is fitted where it is put
abbrev pub suited_to_form : StringForm → TypedExpression → ExpressionType → Option TypedExpression
suited_to_form forms.Character e kind = as_characters e kind
suited_to_form forms.Varying e kind = as_characters e kind
suited_to_form forms.Bit e kind = only_bits e kind

-- a value that suits a variable is fitted to its description, also where it has the type already; locators
-- are not fitted: a POINTER takes an OFFSET that names an area as a pointer, and an OFFSET of this area a
-- pointer as an offset
abbrev pub converted : (greatest : ℕ) → (area : Option Beginning) → Description → TypedValue
    → Option TypedExpression
converted greatest area described.Pointer v = as_pointer v.expression v.kind
converted greatest area described.Offset v = as_offset area v.expression v.kind
converted greatest area d v = option_map (with_one (Fit d)) (suited greatest d v.expression v.kind)

-- the operations that make characters of a value of this type, one after the other, where it needs any
abbrev pub string_conversions : ExpressionType → Option (List TypedOperation)
string_conversions types.Characters = Some []
string_conversions types.Bits = Some (Operate FromBits ∷ [])
string_conversions other = option_map (λ width. Operate (ToCharacters width) ∷ []) (width_of other)

-- those that make bits of it: none, and only bits
abbrev pub bit_conversions : ExpressionType → Option (List TypedOperation)
bit_conversions types.Bits = Some []
bit_conversions other = None

-- those that make what a variable of this description takes
abbrev pub suiting : (greatest : ℕ) → Description → ExpressionType → Option (List TypedOperation)
suiting greatest (described.FixedBinary precision) kind = option_map (λ p. []) (precision_of greatest kind)
suiting greatest (described.Character n) kind = string_conversions kind
suiting greatest (described.Varying n) kind = string_conversions kind
suiting greatest (described.Bit n) kind = bit_conversions kind
suiting greatest other kind = None

-- those that make a string of this form
abbrev pub form_conversions : StringForm → ExpressionType → Option (List TypedOperation)
form_conversions forms.Character kind = string_conversions kind
form_conversions forms.Varying kind = string_conversions kind
form_conversions forms.Bit kind = bit_conversions kind

-- what makes a pointer of it
abbrev pub pointer_conversion : ExpressionType → Option Conversion
pointer_conversion types.Pointer = Some (ByOperations [])
pointer_conversion types.Null = Some (ByOperations [])
pointer_conversion (types.Offset (Some area)) = Some (AsPointerIn (whole_at area))
pointer_conversion other = None

-- what makes an offset of this area of it
abbrev pub offset_conversion : (area : Option Beginning) → ExpressionType → Option Conversion
offset_conversion area (types.Offset other) = Some (ByOperations [])
offset_conversion area types.Null = Some (ByOperations [])
offset_conversion (Some area) types.Pointer = Some (AsOffsetIn (whole_at area))
offset_conversion area other = None

-- what converts a value of a type to a variable of this description, whose declaration names this area if it
-- is an OFFSET: what makes it suit that, and after it the operation that fits to the variable's range or
-- length; a locator is not fitted
abbrev pub conversion : (greatest : ℕ) → (area : Option Beginning) → Description → ExpressionType
    → Option Conversion
conversion greatest area described.Pointer kind = pointer_conversion kind
conversion greatest area described.Offset kind = offset_conversion area kind
conversion greatest area d kind =
    option_map (λ operations. ByOperations (operations ++ Fit d ∷ [])) (suiting greatest d kind)

-- the same for a variable of a type: a string of any length is fitted at its place
abbrev pub conversion_to : (greatest : ℕ) → (area : Option Beginning) → ParameterType → ExpressionType
    → Option Conversion
conversion_to greatest area (Stated d) kind = conversion greatest area d kind
conversion_to greatest area (AnyString form) kind = option_map ToPlace (form_conversions form kind)
conversion_to greatest area type kind = None

-- NULL as an offset, and any other value as it stands
abbrev pub null_as_offset : TypedExpression → ExpressionType → TypedExpression
null_as_offset e types.Null = null_offset
null_as_offset e other = e

-- a value that is kept before it is converted to a variable of this type: NULL is an offset where that is an
-- OFFSET
abbrev pub unconverted : ParameterType → TypedValue → TypedExpression
unconverted (Stated described.Offset) v = null_as_offset v.expression v.kind
unconverted type v = v.expression

-- what PUT prints of a value of this type: characters and bits as they stand, a number as characters; no
-- locator and no area
abbrev pub printed_from : TypedExpression → ExpressionType → Option TypedExpression
printed_from e types.Characters = Some e
printed_from e types.Bits = Some e
printed_from e other = number_as_characters e (width_of other)

-- what PUT prints of an expression
abbrev pub printed : TypedValue → Option TypedExpression
printed v = printed_from v.expression v.kind
