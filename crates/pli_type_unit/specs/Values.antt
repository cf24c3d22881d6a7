-- The values of expressions: which operands an operator takes, of which type its result is, and which
-- conversion a value goes through where it is assigned or printed. Numbers have at most 63 binary digits.
use Rattle.std.specs.Prelude.{ℕ, ◌+◌, ◌++◌, max, min, Bool, true, false, ◌&&◌, Option, Some, None, option_map}
use Rattle.std.specs.Prelude.{pos}
use Rattle.std.specs.Prelude.{if◌then◌else◌, List, [], ◌∷◌, take, fold}
use Rattle.std.specs.Option.{option_or}
use Rattle.pli_base.specs.declared.syntax.ConstantValue.{ConstantValue}
use Rattle.pli_base.specs.declared.syntax.ConstantValue.TheVariants as constants
use Rattle.pli_base.specs.declared.syntax.InfixOperator.{InfixOperator}
use Rattle.pli_base.specs.declared.syntax.InfixOperator.TheVariants as infixes
use Rattle.pli_base.specs.declared.syntax.PrefixOperator.{PrefixOperator}
use Rattle.pli_base.specs.declared.syntax.PrefixOperator.TheVariants as prefixes
use Rattle.pli_map.specs.Description as described
use Rattle.pli_map.specs.Description.{Description}
use Rattle.pli_map.specs.ParameterTypes.{ParameterType, Stated, AnyString}
use Rattle.pli_operation.specs.declared.operation.Operation.{Operation}
use Rattle.pli_operation.specs.declared.operation.Operation.TheVariants.{Negate, Not, Add, Subtract, Multiply}
use Rattle.pli_operation.specs.declared.operation.Operation.TheVariants.{Compare, Concatenate, And, Or}
use Rattle.pli_operation.specs.declared.operation.Relation.{Relation}
use Rattle.pli_operation.specs.declared.operation.Relation.TheVariants.{Equal, Unequal, Less, AtMost, Greater}
use Rattle.pli_operation.specs.declared.operation.Relation.TheVariants.{AtLeast}
use Rattle.pli_type_rules.specs.ExpressionTypes.{TypedValue, binary_digits, within, precision_of, string_type}
use Rattle.pli_type_rules.specs.ExpressionTypes.{string_as}
use Rattle.pli_type_rules.specs.ExpressionTypes.{is_locator, all_operands, with_one, only_bits}
use Rattle.pli_type_rules.specs.ExpressionTypes.{string_conversions}
use Rattle.pli_type_rules.specs.ExpressionTypes.{bit_conversions, form_type, offset_conversion}
use Rattle.pli_type_rules.specs.ExpressionTypes.{pointer_conversion}
use Rattle.pli_type_rules.specs.ExpressionTypes.{type_of, unconverted}
use Rattle.pli_type_rules.specs.declared.beginning.Beginning.{Beginning}
use Rattle.pli_type_rules.specs.declared.expression_type.ExpressionType.{ExpressionType}
use Rattle.pli_type_rules.specs.declared.expression_type.ExpressionType.TheVariants as types
use Rattle.pli_type_tree.specs.Extents.{longest}
use Rattle.pli_type_tree.specs.TypedTree.{TypedExpression, Literal, Calculated, Operate, AsPointer, AsOffset}
use Rattle.pli_type_tree.specs.TypedTree.{Conversion, ByOperations, AsPointerIn, AsOffsetIn, ToPlace}
use Rattle.pli_type_tree.specs.TypedTree.{Fit, TypedOperation}
use Rattle.pli_type_unit.specs.Found.{◌>>=◌, where_holds}
use Rattle.pli_value.specs.Value.{Value, Number, Characters, Bits}

-- a constant value of a type
abbrev pub literal : Value → ExpressionType → TypedValue
literal value kind = record { expression = Literal value; kind = kind }

-- a constant, of the digits that are written, leading zeros too; its value is held as far as its type has
-- room for it, which of a constant of a text is what is written (`ConstantsAreAsWritten` of `pli_type_laws`)
abbrev pub constant : ConstantValue → TypedValue
constant (constants.Decimal value digits) =
    literal (Number (pos (within (binary_digits 63 digits) value))) (types.FixedDecimal digits)
constant (constants.Binary value digits) =
    literal (Number (pos (within (min 63 digits) value))) (types.FixedBinary (min 63 digits))
constant (constants.Characters text) = literal (Characters (take longest text)) types.Characters
constant (constants.Bits bits) = literal (Bits (take longest bits)) types.Bits

-- how many binary digits a value has, if it is a number
abbrev pub digits_of : TypedValue → Option ℕ
digits_of v = precision_of 63 v.kind

-- an operation on operands, which gives a value of this type
abbrev pub calculated : Operation → List TypedExpression → ExpressionType → TypedValue
calculated operation operands kind =
    record { expression = Calculated (Operate operation) (all_operands operands); kind = kind }

-- operators

-- `+` and `-` take a number, which is itself after `+`, and of its own type after `-`, so that a constant is
-- a constant still; `^` takes bits
abbrev pub prefix_value : PrefixOperator → TypedValue → Option TypedValue
prefix_value prefixes.Plus v = option_map (λ p. v) (digits_of v)
prefix_value prefixes.Minus v = option_map (λ p. calculated Negate (v.expression ∷ []) v.kind) (digits_of v)
prefix_value prefixes.Not v =
    option_map (λ bits. calculated Not (bits ∷ []) types.Bits) (only_bits v.expression v.kind)

-- an operation on two numbers, by the precision of its result
abbrev pub on_numbers : Operation → (precision : (p q : ℕ) → ℕ) → (left right : TypedValue)
    → Option TypedValue
on_numbers operation precision left right = do
  p ← digits_of left
  q ← digits_of right
  Some (calculated operation (left.expression ∷ right.expression ∷ []) (types.FixedBinary (precision p q)))

-- an operation on two strings, in the type in which they stand beside one another
abbrev pub on_strings : Operation → (left right : TypedValue) → Option TypedValue
on_strings operation left right = do
  kind ← string_type left.kind right.kind
  Some (calculated operation
      (string_as left.expression left.kind kind ∷ string_as right.expression right.kind kind ∷ []) kind)

-- an operation on two strings of bits
abbrev pub on_bits : Operation → (left right : TypedValue) → Option TypedValue
on_bits operation left right = do
  one ← only_bits left.expression left.kind
  other ← only_bits right.expression right.kind
  Some (calculated operation (one ∷ other ∷ []) types.Bits)

-- the operations that make a value of one type one of another, one after the other, where it needs any: FIXED
-- from FIXED, BIT from BIT, CHARACTER from CHARACTER, BIT and FIXED
abbrev pub operations_to : (to from : ExpressionType) → Option (List TypedOperation)
operations_to (types.FixedBinary precision) from = option_map (λ p. []) (precision_of 63 from)
operations_to types.Characters from = string_conversions from
operations_to types.Bits from = bit_conversions from
operations_to to from = None

-- what converts a value of a type to a variable of this one, whose declaration names this area if it is an
-- OFFSET: what makes it suit that, and after it the operation that fits to the variable's range or length; a
-- locator is not fitted, and a string of any length is fitted at its place
abbrev pub conversion : (area : Option Beginning) → ParameterType → ExpressionType → Option Conversion
conversion area (Stated described.Pointer) kind = pointer_conversion kind
conversion area (Stated described.Offset) kind = offset_conversion area kind
conversion area (Stated d) kind =
    option_map (λ operations. ByOperations (operations ++ Fit d ∷ []))
    (type_of None d >>= λ to. operations_to to kind)
conversion area (AnyString form) kind = option_map ToPlace (operations_to (form_type form) kind)
conversion area type kind = None

-- a value, converted so
abbrev pub by_conversion : Conversion → TypedExpression → TypedExpression
by_conversion (ByOperations operations) e = fold (λ x operation. with_one operation x) e operations
by_conversion (ToPlace operations) e = fold (λ x operation. with_one operation x) e operations
by_conversion (AsPointerIn area) e = AsPointer area e
by_conversion (AsOffsetIn area) e = AsOffset area e

-- a value as a variable of this type takes it, whose declaration names this area if it is an OFFSET
abbrev pub converted : (area : Option Beginning) → ParameterType → TypedValue → Option TypedExpression
converted area type v =
    option_map (λ made. by_conversion made (unconverted type v)) (conversion area type v.kind)

-- two locators are compared as offsets where one is an OFFSET, and the other one too, or NULL; else as
-- pointers
abbrev pub compared_as : (left right : ExpressionType) → Description
compared_as (types.Offset area) (types.Offset other) = described.Offset
compared_as (types.Offset area) types.Null = described.Offset
compared_as types.Null (types.Offset area) = described.Offset
compared_as left right = described.Pointer

-- locators are equal or not; none is less than another
abbrev pub is_equality : Relation → Bool
is_equality Equal = true
is_equality Unequal = true
is_equality relation = false

-- two locators are compared as this; a POINTER becomes no offset here
abbrev pub locators_compared : Relation → Description → (left right : TypedValue) → Option TypedValue
locators_compared relation d left right = do
  one ← converted None (Stated d) left
  other ← converted None (Stated d) right
  where_holds (is_equality relation) (calculated (Compare relation) (one ∷ other ∷ []) types.Bits)

-- what a comparison gives is one bit
abbrev pub as_bit : TypedValue → TypedValue
as_bit v = record { expression = v.expression; kind = types.Bits }

-- a comparison takes two locators, two strings, or else two numbers
abbrev pub comparison : Relation → (left right : TypedValue) → Option TypedValue
comparison relation left right =
    if is_locator left.kind && is_locator right.kind
    then locators_compared relation (compared_as left.kind right.kind) left right
    else option_map as_bit
    (option_or (on_strings (Compare relation) left right) (on_numbers (Compare relation) max left right))

-- what an infix operator gives, of operands that it takes
abbrev pub infix_value : InfixOperator → (left right : TypedValue) → Option TypedValue
infix_value infixes.Add = on_numbers Add (λ p q. min 63 (max p q + 1))
infix_value infixes.Subtract = on_numbers Subtract (λ p q. min 63 (max p q + 1))
infix_value infixes.Multiply = on_numbers Multiply (λ p q. min 63 (p + q + 1))
infix_value infixes.Equal = comparison Equal
infix_value infixes.NotEqual = comparison Unequal
infix_value infixes.Less = comparison Less
infix_value infixes.LessOrEqual = comparison AtMost
infix_value infixes.Greater = comparison Greater
infix_value infixes.GreaterOrEqual = comparison AtLeast
infix_value infixes.Concatenate = on_strings Concatenate
infix_value infixes.And = on_bits And
infix_value infixes.Or = on_bits Or

-- what PUT prints of a value: characters and bits as they stand, a number as characters; no locator and no
-- area
abbrev pub printed : TypedValue → Option TypedExpression
printed v = from v.kind
  where
    from : ExpressionType → Option TypedExpression
    from types.Bits = Some v.expression
    from other =
        option_map (λ operations. by_conversion (ByOperations operations) v.expression)
        (string_conversions other)
