-- Calls of built-in functions: what they take, and the type of what they give (X3.74; MOD and all precisions
-- own). A built-in function converts nothing.
use Rattle.std.specs.Prelude.{ℕ, ◌-◌, max, map, nat_eq, nat_le, Bool, false, ◌&&◌, Option, Some, None}
use Rattle.std.specs.Prelude.{option_map}
use Rattle.std.specs.Prelude.{option_and_then, List, [], ◌∷◌, length, Result, slice_get, ℤ, if◌then◌else◌}
use Rattle.pli_base.specs.Reading.{at_fault}
use Rattle.pli_base.specs.Syntax.{Expression, Constant}
use Rattle.pli_base.specs.declared.code.Code.TheVariants.{WrongNumberOfArguments, WrongBuiltInArgument}
use Rattle.pli_base.specs.declared.syntax.ConstantValue.{ConstantValue}
use Rattle.pli_base.specs.declared.syntax.ConstantValue.TheVariants.{Decimal}
use Rattle.pli_base.specs.declared.token.Fault.{Fault}
use Rattle.pli_map.specs.Description.{Array}
use Rattle.pli_map.specs.Dimensions.{bound_of}
use Rattle.pli_map.specs.ParameterTypes.{ParameterType, Stated, AnyArray, ArrayOf}
use Rattle.pli_map.specs.declared.description.Bounds.{Bounds}
use Rattle.pli_map.specs.declared.dimension.WhichBound.{WhichBound}
use Rattle.pli_map.specs.declared.dimension.WhichBound.TheVariants.{Low, High}
use Rattle.pli_operation.specs.declared.operation.Operation.{Operation}
use Rattle.pli_operation.specs.declared.operation.Operation.TheVariants.{Absolute, Sign as SignOf, LengthOf}
use Rattle.pli_operation.specs.declared.operation.Operation.TheVariants.{Greatest, Least, Modulo}
use Rattle.pli_operation.specs.declared.operation.Operation.TheVariants.{Divide as DivideTo, Index as IndexOf}
use Rattle.pli_operation.specs.declared.operation.Operation.TheVariants.{Rest, Substring as SubstringOf}
use Rattle.pli_type_rules.specs.Beginnings.{area_meant, whole_at}
use Rattle.pli_type_rules.specs.ExpressionTypes.{precisions}
use Rattle.pli_type_rules.specs.ExpressionTypes.{TypedValue, held_type}
use Rattle.pli_type_rules.specs.ExpressionTypes.{precision_of, count_precision, all_operands, null_value}
use Rattle.pli_type_rules.specs.ExpressionTypes.{empty_value}
use Rattle.pli_type_rules.specs.Faults.{or_fault}
use Rattle.pli_type_rules.specs.References.{Role, AsValue, AsArgument, Referent}
use Rattle.pli_type_tree.specs.TypedTree.{NewestOf, Operate, TypedExpression, Literal, Held, Calculated}
use Rattle.pli_type_tree.specs.TypedTree.{Generations, Address, AsPointer, AsOffset, Bounded, TypedReference}
use Rattle.pli_type_tree.specs.TypedTree.{Whole}
use Rattle.pli_value.specs.Value.{Number}
use Rattle.pli_type_rules.specs.declared.beginning.Beginning.{Beginning}
use Rattle.pli_type_rules.specs.declared.expression_type.ExpressionType.{ExpressionType}
use Rattle.pli_type_rules.specs.declared.expression_type.ExpressionType.TheVariants as types
use Rattle.pli_declare.specs.declared.built_in.BuiltInFunction.{BuiltInFunction}
use Rattle.pli_declare.specs.declared.built_in.BuiltInFunction.TheVariants as functions

-- what an expression denotes: a variable or a part of one, where it is a reference to that; EMPTY, where it
-- is that alone; else a value
pub data Denoted : Type 0 where
  DenotesVariable : (referent : Referent) → Denoted
  DenotesResult : (value : TypedValue) → Denoted
  DenotesEmpty : Denoted

-- what it is: one value, or a whole aggregate
pub data Meant : Type 0 where
  OneValue : (value : TypedValue) → Meant
  WholeAggregate : (referent : Referent) → Meant

-- a variable or a part of one that is a scalar has a value
abbrev pub meant_by : Referent → Meant
meant_by r = held (held_type r.area r.description)
  where
    held : Option ExpressionType → Meant
    held None = WholeAggregate r
    held (Some kind) = OneValue (record { expression = Held r.reference; kind = kind })

-- what an expression denotes, as one value or a whole aggregate
abbrev pub meant_as : Denoted → Meant
meant_as (DenotesVariable r) = meant_by r
meant_as (DenotesResult value) = OneValue value
meant_as DenotesEmpty = OneValue empty_value

-- an argument, and the number that it is if it is a decimal constant and nothing else
pub record Argument : Type 0 where
  pub denoted : Denoted
  pub written : Option ℕ

-- the number that stands here, without a sign and without parentheses
abbrev pub number_written : Expression → Option ℕ
number_written (Constant at value) = decimal value
  where
    decimal : ConstantValue → Option ℕ
    decimal (Decimal n digits) = Some n
    decimal value = None
number_written expression = None

-- for what arguments stand, where there are as many as these
abbrev pub exactly : (given : ℕ) → List Role → Option (List Role)
exactly given roles = if nat_eq given (length roles) then Some roles else None

-- one value
abbrev pub one : List Role
one = AsValue ∷ []

-- two values
abbrev pub two : List Role
two = AsValue ∷ AsValue ∷ []

-- three values
abbrev pub three : List Role
three = AsValue ∷ AsValue ∷ AsValue ∷ []

-- for what the arguments of a function stand, where it may have so many: SUBSTR has two or three, NULL and
-- EMPTY none. The array of LBOUND and HBOUND and the variable of ALLOCATION are not evaluated, and the number
-- of a dimension and the precision of DIVIDE are constants
abbrev pub roles_of : BuiltInFunction → (given : ℕ) → Option (List Role)
roles_of functions.Abs given = exactly given one
roles_of functions.Sign given = exactly given one
roles_of functions.Length given = exactly given one
roles_of functions.Max given = exactly given two
roles_of functions.Min given = exactly given two
roles_of functions.Mod given = exactly given two
roles_of functions.Index given = exactly given two
roles_of functions.Substring given = if nat_eq given 3 then Some three else exactly given two
roles_of functions.Divide given = exactly given (AsValue ∷ AsValue ∷ AsArgument ∷ [])
roles_of functions.LowBound given = exactly given (AsArgument ∷ AsArgument ∷ [])
roles_of functions.HighBound given = exactly given (AsArgument ∷ AsArgument ∷ [])
roles_of functions.Allocation given = exactly given (AsArgument ∷ [])
roles_of functions.Address given = exactly given (AsArgument ∷ [])
roles_of functions.Null given = exactly given []
roles_of functions.Empty given = exactly given []
roles_of functions.Pointer given = exactly given two
roles_of functions.Offset given = exactly given two

-- the type of what a function gives, by those of its arguments

-- a number that counts something
abbrev pub a_count : ExpressionType
a_count = types.FixedBinary count_precision

-- a string of characters or of bits
abbrev pub string_kind : ExpressionType → Option ExpressionType
string_kind types.Characters = Some types.Characters
string_kind types.Bits = Some types.Bits
string_kind other = None

-- two strings of one kind
abbrev pub of_one_kind : (left right : ExpressionType) → Option ExpressionType
of_one_kind types.Characters types.Characters = Some types.Characters
of_one_kind types.Bits types.Bits = Some types.Bits
of_one_kind left right = None

-- ABS gives the precision of its operand, MAX and MIN the greater one, MOD that of its second operand; SUBSTR
-- gives a string of its first argument's kind
abbrev pub call_type : (greatest : ℕ) → BuiltInFunction → List ExpressionType → Option ExpressionType
call_type greatest functions.Abs (x ∷ []) = option_map types.FixedBinary (precision_of greatest x)
call_type greatest functions.Sign (x ∷ []) = option_map (λ p. a_count) (precision_of greatest x)
call_type greatest functions.Length (s ∷ []) = option_map (λ kind. a_count) (string_kind s)
call_type greatest functions.Max (x ∷ y ∷ []) =
    option_map (λ ps. types.FixedBinary (max ps.0 ps.1)) (precisions greatest x y)
call_type greatest functions.Min (x ∷ y ∷ []) =
    option_map (λ ps. types.FixedBinary (max ps.0 ps.1)) (precisions greatest x y)
call_type greatest functions.Mod (x ∷ y ∷ []) =
    option_map (λ ps. types.FixedBinary ps.1) (precisions greatest x y)
call_type greatest functions.Index (s ∷ t ∷ []) = option_map (λ kind. a_count) (of_one_kind s t)
call_type greatest functions.Substring (s ∷ i ∷ []) =
    option_and_then (λ p. string_kind s) (precision_of greatest i)
call_type greatest functions.Substring (s ∷ i ∷ n ∷ []) =
    option_and_then (λ q. option_and_then (λ p. string_kind s) (precision_of greatest i))
    (precision_of greatest n)
call_type greatest function kinds = None

-- DIVIDE gives the precision that is written, one that a number may have
abbrev pub quotient_type : (greatest : ℕ) → (x y : ExpressionType) → (precision : ℕ) → Option ExpressionType
quotient_type greatest x y precision =
    if nat_le 1 precision && nat_le precision greatest
    then option_map (λ ps. types.FixedBinary precision) (precisions greatest x y)
    else None

-- what is calculated

-- the operation of a function of so many values
abbrev pub operation_of : BuiltInFunction → (given : ℕ) → Option Operation
operation_of functions.Abs given = Some Absolute
operation_of functions.Sign given = Some SignOf
operation_of functions.Length given = Some LengthOf
operation_of functions.Max given = Some Greatest
operation_of functions.Min given = Some Least
operation_of functions.Mod given = Some Modulo
operation_of functions.Index given = Some IndexOf
operation_of functions.Substring given = Some (if nat_eq given 2 then Rest else SubstringOf)
operation_of function given = None

-- an operation of a type on values
abbrev pub calculation : Option Operation → Option ExpressionType → List TypedExpression → Option TypedValue
calculation (Some operation) (Some kind) operands =
    Some (record { expression = Calculated (Operate operation) (all_operands operands); kind = kind })
calculation operation kind operands = None

-- what a function gives of values
abbrev pub of_values : (greatest : ℕ) → BuiltInFunction → List TypedValue → Option TypedValue
of_values greatest function values =
    calculation (operation_of function (length values))
    (call_type greatest function (map (λ v. v.kind) values)) (map (λ v. v.expression) values)

-- DIVIDE of two values
abbrev pub the_quotient : (greatest : ℕ) → (x y : TypedValue) → (written : Option ℕ) → Option TypedValue
the_quotient greatest x y None = None
the_quotient greatest x y (Some precision) =
    calculation (Some (DivideTo precision)) (quotient_type greatest x.kind y.kind precision)
    (x.expression ∷ y.expression ∷ [])

-- a bound is a number that counts
abbrev pub bound_value : ℤ → TypedValue
bound_value bound = record { expression = Literal (Number bound); kind = a_count }

-- a bound of the dimension of this number, from 1, of an array of these bounds
abbrev pub bound_among : WhichBound → (number : ℕ) → List Bounds → Option TypedValue
bound_among which number bounds =
    if nat_le 1 number
    then option_map (λ b. bound_value (bound_of which b)) (slice_get bounds (number - 1))
    else None

-- a bound of an array that is known where it runs: a number that counts
abbrev pub bound_there : WhichBound → (number : ℕ) → TypedReference → TypedValue
bound_there which number reference =
    record { expression = Bounded which number reference; kind = a_count }

-- a bound of the dimension of this number of an array that is meant as a whole, to which a reference leads:
-- a constant where it is stated
abbrev pub bound_in : WhichBound → (number : ℕ) → TypedReference → ParameterType → Option TypedValue
bound_in which number reference (Stated (Array bounds element)) = bound_among which number bounds
bound_in which number reference (ArrayOf bounds element) = bound_among which number bounds
bound_in which number reference (AnyArray dimensions element) =
    if nat_le 1 number && nat_le number dimensions then Some (bound_there which number reference) else None
bound_in which number reference other = None

-- a bound of an array, in the dimension that is written
abbrev pub the_bound : WhichBound → Meant → (written : Option ℕ) → Option TypedValue
the_bound which (WholeAggregate r) (Some number) = bound_in which number r.reference r.description
the_bound which meant written = None

-- how many generations there are, of a whole CONTROLLED variable at level 1
abbrev pub generations_in : TypedReference → Option TypedValue
generations_in (Whole (NewestOf number)) = Some (record { expression = Generations number; kind = a_count })
generations_in reference = None

-- ALLOCATION of an argument
abbrev pub generations_of : Denoted → Option TypedValue
generations_of (DenotesVariable r) = generations_in r.reference
generations_of denoted = None

-- a pointer to a whole variable at level 1 that is no parameter
abbrev pub address_in : (is_parameter : Bool) → TypedReference → Option TypedValue
address_in false (Whole root) = Some (record { expression = Address (Whole root); kind = types.Pointer })
address_in is_parameter reference = None

-- ADDR of an argument
abbrev pub address_of : Denoted → Option TypedValue
address_of (DenotesVariable r) = address_in r.is_parameter r.reference
address_of denoted = None

-- where the area begins that an argument is, if it is the reference of one
abbrev pub area_of : Denoted → Option Beginning
area_of (DenotesVariable r) = area_meant r.reference r.description
area_of denoted = None

-- an offset, whatever area its own declaration names, as a pointer into an area; NULL is none
abbrev pub offset_within : (area : Beginning) → TypedExpression → ExpressionType → Option TypedValue
offset_within area e (types.Offset other) =
    Some (record { expression = AsPointer (whole_at area) e; kind = types.Pointer })
offset_within area e kind = None

-- a pointer, NULL too, as an offset of an area; its type names none
abbrev pub pointer_within : (area : Beginning) → TypedExpression → ExpressionType → Option TypedValue
pointer_within area e types.Pointer =
    Some (record { expression = AsOffset (whole_at area) e; kind = types.Offset None })
pointer_within area e types.Null =
    Some (record { expression = AsOffset (whole_at area) e; kind = types.Offset None })
pointer_within area e kind = None

-- what POINTER and OFFSET, which make something of a locator within an area, give of one value
abbrev pub located_within : ((area : Beginning) → TypedExpression → ExpressionType → Option TypedValue)
    → Meant
    → Option Beginning → Option TypedValue
located_within make (OneValue v) (Some area) = make area v.expression v.kind
located_within make meant area = None

-- the one value that an argument is
abbrev pub value_in : Meant → Option TypedValue
value_in (OneValue v) = Some v
value_in (WholeAggregate r) = None

-- the arguments, where each is one value
abbrev pub values_in : List Argument → Option (List TypedValue)
values_in [] = Some []
values_in (a ∷ more) =
    option_and_then (λ v. option_map (λ vs. v ∷ vs) (values_in more)) (value_in (meant_as a.denoted))

-- DIVIDE's two values
abbrev pub divided : (greatest : ℕ) → (x y : Meant) → (written : Option ℕ) → Option TypedValue
divided greatest (OneValue x) (OneValue y) written = the_quotient greatest x y written
divided greatest x y written = None

-- what a function gives of arguments
abbrev pub of_arguments : (greatest : ℕ) → BuiltInFunction → List Argument → Option TypedValue
of_arguments greatest functions.Divide (x ∷ y ∷ p ∷ []) =
    divided greatest (meant_as x.denoted) (meant_as y.denoted) p.written
of_arguments greatest functions.LowBound (a ∷ n ∷ []) =
    the_bound Low (meant_as a.denoted) n.written
of_arguments greatest functions.HighBound (a ∷ n ∷ []) =
    the_bound High (meant_as a.denoted) n.written
of_arguments greatest functions.Allocation (a ∷ []) = generations_of a.denoted
of_arguments greatest functions.Address (a ∷ []) = address_of a.denoted
of_arguments greatest functions.Null [] = Some null_value
of_arguments greatest functions.Empty [] = Some empty_value
of_arguments greatest functions.Pointer (o ∷ a ∷ []) =
    located_within offset_within (meant_as o.denoted) (area_of a.denoted)
of_arguments greatest functions.Offset (p ∷ a ∷ []) =
    located_within pointer_within (meant_as p.denoted) (area_of a.denoted)
of_arguments greatest function arguments = option_and_then (of_values greatest function) (values_in arguments)

-- T6 at the function's name where the number of arguments is wrong, T13 there where it does not take them
abbrev pub function_called : (greatest : ℕ) → BuiltInFunction → (at : ℕ) → (roles : Option (List Role))
    → List Argument → Result TypedValue Fault
function_called greatest function at None arguments = at_fault WrongNumberOfArguments at
function_called greatest function at (Some roles) arguments =
    or_fault WrongBuiltInArgument at (of_arguments greatest function arguments)
