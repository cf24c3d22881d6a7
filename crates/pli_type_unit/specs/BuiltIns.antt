-- Calls of built-in functions: what they take, and what they give. A built-in function converts nothing.
use Rattle.std.specs.Prelude.{ℕ, max, nat_eq, nat_le, ◌&&◌, Option, Some, None, option_map}
use Rattle.std.specs.Prelude.{List, [], ◌∷◌, length, replicate, if◌then◌else◌}
use Rattle.pli_map.specs.declared.dimension.WhichBound.{WhichBound}
use Rattle.pli_map.specs.declared.dimension.WhichBound.TheVariants.{Low, High}
use Rattle.pli_operation.specs.declared.operation.Operation.TheVariants.{Absolute, Sign as SignOf, LengthOf}
use Rattle.pli_operation.specs.declared.operation.Operation.TheVariants.{Greatest, Least, Modulo}
use Rattle.pli_operation.specs.declared.operation.Operation.TheVariants.{Divide as DivideTo, Index as IndexOf}
use Rattle.pli_operation.specs.declared.operation.Operation.TheVariants.{Rest, Substring as SubstringOf}
use Rattle.pli_declare.specs.declared.built_in.BuiltInFunction.{BuiltInFunction}
use Rattle.pli_declare.specs.declared.built_in.BuiltInFunction.TheVariants as functions
use Rattle.pli_type_rules.specs.ExpressionTypes.{TypedValue, held_type, null_value, empty_value}
use Rattle.pli_type_rules.specs.FunctionCalls.{Denoted, DenotesVariable, DenotesResult, DenotesEmpty}
use Rattle.pli_type_rules.specs.FunctionCalls.{Argument}
use Rattle.pli_type_rules.specs.FunctionCalls.{a_count, string_kind, of_one_kind, generations_in, address_in}
use Rattle.pli_type_rules.specs.FunctionCalls.{area_of, bound_in, offset_within, pointer_within}
use Rattle.pli_type_rules.specs.References.{Role, AsValue, AsArgument, Referent}
use Rattle.pli_type_rules.specs.declared.expression_type.ExpressionType.TheVariants as types
use Rattle.pli_type_tree.specs.TypedTree.{Held}
use Rattle.pli_type_unit.specs.Found.{◌>>=◌, where_holds}
use Rattle.pli_type_unit.specs.Values.{calculated, digits_of, on_numbers}

-- the variable or the part of one that is denoted, if it is one
abbrev pub referent_in : Denoted → Option Referent
referent_in (DenotesVariable r) = Some r
referent_in denoted = None

-- the one value that is denoted; none, where it is a whole aggregate
abbrev pub value_in : Denoted → Option TypedValue
value_in (DenotesVariable r) =
    option_map (λ kind. record { expression = Held r.reference; kind = kind })
    (held_type r.area r.description)
value_in (DenotesResult value) = Some value
value_in DenotesEmpty = Some empty_value

-- for what the arguments of a function stand, of which there are so many: SUBSTR has two or three, NULL and
-- EMPTY none. The array of LBOUND and HBOUND and the variable of ALLOCATION are not evaluated, and the number
-- of a dimension and the precision of DIVIDE are constants
abbrev pub roles_of : BuiltInFunction → (given : ℕ) → List Role
roles_of functions.Null given = []
roles_of functions.Empty given = []
roles_of functions.Abs given = AsValue ∷ []
roles_of functions.Sign given = AsValue ∷ []
roles_of functions.Length given = AsValue ∷ []
roles_of functions.Allocation given = AsArgument ∷ []
roles_of functions.Address given = AsArgument ∷ []
roles_of functions.LowBound given = AsArgument ∷ AsArgument ∷ []
roles_of functions.HighBound given = AsArgument ∷ AsArgument ∷ []
roles_of functions.Divide given = AsValue ∷ AsValue ∷ AsArgument ∷ []
roles_of functions.Substring given = replicate (if nat_eq given 3 then 3 else 2) AsValue
roles_of function given = AsValue ∷ AsValue ∷ []

-- the same, where it may have so many
abbrev pub roles_asked : BuiltInFunction → (given : ℕ) → Option (List Role)
roles_asked function given =
    where_holds (nat_eq given (length (roles_of function given))) (roles_of function given)

-- what a function gives of values that it takes: ABS has the precision of its operand, MAX and MIN the
-- greater one, MOD that of its second operand; SUBSTR gives a string of its first argument's kind
abbrev pub of_values : BuiltInFunction → List TypedValue → Option TypedValue
of_values functions.Abs (x ∷ []) =
    option_map (λ p. calculated Absolute (x.expression ∷ []) (types.FixedBinary p)) (digits_of x)
of_values functions.Sign (x ∷ []) =
    option_map (λ p. calculated SignOf (x.expression ∷ []) a_count) (digits_of x)
of_values functions.Length (s ∷ []) =
    option_map (λ kind. calculated LengthOf (s.expression ∷ []) a_count) (string_kind s.kind)
of_values functions.Max (x ∷ y ∷ []) = on_numbers Greatest max x y
of_values functions.Min (x ∷ y ∷ []) = on_numbers Least max x y
of_values functions.Mod (x ∷ y ∷ []) = on_numbers Modulo (λ p q. q) x y
of_values functions.Index (s ∷ t ∷ []) =
    option_map (λ kind. calculated IndexOf (s.expression ∷ t.expression ∷ []) a_count)
    (of_one_kind s.kind t.kind)
of_values functions.Substring (s ∷ i ∷ []) = do
  p ← digits_of i
  kind ← string_kind s.kind
  Some (calculated Rest (s.expression ∷ i.expression ∷ []) kind)
of_values functions.Substring (s ∷ i ∷ n ∷ []) = do
  p ← digits_of i
  q ← digits_of n
  kind ← string_kind s.kind
  Some (calculated SubstringOf (s.expression ∷ i.expression ∷ n.expression ∷ []) kind)
of_values functions.Null [] = Some null_value
of_values functions.Empty [] = Some empty_value
of_values function values = None

-- DIVIDE gives the precision that is written, one that a number may have
abbrev pub the_quotient : (x y : Denoted) → (written : Option ℕ) → Option TypedValue
the_quotient x y written = do
  v ← value_in x
  w ← value_in y
  precision ← written
  if nat_le 1 precision && nat_le precision 63
      then on_numbers (DivideTo precision) (λ p q. precision) v w else None

-- a bound of an array, in the dimension that is written
abbrev pub the_bound : WhichBound → Denoted → (written : Option ℕ) → Option TypedValue
the_bound which array written = do
  r ← referent_in array
  number ← written
  bound_in which number r.reference r.description

-- the arguments, where each is one value
abbrev pub values_in : List Argument → Option (List TypedValue)
values_in [] = Some []
values_in (a ∷ more) = do
  v ← value_in a.denoted
  vs ← values_in more
  Some (v ∷ vs)

-- what a function gives of arguments
abbrev pub of_arguments : BuiltInFunction → List Argument → Option TypedValue
of_arguments functions.Divide (x ∷ y ∷ p ∷ []) = the_quotient x.denoted y.denoted p.written
of_arguments functions.LowBound (a ∷ n ∷ []) = the_bound Low a.denoted n.written
of_arguments functions.HighBound (a ∷ n ∷ []) = the_bound High a.denoted n.written
of_arguments functions.Allocation (a ∷ []) = referent_in a.denoted >>= λ r. generations_in r.reference
of_arguments functions.Address (a ∷ []) =
    referent_in a.denoted >>= λ r. address_in r.is_parameter r.reference
of_arguments functions.Pointer (o ∷ a ∷ []) = do
  v ← value_in o.denoted
  area ← area_of a.denoted
  offset_within area v.expression v.kind
of_arguments functions.Offset (p ∷ a ∷ []) = do
  v ← value_in p.denoted
  area ← area_of a.denoted
  pointer_within area v.expression v.kind
of_arguments function arguments = values_in arguments >>= of_values function
