-- The functions that give bounds.
use Rattle.std.specs.Prelude.{ℕ, nat_le, Bool, true, false, ◌&&◌, if◌then◌else◌, Option, Some, None, List}
use Rattle.std.specs.Prelude.{[], ◌∷◌}
use Rattle.pli_map.specs.declared.dimension.WhichBound.{WhichBound}
use Rattle.pli_map.specs.declared.dimension.WhichBound.TheVariants.{Low, High}
use Rattle.pli_declare.specs.declared.built_in.BuiltInFunction.{BuiltInFunction}
use Rattle.pli_declare.specs.declared.built_in.BuiltInFunction.TheVariants as functions
use Rattle.pli_type_rules.specs.ExpressionTypes.{TypedValue}
use Rattle.pli_type_rules.specs.FunctionCalls.{Argument, meant_as, the_bound}

-- LBOUND and HBOUND
abbrev pub is_bound : BuiltInFunction → Bool
is_bound functions.LowBound = true
is_bound functions.HighBound = true
is_bound function = false

-- which bound they give
abbrev pub which_bound : BuiltInFunction → WhichBound
which_bound functions.HighBound = High
which_bound function = Low

-- the number of a dimension that the second of two arguments is, if it is one
abbrev pub dimension_given : List Argument → Option (Option ℕ)
dimension_given (a ∷ n ∷ []) = Some n.written
dimension_given arguments = None

-- a bound of the first of these arguments
abbrev pub bound_given : WhichBound → List Argument → (written : Option ℕ) → Option TypedValue
bound_given which [] written = None
bound_given which (a ∷ more) written = the_bound which (meant_as a.denoted) written

-- a value, where a number is that of one of so many dimensions, from 1
abbrev pub if_dimension : (number dimensions : ℕ) → TypedValue → Option TypedValue
if_dimension number dimensions v = if nat_le 1 number && nat_le number dimensions then Some v else None
