-- POINTER and OFFSET, by the value of their first argument and the area that is the second.
use Rattle.std.specs.Prelude.{Option, Some, None, List, [], ◌∷◌}
use Rattle.pli_declare.specs.declared.built_in.BuiltInFunction.{BuiltInFunction}
use Rattle.pli_declare.specs.declared.built_in.BuiltInFunction.TheVariants as functions
use Rattle.pli_type_rules.specs.ExpressionTypes.{TypedValue}
use Rattle.pli_type_rules.specs.FunctionCalls.{Argument, area_of, offset_within, pointer_within}
use Rattle.pli_type_rules.specs.declared.beginning.Beginning.{Beginning}
use Rattle.pli_type_rules.specs.declared.expression_type.ExpressionType.{ExpressionType}
use Rattle.pli_type_operands.specs.declared.within.LocatorFunction.{LocatorFunction}
use Rattle.pli_type_operands.specs.declared.within.LocatorFunction.TheVariants as locators
use Rattle.pli_type_tree.specs.TypedTree.{TypedExpression}

-- the function
abbrev pub built_in : LocatorFunction → BuiltInFunction
built_in locators.Pointer = functions.Pointer
built_in locators.Offset = functions.Offset

-- what it makes of a value within an area
abbrev pub made_within : LocatorFunction → (area : Beginning) → TypedExpression → ExpressionType
    → Option TypedValue
made_within locators.Pointer = offset_within
made_within locators.Offset = pointer_within

-- where the area begins that the second of two arguments is, if it is one
abbrev pub area_given : List Argument → Option (Option Beginning)
area_given (o ∷ a ∷ []) = Some (area_of a.denoted)
area_given arguments = None

-- what it gives of the first of these values
abbrev pub located_of : LocatorFunction → List TypedValue → (area : Option Beginning) → Option TypedValue
located_of function (v ∷ more) (Some area) = made_within function area v.expression v.kind
located_of function values area = None
