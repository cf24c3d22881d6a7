-- Conversions (X3.74): an expression whose value is converted, as it stands in a typed tree.
use Rattle.std.specs.Prelude.{List, [], ◌∷◌}
use Rattle.pli_type_tree.specs.TypedTree.{TypedOperation, TypedExpression, Calculated, AsPointer, AsOffset}
use Rattle.pli_type_tree.specs.TypedTree.{NoOperand, OperandThen, Conversion, ByOperations, AsPointerIn}
use Rattle.pli_type_tree.specs.TypedTree.{AsOffsetIn, ToPlace}

-- by one operation after the other
abbrev pub by_operations : List TypedOperation → TypedExpression → TypedExpression
by_operations [] e = e
by_operations (operation ∷ more) e = by_operations more (Calculated operation (OperandThen e NoOperand))

-- by a conversion, before a string is fitted to a place
abbrev pub converted_by : Conversion → TypedExpression → TypedExpression
converted_by (ByOperations operations) e = by_operations operations e
converted_by (AsPointerIn area) e = AsPointer area e
converted_by (AsOffsetIn area) e = AsOffset area e
converted_by (ToPlace operations) e = by_operations operations e
