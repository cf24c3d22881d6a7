-- What an expression with its type says, apart from where it lies in memory.
use Rattle.pli_type_rules.specs.ExpressionTypes as plain
use Rattle.pli_type.specs.declared.typed_value.TypedValue.{TypedValue}
use Rattle.pli_type_tree.specs.views.TypedView.{expression_view}

-- an expression with its type
abbrev pub value_view : TypedValue → plain.TypedValue
value_view v = record { expression = expression_view v.expression; kind = v.kind }
