-- Typed trees that were put together, as their views.
use Rattle.std.proofs.Common.{◌≡◌, Vec, Global, refl, ap, ◌∙◌, List, [], ◌∷◌, map}
use Rattle.pli_operation.specs.declared.operation.Operation.{Operation}
use Rattle.pli_type_rules.specs.ExpressionTypes.{all_operands}
use Rattle.pli_type_tree.specs.TypedTree as plain
use Rattle.pli_type_tree.specs.declared.expression.TypedExpression.{TypedExpression, Calculated}
use Rattle.pli_type_tree.specs.declared.expression.TypedOperation.TheVariants.{Operate}
use Rattle.pli_type_tree.specs.laws.TypedTreeLaws.{calculated_made}
use Rattle.pli_type_tree.specs.views.TypedView.{expression_view, operands_view}

-- an operation without a description on the operands in a vector
pub operated_made : (operation : Operation) (operands : Vec TypedExpression Global)
    → expression_view (Calculated (Operate operation) operands)
    ≡ plain.Calculated (plain.Operate operation) (operands_view operands.items)
operated_made operation operands = calculated_made (Operate operation) operands

pub operands_all : (es : List TypedExpression) → operands_view es ≡ all_operands (map expression_view es)
operands_all [] = refl
operands_all (e ∷ es) = ap (plain.OperandThen (expression_view e)) (operands_all es)

-- the same in terms of their list
pub operated_all : (operation : Operation) (operands : Vec TypedExpression Global)
    → expression_view (Calculated (Operate operation) operands)
    ≡ plain.Calculated (plain.Operate operation) (all_operands (map expression_view operands.items))
operated_all operation operands =
    operated_made operation operands
    ∙ ap (plain.Calculated (plain.Operate operation)) (operands_all operands.items)
