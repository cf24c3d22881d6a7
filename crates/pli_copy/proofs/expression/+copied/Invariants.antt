use Rattle.std.proofs.Common.{◌≡◌, take, map}
use Rattle.pli_base.specs.views.SyntaxView.{expression_view}
use Rattle.pli_copy.specs.views.PartView.{part_view}
use Rattle.pli_copy.proofs.expression.+copied.Given as goal

abbrev pub invariant-copied_expressions-loop-expression : goal.invariant-copied_expressions-loop-expression
invariant-copied_expressions-loop-expression l = map expression_view l.copied.items ≡ map expression_view (take l.expression-index l.expressions)

abbrev pub invariant-copied_parts-loop-part : goal.invariant-copied_parts-loop-part
invariant-copied_parts-loop-part l = map part_view l.copied.items ≡ map part_view (take l.part-index l.parts)
