use Rattle.std.proofs.Common.{drop, suc}
use Rattle.pli_type_tree.specs.views.TypedView.{operands_view, subscripts_view, arguments_view}
use Rattle.pli_gen_emit.specs.TreeTranslation.{operands_code, subscripts_code, dimensions_code, arguments_code}
use Rattle.pli_gen_emit.proofs.EmitLemmas.{IsAmid}
use Rattle.pli_gen_emit.proofs.expression.+emit.Given as goal

abbrev pub invariant-emit_operands-loop-operand : goal.invariant-emit_operands-loop-operand
invariant-emit_operands-loop-operand l =
    IsAmid l.initial.code l.code (operands_code (operands_view (drop l.operand-index l.operands))) (operands_code (operands_view l.operands))

abbrev pub invariant-emit_subscripts-loop-subscript : goal.invariant-emit_subscripts-loop-subscript
invariant-emit_subscripts-loop-subscript l =
    IsAmid l.initial.code l.code (subscripts_code (subscripts_view (drop l.subscript-index l.subscripts))) (subscripts_code (subscripts_view l.subscripts))

abbrev pub invariant-emit_arguments-loop-argument : goal.invariant-emit_arguments-loop-argument
invariant-emit_arguments-loop-argument l =
    IsAmid l.initial.code l.code (arguments_code (arguments_view (drop l.argument-index l.arguments))) (arguments_code (arguments_view l.arguments))

abbrev pub invariant-emit_dimensions-loop-at : goal.invariant-emit_dimensions-loop-at
invariant-emit_dimensions-loop-at l =
    IsAmid l.initial.code l.code (dimensions_code (suc l.at) (operands_view (drop l.at l.subscripts))) (dimensions_code 1 (operands_view l.subscripts))
