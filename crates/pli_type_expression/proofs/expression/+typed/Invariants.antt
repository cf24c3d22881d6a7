use Rattle.std.proofs.Common.{◌≡◌, ◌+◌, drop, map}
use Rattle.pli_base.specs.views.SyntaxView.{expression_view, expressions_view, joined_view, reference_view, arguments_view}
use Rattle.pli_type_rules.specs.Typing.{all_subscripts, all_arguments}
use Rattle.pli_type_names.specs.UnitNaming.{naming_in}
use Rattle.pli_type_tree.specs.views.TypedView as typed
use Rattle.pli_type_expression.specs.Segments.{last_segment}
use Rattle.pli_type_operands.specs.views.TypingView.{argument_view, role_view}
use Rattle.pli_type_expression.specs.views.SegmentView.{segment_view}
use Rattle.pli_type_expression.proofs.SizeLemmas.{expression_size, reference_size, parts_size, arguments_size, list_size}
use Rattle.pli_type_expression.proofs.WalkLemmas.{subscripts_with, arguments_with}
use Rattle.pli_type_expression.proofs.expression.+typed.Given as goal

-- the last segment is that of what is left after the segment so far
abbrev pub invariant-continued-loop-part : goal.invariant-continued-loop-part
invariant-continued-loop-part l =
    let n = naming_in l.naming in
    last_segment n (segment_view n l.fn.first) (joined_view l.joined)
    ≡ last_segment n (segment_view n l.segment) (joined_view (drop l.part-index l.joined))

-- the subscripts so far, and those that are left
abbrev pub invariant-all_subscripts-loop-expression : goal.invariant-all_subscripts-loop-expression
invariant-all_subscripts-loop-expression l =
    let n = naming_in l.naming in
    all_subscripts n (expressions_view l.list)
    ≡ subscripts_with n (map typed.expression_view l.subscripts.items) (expressions_view (drop l.expression-index l.list))

-- the arguments so far, and those that are left
abbrev pub invariant-all_arguments-loop-place : goal.invariant-all_arguments-loop-place
invariant-all_arguments-loop-place l =
    let n = naming_in l.naming in
    all_arguments n (map role_view l.roles) (expressions_view l.list)
    ≡ arguments_with n (drop l.place (map role_view l.roles)) (map argument_view l.arguments.items) (expressions_view (drop l.place l.list))

-- each call is for something smaller, or for the same with less left to do

abbrev pub decreases-value_of : goal.decreases-value_of
decreases-value_of l = expression_size (expression_view l.expression.now) + 2

abbrev pub decreases-value_denoted : goal.decreases-value_denoted
decreases-value_denoted l = expression_size (expression_view l.expression.now) + 1

abbrev pub decreases-denoted : goal.decreases-denoted
decreases-denoted l = expression_size (expression_view l.expression.now)

abbrev pub decreases-prefixed : goal.decreases-prefixed
decreases-prefixed l = expression_size (expression_view l.operand.now) + 3

abbrev pub decreases-infixed : goal.decreases-infixed
decreases-infixed l = expression_size (expression_view l.left.now) + expression_size (expression_view l.right.now) + 3

abbrev pub decreases-referred : goal.decreases-referred
decreases-referred l = reference_size (reference_view l.reference.now)

abbrev pub decreases-continued : goal.decreases-continued
decreases-continued l = parts_size (joined_view l.joined.now) + 1

abbrev pub decreases-with_part : goal.decreases-with_part
decreases-with_part l = arguments_size (arguments_view l.joined.now.part.arguments) + 4

abbrev pub decreases-begun : goal.decreases-begun
decreases-begun l = arguments_size (arguments_view l.part.now.arguments) + 3

abbrev pub decreases-begun_with : goal.decreases-begun_with
decreases-begun_with l = list_size (expressions_view l.list.now) + 3

abbrev pub decreases-called : goal.decreases-called
decreases-called l = list_size (expressions_view l.list.now) + 2

abbrev pub decreases-subscripts_in : goal.decreases-subscripts_in
decreases-subscripts_in l = arguments_size (arguments_view l.part.now.arguments) + 1

abbrev pub decreases-all_subscripts : goal.decreases-all_subscripts
decreases-all_subscripts l = list_size (expressions_view l.list.now) + 1

abbrev pub decreases-all_arguments : goal.decreases-all_arguments
decreases-all_arguments l = list_size (expressions_view l.list.now) + 1
