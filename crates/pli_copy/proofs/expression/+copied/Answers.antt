use Rattle.std.proofs.Common.{map, take_all, ap, ◌∙◌, sym, arith}
use Rattle.pli_base.specs.Syntax.{Named}
use Rattle.pli_base.specs.views.SyntaxView.{expression_view, arguments_view, joined_view}
use Rattle.pli_base.specs.laws.SyntaxLaws.{reference_joined, reference_out}
use Rattle.pli_base.specs.declared.syntax.Reference.{out-Reference}
use Rattle.pli_copy.proofs.AlikeLemmas.{expressions_alike, one_more, parts_alike}
use Rattle.pli_copy.specs.views.PartView.{part_view}
use Rattle.pli_copy.proofs.expression.+copied.Goals as goal

pub copied_expressions-returns : goal.copied_expressions-returns
copied_expressions-returns t c =
    let l = c.loop-expression in
    let xs = c.args.expressions.now in
    expressions_alike l.copied.items xs (l.invariant ∙ ap (map expression_view) (take_all l.expression-index xs (omega arith)))

pub copied_parts-returns : goal.copied_parts-returns
copied_parts-returns t c =
    let l = c.loop-part in
    let xs = c.args.parts.now in
    parts_alike l.copied.items xs (l.invariant ∙ ap (map part_view) (take_all l.part-index xs (omega arith)))

pub copied_reference-returns : goal.copied_reference-returns
copied_reference-returns t c =
    let first = c.in_ok-first.first in
    let joined = c.in_ok-joined.joined in
    let x = out-Reference c.args.reference.now in
    reference_joined first joined
    ∙ ap (λ n. Named n (arguments_view first.arguments) (joined_view joined.items)) c.in_ok-first.ensures.name
    ∙ ap (λ a. Named x.first.name a (joined_view joined.items)) c.in_ok-first.ensures.arguments
    ∙ ap (Named x.first.name (arguments_view x.first.arguments)) (c.in_ok-joined.ensures ∙ ap joined_view c.as_slice.ensures.value)
    ∙ sym (reference_out c.args.reference.now)

pub copied_expressions-loop-expression-preserved : goal.copied_expressions-loop-expression-preserved
copied_expressions-loop-expression-preserved t c =
    let l = c.loop-expression in
    one_more expression_view c.push.new.self.items l.copied.items c.in_ok-copied_expression.field-0 c.expression-item.result c.args.expressions.now l.expression-index
    c.loop-expression-test.true c.expression-item.is c.in_ok-push.ensures.items c.in_ok-copied_expression.ensures l.invariant

pub copied_parts-loop-part-preserved : goal.copied_parts-loop-part-preserved
copied_parts-loop-part-preserved t c =
    let l = c.loop-part in
    one_more part_view c.push.new.self.items l.copied.items c.in_ok-copied_joined.field-0 c.part-item.result c.args.parts.now l.part-index
    c.loop-part-test.true c.part-item.is c.in_ok-push.ensures.items c.in_ok-copied_joined.ensures l.invariant
