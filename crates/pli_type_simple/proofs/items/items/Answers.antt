use Rattle.std.proofs.Common.{◌<◌, length, map, ap, ◌∙◌, arith}
use Rattle.std.proofs.lemmas.List.{map_push}
use Rattle.pli_base.specs.views.SyntaxView as syntax
use Rattle.pli_type_rules.specs.TypingSteps.{items}
use Rattle.pli_type_expression.proofs.BindLemmas.{exits}
use Rattle.pli_type_names.specs.UnitNaming.{naming_in}
use Rattle.pli_type_tree.specs.views.TypedView.{expression_view}
use Rattle.pli_type_simple.proofs.ItemLists.{after, item_stops, item_typed, items_end, none_after}
use Rattle.pli_type_simple.proofs.items.items.Goals as goal

pub loop-expression-init : goal.loop-expression-init
loop-expression-init c =
    let whole = items (naming_in c.args.naming.now) (map syntax.expression_view c.args.expressions.now) in
    ap (λ xs. after (map expression_view xs) whole) c.new-items.ensures.items ∙ none_after whole

pub loop-expression-preserved : goal.loop-expression-preserved
loop-expression-preserved c =
    let es = c.args.expressions.now in
    let l = c.loop-expression in
    let inside : l.expression-index < length es = omega arith in
    item_typed (naming_in c.args.naming.now) es l.expression-index c.expression-item.result
    (map expression_view l.items.items) (map expression_view c.push.new.self.items) (expression_view c.in_ok-item.item) _
    c.expression-item.is inside c.in_ok-item.ensures
    (ap (map expression_view) c.in_ok-push.ensures.items ∙ map_push expression_view l.items.items c.in_ok-item.item)
    l.invariant

pub returns-in_err-item : goal.returns-in_err-item
returns-in_err-item c =
    let l = c.loop-expression in
    exits _ c.from_residual.result c.in_err-item.field-0.0 _ c.from_residual.ensures.1
    (item_stops (naming_in c.args.naming.now) c.args.expressions.now l.expression-index c.expression-item.result
    (map expression_view l.items.items) c.in_err-item.field-0.0 _ c.expression-item.is (omega arith) c.in_err-item.ensures
    l.invariant)

pub returns : goal.returns
returns c =
    let l = c.loop-expression in
    items_end (naming_in c.args.naming.now) c.args.expressions.now l.expression-index (map expression_view l.items.items) _
    (omega arith) l.invariant
