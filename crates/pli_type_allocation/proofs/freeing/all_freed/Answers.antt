use Rattle.std.proofs.Common.{◌<◌, length, map, ap, ◌∙◌, arith}
use Rattle.std.proofs.lemmas.List.{map_push}
use Rattle.pli_base.specs.views.SyntaxView.{reference_view}
use Rattle.pli_type_rules.specs.AllocationTyping.{freed, in_turn}
use Rattle.pli_type_expression.proofs.BindLemmas.{exits}
use Rattle.pli_type_names.specs.UnitNaming.{naming_in}
use Rattle.pli_type_tree.specs.views.TypedView.{freed_view}
use Rattle.pli_type_allocation.proofs.InTurn.{after, each_stops, each_typed, all_typed, none_after}
use Rattle.pli_type_allocation.proofs.freeing.all_freed.Goals as goal

pub loop-reference-init : goal.loop-reference-init
loop-reference-init c =
    let whole = in_turn (freed (naming_in c.args.naming.now)) (map reference_view c.args.references.now) in
    ap (λ xs. after (map freed_view xs) whole) c.new-made.ensures.items ∙ none_after whole

pub loop-reference-preserved : goal.loop-reference-preserved
loop-reference-preserved c =
    let es = c.args.references.now in
    let l = c.loop-reference in
    let inside : l.reference-index < length es = omega arith in
    each_typed reference_view (freed (naming_in c.args.naming.now)) es l.reference-index c.reference-item.result
    (map freed_view l.made.items) (map freed_view c.push.new.self.items) (freed_view c.in_ok-next.next) _
    c.reference-item.is inside c.in_ok-next.ensures
    (ap (map freed_view) c.in_ok-push.ensures.items ∙ map_push freed_view l.made.items c.in_ok-next.next)
    l.invariant

pub returns-in_err-next : goal.returns-in_err-next
returns-in_err-next c =
    let l = c.loop-reference in
    exits _ c.from_residual.result c.in_err-next.field-0.0 _ c.from_residual.ensures.1
    (each_stops reference_view (freed (naming_in c.args.naming.now)) c.args.references.now l.reference-index c.reference-item.result
    (map freed_view l.made.items) c.in_err-next.field-0.0 _ c.reference-item.is (omega arith) c.in_err-next.ensures
    l.invariant)

pub returns : goal.returns
returns c =
    let l = c.loop-reference in
    all_typed reference_view (freed (naming_in c.args.naming.now)) c.args.references.now l.reference-index (map freed_view l.made.items) _
    (omega arith) l.invariant
