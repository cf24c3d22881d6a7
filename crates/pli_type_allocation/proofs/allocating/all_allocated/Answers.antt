use Rattle.std.proofs.Common.{◌<◌, ◌+◌, length, map, ap, ◌∙◌, arith}
use Rattle.std.proofs.lemmas.List.{length-map, map_push}
use Rattle.pli_base.specs.views.StatementView.{allocation_view}
use Rattle.pli_type_rules.specs.AllocationTyping.{all_allocated}
use Rattle.pli_type_expression.proofs.BindLemmas.{exits}
use Rattle.pli_type_names.specs.UnitNaming.{naming_in}
use Rattle.pli_type_tree.specs.views.TypedView.{allocated_view}
use Rattle.pli_type_allocation.proofs.AllocatedInTurn.{item_stops, item_typed, items_typed}
use Rattle.pli_type_allocation.proofs.InTurn.{after, none_after}
use Rattle.pli_type_allocation.proofs.allocating.all_allocated.Goals as goal

pub loop-item-init : goal.loop-item-init
loop-item-init c =
    let whole = all_allocated (naming_in c.args.naming.now) c.args.temporary (map allocation_view c.args.items.now) in
    record {
      made = ap (λ xs. after (map allocated_view xs) whole) c.new-made.ensures.items ∙ none_after whole;
      few = omega arith;
    }

pub overflow_add-next : goal.overflow_add-next
overflow_add-next c =
    let es = c.args.items.now in
    let l = c.loop-item in
    let inside : l.item-index < length es = omega arith in
    omega (arith, inside, l.invariant.few, c.kept_for-kept.ensures.few, length-map es allocation_view, c.requires.room)

pub loop-item-preserved : goal.loop-item-preserved
loop-item-preserved c =
    let es = c.args.items.now in
    let l = c.loop-item in
    let inside : l.item-index < length es = omega arith in
    record {
      made = item_typed (naming_in c.args.naming.now) es l.item-index c.item-item.result
          (map allocated_view l.made.items) (map allocated_view c.push.new.self.items) (allocated_view c.in_ok-one.one) l.next
          (l.next + c.kept_for-kept.result) _ c.item-item.is inside c.in_ok-one.ensures
          (ap (map allocated_view) c.in_ok-push.ensures.items ∙ map_push allocated_view l.made.items c.in_ok-one.one)
          (ap (λ k. l.next + k) c.kept_for-kept.ensures.value)
          l.invariant.made;
      few = omega (arith, l.invariant.few, c.kept_for-kept.ensures.few);
    }

pub returns-in_err-one : goal.returns-in_err-one
returns-in_err-one c =
    let l = c.loop-item in
    exits _ c.from_residual.result c.in_err-one.field-0.0 _ c.from_residual.ensures.1
    (item_stops (naming_in c.args.naming.now) c.args.items.now l.item-index c.item-item.result
    (map allocated_view l.made.items) l.next c.in_err-one.field-0.0 _ c.item-item.is (omega arith) c.in_err-one.ensures
    l.invariant.made)

pub returns : goal.returns
returns c =
    let l = c.loop-item in
    items_typed (naming_in c.args.naming.now) c.args.items.now l.item-index (map allocated_view l.made.items) l.next _
    (omega arith) l.invariant.made
