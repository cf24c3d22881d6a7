use Rattle.std.proofs.Common.{◌≡◌, ◌⊎◌, inl, inr, [], map, ap, ◌∙◌, sym}
use Rattle.std.proofs.lemmas.List.{nil_from_length}
use Rattle.std.specs.Iterator.Adapters.{zip_first, zip_second}
use Rattle.std.specs.Slice.Iter.{iter_rest}
use Rattle.std.specs.Vec.Iter.{into_iter_items}
use Rattle.pli_type_tree.specs.views.TypedView.{expression_view, stride_view}
use Rattle.pli_type_expression.proofs.ReferenceLemmas.{subscripts_before, before_none, nothing_placed, placed_more}
use Rattle.pli_type_expression.proofs.variable.subscripts_at.Goals as goal

pub loop-stride-preserved : goal.loop-stride-preserved
loop-stride-preserved c =
    let l = c.loop-stride in
    let turn = c.in-Some.ensures.steps in
    placed_more l.placed.items c.push.new.self.items (record { stride = c.in-Some.stride.now; value = c.in-Some.value }) (iter_rest (zip_first l.stride-iterator)) (iter_rest (zip_first c.next.new.self))
    (into_iter_items (zip_second l.stride-iterator)) (into_iter_items (zip_second c.next.new.self)) turn.0 turn.1.0 c.in_ok-push.ensures.items
    ∙ l.invariant

pub returns : goal.returns
returns c =
    let l = c.loop-stride in
    let left = iter_rest (zip_first l.stride-iterator) in
    let given = into_iter_items (zip_second l.stride-iterator) in
    let over : (map stride_view left ≡ []) ⊎ (map expression_view given ≡ []) = elim c.in-None.ensures.steps [
      | inl h ↦ inl (ap (map stride_view) (nil_from_length left h.1.0))
      | inr h ↦ inr (ap (map expression_view) (nil_from_length given (sym (zip_second l.stride-iterator).rest.ok.0 ∙ h.1.0)))
    ] in
    sym (before_none l.placed.items)
    ∙ ap (subscripts_before l.placed.items) (sym (nothing_placed (map stride_view left) (map expression_view given) over))
    ∙ l.invariant
