use Rattle.std.proofs.Common.{◌≡◌, ◌+◌, ◌∷◌, map, drop, sym, ap, ◌∙◌, arith}
use Rattle.std.proofs.lemmas.List.{at_drop_more}
use Rattle.pli_map.specs.views.DescriptionView.{description_view}
use Rattle.pli_map.specs.views.PartView.{step_view, part_view}
use Rattle.pli_map.proofs.Paths.{further}
use Rattle.pli_map.proofs.Places.{step_inside}
use Rattle.pli_map.proofs.parts.place.Goals as goal

pub overflow_add-part : goal.overflow_add-part
overflow_add-part c =
    let d = description_view c.loop-step.part.description.now in
    let inside = step_inside d (step_view c.step-item.result) (part_view c.in_ok-inner.inner) (sym c.in_ok-inner.ensures) in
    omega (arith, c.loop-step.invariant.limit, inside)

pub loop-step-preserved : goal.loop-step-preserved
loop-step-preserved c =
    let l = c.loop-step in
    let d = description_view l.part.description.now in
    let path = c.args.path.now in
    let inner = c.in_ok-inner.inner in
    let left : map step_view (drop l.step-index path) ≡ step_view c.step-item.result ∷ map step_view (drop (l.step-index + 1) path) =
    at_drop_more (map step_view) path l.step-index c.step-item.result c.loop-step-test.true
    ∙ ap (λ s. step_view s ∷ map step_view (drop (l.step-index + 1) path)) (sym c.step-item.is) in
    let inside = step_inside d (step_view c.step-item.result) (part_view inner) (sym c.in_ok-inner.ensures) in
    record {
      whole = further _ d _ (step_view c.step-item.result) _ l.part.offset (part_view inner) left (sym c.in_ok-inner.ensures) l.invariant.whole;
      limit = omega (arith, l.invariant.limit, inside);
    }
