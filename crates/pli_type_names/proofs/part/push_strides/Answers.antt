use Rattle.std.proofs.Common.{◌≡◌, ◌+◌, ◌*◌, ◌++◌, ◌∷◌, ap, sym, ◌∙◌, drop, get_or, map, pos, ℕ}
use Rattle.std.proofs.lemmas.List.{at_drop_more}
use Rattle.pli_map.specs.Sizes.{count_of, stride_of}
use Rattle.pli_map.specs.declared.description.Bounds.{Bounds}
use Rattle.pli_map.specs.views.DescriptionView.{description_view}
use Rattle.pli_type_rules.specs.References.{strides_of}
use Rattle.pli_type_tree.specs.TypedTree.{Stride}
use Rattle.pli_type_tree.specs.views.TypedView.{stride_view}
use Rattle.pli_type_names.proofs.StrideLemmas.{over_extent, both_positive, one_more}
use Rattle.pli_type_names.proofs.part.push_strides.Goals as goal

pub loop-dimension-preserved : goal.loop-dimension-preserved
loop-dimension-preserved c =
    let l = c.loop-dimension in
    let e = description_view c.args.element.now in
    let more = drop (l.dimension-index + 1) c.args.bounds.now in
    let none : Bounds = record { low = pos 0; high = pos 0 } in
    let step = at_drop_more count_of c.args.bounds.now l.dimension-index none c.loop-dimension-test.true in
    let product : count_of (drop l.dimension-index c.args.bounds.now) ≡ c.extent-left.result * count_of more =
    step ∙ ap (λ n. n * count_of more) (sym c.extent-left.ensures.value) in
    let both = both_positive c.extent-left.result (count_of more) (rw product at l.invariant.elements) in
    let strides = at_drop_more (λ bs. strides_of bs e) c.args.bounds.now l.dimension-index none c.loop-dimension-test.true in
    let bytes = over_extent c.extent-left.result (count_of more) (stride_of e) l.left both.0
    (l.invariant.bytes ∙ ap (λ n. n * stride_of e) product) in
    let element : ℕ → Stride = λ m.
    record { low = (get_or c.args.bounds.now l.dimension-index none).low; high = (get_or c.args.bounds.now l.dimension-index none).high; multiplier = m } in
    let first : stride_view c.stride.result ≡ element (count_of more * stride_of e) = c.stride.ensures ∙ ap element bytes in
    let after = strides_of more e in
    record {
      elements = both.1;
      bytes = bytes;
      strides = ap (λ xs. map stride_view xs ++ after) c.in_ok-push.ensures.items
          ∙ one_more stride_view l.strides.items c.stride.result after
          ∙ ap (λ s. map stride_view l.strides.items ++ (s ∷ after)) first
          ∙ ap (λ ss. map stride_view l.strides.items ++ ss) (sym strides)
          ∙ l.invariant.strides;
    }
