use Rattle.std.proofs.Common.{◌≡◌, ◌+◌, ◌<◌, ℕ, List, ◌∷◌, length, map, drop, get_or, sym, ap, ◌∙◌}
use Rattle.std.proofs.lemmas.List.{drop_more, drop_all}
use Rattle.pli_bytes.specs.Contents.{scalars_at, values_of, with_value_on}
use Rattle.pli_map.specs.Parts.{PlacedPart}
use Rattle.pli_map.specs.views.DescriptionView.{description_view}
use Rattle.pli_value.specs.Value as plain
use Rattle.pli_value.specs.Value.{value_view}
use Rattle.pli_type_tree.specs.Templates.{with_initial}
use Rattle.pli_type_tree.specs.declared.template.InitialScalar.{InitialScalar}
use Rattle.pli_type_tree.specs.views.TemplateView.{initial_view}
use Rattle.pli_stacks.proofs.initial.put_all.Goals as goal

-- one more initial value is put in the place of that of its scalar
one_put : (ss : List PlacedPart) (scalars : List InitialScalar) (i : ℕ) (s : InitialScalar) (old new whole : List plain.Value) → i < length scalars → s ≡ get_or scalars i s
    → new ≡ with_value_on s.offset (value_view s.value) ss old
    → with_initial ss (map initial_view (drop i scalars)) old ≡ whole → with_initial ss (map initial_view (drop (i + 1) scalars)) new ≡ whole
one_put ss scalars i s old new whole within is put so_far =
    ap (with_initial ss (map initial_view (drop (i + 1) scalars))) put
    ∙ sym (ap (λ is. with_initial ss (map initial_view is) old) (drop_more scalars i s within ∙ ap (λ x. x ∷ drop (i + 1) scalars) (sym is)))
    ∙ so_far

pub loop-scalar-preserved : goal.loop-scalar-preserved
loop-scalar-preserved c =
    let l = c.loop-scalar in
    let d = description_view c.args.description.now in
    record {
      put =
          one_put (scalars_at d) c.args.scalars.now l.scalar-index c.scalar-item.result (values_of d l.bytes) (values_of d c.put_on.new.bytes) _
          c.loop-scalar-test.true c.scalar-item.is c.put_on.ensures.put l.invariant.put;
      size = c.put_on.ensures.size ∙ l.invariant.size;
    }

pub returns-clause-put : goal.returns-clause-put
returns-clause-put c =
    let l = c.loop-scalar in
    let d = description_view c.args.description.now in
    ap (λ is. with_initial (scalars_at d) (map initial_view is) (values_of d l.bytes)) (sym (drop_all l.scalar-index c.args.scalars.now c.loop-scalar-test.false))
    ∙ l.invariant.put
