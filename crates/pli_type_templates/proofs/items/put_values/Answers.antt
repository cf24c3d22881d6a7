use Rattle.std.proofs.Common.{◌≡◌, ◌+◌, ◌-◌, ◌++◌, ◌∷◌, min, drop, take, length, map, ap, sym, ◌∙◌, arith}
use Rattle.std.proofs.lemmas.List.{append_assoc, append-nil, drop_all, drop_more}
use Rattle.pli_map.specs.views.DescriptionView.{description_view}
use Rattle.pli_type_rules.specs.InitialScalars.{as_held, each_with, values_written}
use Rattle.pli_type_tree.specs.views.TemplateView.{initial_view}
use Rattle.pli_type_templates.specs.Items.{all_with, elements_of, value_of}
use Rattle.pli_type_templates.specs.Plans.{placed_as}
use Rattle.pli_type_templates.proofs.ValuesWritten.{no_values, value_given}
use Rattle.pli_type_templates.proofs.items.put_values.Goals as goal

pub loop-written-preserved : goal.loop-written-preserved
loop-written-preserved c =
    let l = c.loop-written in
    let d = description_view c.args.description.now in
    let offsets = c.args.offsets.now in
    let x = c.written-item.result in
    let count = c.min-count.result in
    let others = drop (l.written-index + 1) c.args.values.now in
    let step = drop_more c.args.values.now l.written-index x c.loop-written-test.true ∙ ap (λ y. y ∷ others) (sym c.written-item.is) in
    let so_far = map initial_view l.scalars.items in
    let held = as_held d (value_of x) in
    let rest = each_with (placed_as d (drop (l.used + count) offsets)) (values_written others) in
    let goes_to : count ≡ min (elements_of x) (length offsets - l.used) = omega (arith, c.elements.ensures) in
    let whole : l.used + count - l.used ≡ count = omega arith in
    record {
      whole = ap (λ xs. xs ++ rest) c.in_ok-put_value.ensures
          ∙ append_assoc so_far _ rest
          ∙ ap (λ n. so_far ++ (all_with held (take n (drop l.used offsets)) ++ rest)) whole
          ∙ ap (λ xs. so_far ++ xs) (sym (value_given d x others offsets l.used count goes_to))
          ∙ ap (λ vs. so_far ++ each_with (placed_as d (drop l.used offsets)) (values_written vs)) (sym step)
          ∙ l.invariant.whole;
      within = omega arith;
    }

pub returns : goal.returns
returns c =
    let l = c.loop-written in
    let d = description_view c.args.description.now in
    let left = drop l.used c.args.offsets.now in
    let so_far = map initial_view l.scalars.items in
    let none = drop_all l.written-index c.args.values.now c.loop-written-test.false in
    let nothing = ap (λ vs. each_with (placed_as d left) (values_written vs)) none ∙ no_values d left in
    sym (append-nil so_far) ∙ ap (λ xs. so_far ++ xs) (sym nothing) ∙ l.invariant.whole
