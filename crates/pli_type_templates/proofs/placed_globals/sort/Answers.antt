use Rattle.std.proofs.Common.{ℕ, map, refl, ap, ◌∙◌, rules}
use Rattle.std.specs.Ordering.{nat_cmp}
use Rattle.std.proofs.lemmas.Cmp.{nat_cmp_total}
use Rattle.std.proofs.lemmas.List.Sorted.{answers_always}
use Rattle.pli_sort.proofs.CorrespondLemmas.{mapped_in_order}
use Rattle.pli_sort.proofs.SortedOnce.{in_order_from_sort}
use Rattle.pli_type_rules.specs.NamedUnits as units
use Rattle.pli_type_templates.specs.declared.placed_globals.PlacedGlobal.{PlacedGlobal}
use Rattle.pli_type_templates.specs.views.PlacedView.{placed_view}
use Rattle.pli_type_templates.proofs.placed_globals.sort.Goals as goal

pub returns-clause-order : goal.returns-clause-order
returns-clause-order c =
    let token : PlacedGlobal → ℕ = λ p. p.at in
    let old = c.args.globals.now.items in
    ap (map placed_view)
    (in_order_from_sort token nat_cmp nat_cmp_total old _
    (c.in_ok-sort_by_key.ensures.sorted token (answers_always _ _ _ (λ f a r g h. search rules)))
    (c.in_ok-sort_by_key.ensures.stable token (answers_always _ _ _ (λ f a r g h. search rules))))
    ∙ mapped_in_order nat_cmp placed_view token (λ (p : units.PlacedGlobal). p.at) (λ p. refl) old
