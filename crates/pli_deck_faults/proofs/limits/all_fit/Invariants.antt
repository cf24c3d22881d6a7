use Rattle.std.proofs.Common.{◌≡◌, drop, map}
use Rattle.std.specs.List.{list_all}
use Rattle.pli_map.specs.Description.{Description}
use Rattle.pli_deck_write.specs.DeckFaults.{fits_scalar, scalar_at}
use Rattle.pli_type_tree.specs.views.TemplateView.{initial_view}
use Rattle.pli_deck_faults.specs.Places.{places_of, places_view}
use Rattle.pli_deck_faults.proofs.limits.all_fit.Given as goal

-- what is left passes as all pass
abbrev pub invariant-loop-value : goal.invariant-loop-value
invariant-loop-value l =
    (d : Description) → places_view l.places ≡ places_of d
    → list_all (λ i. fits_scalar (scalar_at d i.offset) i.value) (map initial_view (drop l.value-index l.values))
    ≡ list_all (λ i. fits_scalar (scalar_at d i.offset) i.value) (map initial_view l.values)
