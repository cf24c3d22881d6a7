use Rattle.std.proofs.Common.{◌≡◌, ◌++◌, drop, map}
use Rattle.pli_map.specs.views.ParameterView.{type_view}
use Rattle.pli_deck_faults.specs.Places.{placed_type, all_placed}
use Rattle.pli_deck_faults.proofs.limits.places_of_all.Given as goal

-- what was found so far, in front of what the types that are left give, is what all give
abbrev pub invariant-loop-of : goal.invariant-loop-of
invariant-loop-of l =
    all_placed l.found.items ++ map placed_type (map type_view (drop l.of-index l.types)) ≡ map placed_type (map type_view l.types)
