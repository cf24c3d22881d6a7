use Rattle.std.proofs.Common.{◌≡◌, drop, map}
use Rattle.std.specs.List.{list_any}
use Rattle.pli_map.specs.ParameterTypes.{is_open}
use Rattle.pli_map.specs.views.ParameterView.{type_view}
use Rattle.pli_deck_read.proofs.structures.one_is_open.Given as goal

-- one of those that are left is open where one of all is
abbrev pub invariant-loop-of : goal.invariant-loop-of
invariant-loop-of l = list_any is_open (map type_view (drop l.of-index l.types)) ≡ list_any is_open (map type_view l.types)
