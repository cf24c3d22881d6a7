use Rattle.std.proofs.Common.{◌≡◌, map, drop}
use Rattle.std.specs.List.{list_any}
use Rattle.pli_map.specs.views.ParameterView.{type_view}
use Rattle.pli_declare.specs.Faults.{is_too_large_type}
use Rattle.pli_declare_attributes.proofs.complete.any_too_large.Given as goal

abbrev pub invariant-loop-parameter : goal.invariant-loop-parameter
invariant-loop-parameter l = list_any is_too_large_type (map type_view (drop l.parameter-index l.parameters)) ≡ list_any is_too_large_type (map type_view l.parameters)
