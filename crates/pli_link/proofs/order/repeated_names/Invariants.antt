use Rattle.std.proofs.Common.{◌≡◌, ◌++◌, map, drop, []}
use Rattle.pli_link.specs.Link.{defined_again}
use Rattle.pli_link.specs.views.UnitView.{compiled_view}
use Rattle.pli_link.proofs.order.repeated_names.Given as goal

-- the names so far, and those of the units that are left, are those of all
abbrev pub invariant-loop-unit : goal.invariant-loop-unit
invariant-loop-unit l =
    l.names.items ++ defined_again l.before.keys (map compiled_view (drop l.unit-index l.units))
    ≡ defined_again [] (map compiled_view l.units)
