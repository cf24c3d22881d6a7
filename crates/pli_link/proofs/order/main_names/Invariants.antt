use Rattle.std.proofs.Common.{◌≡◌, ◌++◌, map, drop}
use Rattle.pli_link.specs.Link.{mains}
use Rattle.pli_link.specs.Units.{procedure_of}
use Rattle.pli_link.specs.views.UnitView.{compiled_view}
use Rattle.pli_link.proofs.order.main_names.Given as goal

-- the main procedures so far, and those of the units that are left, are those of all
abbrev pub invariant-loop-unit : goal.invariant-loop-unit
invariant-loop-unit l =
    l.names.items ++ map procedure_of (mains (map compiled_view (drop l.unit-index l.units)))
    ≡ map procedure_of (mains (map compiled_view l.units))
