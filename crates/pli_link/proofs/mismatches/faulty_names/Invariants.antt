use Rattle.std.proofs.Common.{◌≡◌, ◌++◌, map, drop}
use Rattle.pli_link.specs.Mismatches.{faulty_linked}
use Rattle.pli_link.specs.answers.Classes.{Grows}
use Rattle.pli_link.specs.answers.Tables.{units_in}
use Rattle.pli_link.specs.views.UnitView.{compiled_view}
use Rattle.pli_link.proofs.mismatches.faulty_names.Given as goal

-- the names so far, and those of the units that are left, are those of all
abbrev pub invariant-loop-unit : goal.invariant-loop-unit
invariant-loop-unit l =
    (l.linked.items ++ faulty_linked (units_in l.names) l.fault (map compiled_view (drop l.unit-index l.units))
    ≡ faulty_linked (units_in l.names) l.fault (map compiled_view l.units))
    × Grows l.initial.known.keys l.known.keys
