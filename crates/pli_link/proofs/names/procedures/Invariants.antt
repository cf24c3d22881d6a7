use Rattle.std.proofs.Common.{◌≡◌, map, drop}
use Rattle.pli_link.specs.Names.{firsts, procedures, procedures_from}
use Rattle.pli_link.specs.views.UnitView.{compiled_view}
use Rattle.pli_link.proofs.names.procedures.Given as goal

-- the procedures so far, with those of the units that are left, are those of all
abbrev pub invariant-loop-number : goal.invariant-loop-number
invariant-loop-number l =
    firsts l.found.entries (procedures_from l.number (map compiled_view (drop l.number l.units)))
    ≡ procedures (map compiled_view l.units)
