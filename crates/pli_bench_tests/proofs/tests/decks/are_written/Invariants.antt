use Rattle.std.specs.Prelude.{map, drop}
use Rattle.pli_link.specs.Units.{AreWritten}
use Rattle.pli_link.specs.views.UnitView.{compiled_view}
use Rattle.pli_bench_tests.proofs.tests.decks.are_written.Given as goal

-- if it holds of the units that are left, it holds of all
abbrev pub invariant-loop-unit : goal.invariant-loop-unit
invariant-loop-unit l =
    AreWritten (map compiled_view (drop l.unit-index l.units)) → AreWritten (map compiled_view l.units)
