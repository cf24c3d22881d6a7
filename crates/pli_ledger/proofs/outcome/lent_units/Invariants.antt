use Rattle.std.specs.Prelude.{◌≡◌, ◌++◌, drop, map}
use Rattle.pli_ledger.specs.Told.{kept_units}
use Rattle.pli_link.specs.views.UnitView.{compiled_view}
use Rattle.pli_ledger.proofs.outcome.lent_units.Given as goal

-- the units that are lent so far, and those that are left, are all
abbrev pub invariant-loop-unit : goal.invariant-loop-unit
invariant-loop-unit l = map compiled_view l.all.items ++ kept_units (drop l.unit-index l.units) ≡ kept_units l.units
