use Rattle.std.specs.Prelude.{◌≡◌, ◌++◌, drop}
use Rattle.pli_ledger.specs.Told.{kept_text}
use Rattle.pli_ledger.proofs.told.diagnostics.Given as goal

-- the lines so far, and those of the units that are left, are those of all
abbrev pub invariant-loop-unit : goal.invariant-loop-unit
invariant-loop-unit l = l.text.bytes.items ++ kept_text (drop l.unit-index l.units) ≡ kept_text l.units
