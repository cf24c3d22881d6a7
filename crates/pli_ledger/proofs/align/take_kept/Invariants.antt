use Rattle.std.specs.Prelude.{◌≡◌, drop}
use Rattle.pli_ledger.specs.Kept.{kept_of}
use Rattle.pli_ledger.proofs.align.take_kept.Given as goal

-- nothing is changed yet, and what is kept of the unit stands in what is left
abbrev pub invariant-loop-unit : goal.invariant-loop-unit
invariant-loop-unit l = record {
  same : l.units ≡ l.fn.units;
  left : kept_of (drop l.unit-index l.fn.units) l.name ≡ kept_of l.fn.units l.name;
}
