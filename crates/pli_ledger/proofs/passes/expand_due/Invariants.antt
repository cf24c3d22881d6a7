use Rattle.std.specs.Prelude.{◌≡◌, take}
use Rattle.std.specs.List.{count_by}
use Rattle.pli_ledger.specs.answers.Compiling.{refreshed, unit_is_due}
use Rattle.pli_ledger.specs.answers.Passing.{PassedUpTo}
use Rattle.pli_ledger.proofs.passes.expand_due.Given as goal

-- the units so far are expanded, and those that were due are counted
abbrev pub invariant-loop-unit : goal.invariant-loop-unit
invariant-loop-unit l = record {
  number : l.number ≡ count_by (unit_is_due l.members) (take l.unit-index l.fn.units);
  passed : PassedUpTo (refreshed l.members) (unit_is_due l.members) l.unit-index l.fn.units l.units l.fn.expander l.expander;
}
