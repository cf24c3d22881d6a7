use Rattle.std.specs.Prelude.{◌≡◌, take}
use Rattle.std.specs.List.{count_by}
use Rattle.pli_ledger.specs.answers.Compiling.{recompiled, unit_is_stale}
use Rattle.pli_ledger.specs.answers.Passing.{PassedUpTo}
use Rattle.pli_ledger.proofs.passes.compile_stale.Given as goal

-- the units so far are compiled, and those that were stale are counted
abbrev pub invariant-loop-unit : goal.invariant-loop-unit
invariant-loop-unit l = record {
  number : l.number ≡ count_by unit_is_stale (take l.unit-index l.fn.units);
  passed : PassedUpTo recompiled unit_is_stale l.unit-index l.fn.units l.units l.fn.compiler l.compiler;
}
