use Rattle.std.specs.Prelude.{◌≡◌, ◌≤◌, ◌++◌, drop, length, vec_capacity, vec_len}
use Rattle.pli_ledger.proofs.align.all_of.Given as goal

-- what was taken, and what is left, are all; and there is room
abbrev pub invariant-loop-unit : goal.invariant-loop-unit
invariant-loop-unit l = record {
  taken : l.all.items ++ drop l.unit-index l.units ≡ l.fn.units;
  same : length l.units ≡ length l.fn.units;
  few : vec_len l.all ≤ l.unit-index;
  room : length l.fn.units ≤ vec_capacity l.all;
}
