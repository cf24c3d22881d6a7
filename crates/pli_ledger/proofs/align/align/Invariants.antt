use Rattle.std.specs.Prelude.{◌≡◌, ◌≤◌, ◌++◌, drop, length, vec_capacity, vec_len}
use Rattle.pli_meaning.specs.Scratch.{sources}
use Rattle.pli_ledger.specs.answers.Aligning.{aligned}
use Rattle.pli_ledger.proofs.align.align.Given as goal

-- what was moved, and what is still to be, is what is kept of all sources; and there is room
abbrev pub invariant-loop-entry : goal.invariant-loop-entry
invariant-loop-entry l = record {
  moved : l.kept.items ++ aligned l.units (sources (drop l.entry-index l.entry-items)) ≡ aligned l.fn.units (sources l.entry-items);
  few : vec_len l.kept ≤ l.entry-index;
  room : length l.entry-items ≤ vec_capacity l.kept;
}
