use Rattle.std.proofs.Common.{◌≡◌, take}
use Rattle.pli_declare_scopes.specs.Repeats.{verdicts_of}
use Rattle.pli_declare_scopes.specs.answers.Judged.{declared_with}
use Rattle.pli_declare_tables.proofs.JudgedEntries.{written_all}
use Rattle.pli_declare_tables.proofs.table.declare_names.Given as goal

-- the names so far are judged, and stand in the block
abbrev pub invariant-loop-entry : goal.invariant-loop-entry
invariant-loop-entry l = record {
  verdicts : l.verdicts.items ≡ verdicts_of (take l.entry-index (written_all l.entries));
  block : l.block ≡ declared_with (take l.entry-index (written_all l.entries)) l.verdicts.items;
}
