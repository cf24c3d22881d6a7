use Rattle.std.specs.Prelude.{◌≡◌, ◌++◌, drop}
use Rattle.std.specs.List.{flat_map}
use Rattle.pli_commands.specs.answers.Batches.{HasPut}
use Rattle.pli_commands.specs.AnswerLines.{member_line}
use Rattle.pli_commands.proofs.listing.put_members.Given as goal

-- the members so far are put or wait
abbrev pub invariant-loop-entry : goal.invariant-loop-entry
invariant-loop-entry g l = record {
  passed : HasPut (g.W.Sink.contents l.initial.writer) (g.W.Sink.contents l.writer) (flat_map member_line l.entries) (l.batch ++ flat_map member_line (drop l.entry-index l.entries));
  mark : g.W.Sink.failed l.writer ≡ g.W.Sink.failed l.initial.writer;
}
