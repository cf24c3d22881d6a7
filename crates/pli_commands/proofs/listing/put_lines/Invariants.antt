use Rattle.std.specs.Prelude.{◌≡◌, ◌+◌, ◌++◌, drop}
use Rattle.pli_commands.specs.answers.Batches.{HasPut}
use Rattle.pli_commands.specs.AnswerLines.{numbered_lines}
use Rattle.pli_commands.proofs.listing.put_lines.Given as goal

-- the lines so far are put or wait
abbrev pub invariant-loop-place : goal.invariant-loop-place
invariant-loop-place g l = record {
  passed : HasPut (g.W.Sink.contents l.initial.writer) (g.W.Sink.contents l.writer) (numbered_lines 1 l.lines) (l.batch ++ numbered_lines (l.place + 1) (drop l.place l.lines));
  mark : g.W.Sink.failed l.writer ≡ g.W.Sink.failed l.initial.writer;
}
