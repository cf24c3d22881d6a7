use Rattle.std.specs.Prelude.{◌≡◌, map, take}
use Rattle.std.specs.Io.KnownBytes.{Appends}
use Rattle.pli_commands.specs.answers.Answering.{joined}
use Rattle.pli_commands.proofs.answer.put_parts.Given as goal

-- the parts so far are written
abbrev pub invariant-loop-part : goal.invariant-loop-part
invariant-loop-part g l = record {
  written : Appends (g.W.Sink.contents l.initial.writer) (g.W.Sink.contents l.writer) (joined (map (λ p. p.now) (take l.part-index l.parts)));
  mark : g.W.Sink.failed l.writer ≡ g.W.Sink.failed l.initial.writer;
}
