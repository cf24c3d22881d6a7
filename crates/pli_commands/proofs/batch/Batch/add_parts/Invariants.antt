use Rattle.std.specs.Prelude.{◌≡◌, ◌++◌, map, drop}
use Rattle.pli_commands.specs.answers.Answering.{joined}
use Rattle.pli_commands.specs.answers.Batches.{HasPut}
use Rattle.pli_commands.proofs.batch.Batch.add_parts.Given as goal

-- the parts so far are put or wait
abbrev pub invariant-loop-part : goal.invariant-loop-part
invariant-loop-part g l = record {
  passed : HasPut (g.W.Sink.contents l.initial.writer) (g.W.Sink.contents l.writer) (l.initial.self ++ joined (map (λ p. p.now) l.parts)) (l.self ++ joined (map (λ p. p.now) (drop l.part-index l.parts)));
  mark : g.W.Sink.failed l.writer ≡ g.W.Sink.failed l.initial.writer;
}
