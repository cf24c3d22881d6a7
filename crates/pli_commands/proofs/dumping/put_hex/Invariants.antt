use Rattle.std.specs.Prelude.{◌≡◌, ◌<◌, ◌++◌, drop}
use Rattle.pli_commands.specs.answers.Batches.{HasPut}
use Rattle.pli_commands.specs.Dumps.{hex_from}
use Rattle.pli_commands.proofs.dumping.put_hex.Given as goal

-- the bytes so far are put or wait
abbrev pub invariant-loop-byte : goal.invariant-loop-byte
invariant-loop-byte g l = record {
  passed : HasPut (g.W.Sink.contents l.initial.writer) (g.W.Sink.contents l.writer) (hex_from 0 l.bytes) (l.batch ++ hex_from l.column (drop l.byte-index l.bytes));
  within : l.column < 32;
  mark : g.W.Sink.failed l.writer ≡ g.W.Sink.failed l.initial.writer;
}
