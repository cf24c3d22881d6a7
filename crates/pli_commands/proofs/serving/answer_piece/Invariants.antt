use Rattle.std.proofs.Common.{◌≡◌, ℕ, List, take}
use Rattle.pli_commands.specs.answers.Kept.{kept_limit}
use Rattle.pli_commands.specs.answers.Going.{Going}
use Rattle.pli_commands.proofs.serving.answer_piece.Given as goal

abbrev pub invariant-loop-byte : goal.invariant-loop-byte
invariant-loop-byte g l = record {
  lines : (begun : List ℕ) → l.initial.line ≡ take kept_limit begun
      → Going g.T.Interpreter.steps g.T.Interpreter.quits l.initial.bench l.bench begun (take l.byte-index l.piece) l.line (g.W.Sink.contents l.initial.writer) (g.W.Sink.contents l.writer);
  mark : g.W.Sink.failed l.writer ≡ g.W.Sink.failed l.initial.writer;
}
