use Rattle.std.proofs.Common.{◌≡◌, ℕ, ◌+◌, ◌*◌, ◌≤◌, List, [], length}
use Rattle.std.specs.Io.KnownBytes.{Consumes}
use Rattle.pli_commands.specs.answers.Going.{Going}
use Rattle.pli_commands.proofs.serving.serve_pieces.Given as goal

abbrev pub invariant-loop-read : goal.invariant-loop-read
invariant-loop-read g l =
    (taken : List ℕ) × Consumes (g.R.Source.remaining l.initial.reader) (g.R.Source.remaining l.reader) taken × (l._read ≤ length taken)
    × Going g.T.Interpreter.steps g.T.Interpreter.quits l.initial.bench l.bench [] taken l.line (g.W.Sink.contents l.initial.writer) (g.W.Sink.contents l.writer)
    × (length l.buffer ≡ length l.initial.buffer) × (length taken ≤ l._read * length l.initial.buffer)
    × (g.R.Source.takes l.reader ≤ g.R.Source.takes l.initial.reader + l._read)
