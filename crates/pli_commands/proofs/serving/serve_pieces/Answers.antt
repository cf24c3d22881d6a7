use Rattle.std.proofs.Math.Nat.{mul-le-mul_left}
use Rattle.std.proofs.Common.{◌≡◌, ℕ, ◌+◌, ◌*◌, ◌<◌, ◌≤◌, List, [], ◌++◌, length, take, Bool, Result, Ok, Err, inl, refl, ap, ◌∙◌, subst, arith, length-append, length-take-le}
use Rattle.std.proofs.lemmas.Result.{err_from_is_err_and}
use Rattle.std.specs.Io.KnownBytes.{Consumes}
use Rattle.pli_base.specs.laws.DeviceLaws.{Consumes-none, Consumes-then, Consumes-then_Keeps}
use Rattle.pli_commands.specs.Lines.{pending_line, complete_lines, complete_from}
use Rattle.pli_commands.specs.Exchanges.{span}
use Rattle.pli_commands.specs.Runs.{Answered, Bytes, Service, Stops, Takes}
use Rattle.pli_commands.specs.declared.serving.AfterCommand.{AfterCommand}
use Rattle.pli_commands.specs.declared.serving.ServeFault.{ServeFault}
use Rattle.pli_commands.specs.declared.serving.AfterCommand.TheVariants.{Quit}
use Rattle.pli_commands.proofs.LinesAnswered.{Going-none, Going-then, Answered-quit, Broken-more, Answers-go_on, QuitsWithin-then, served_part, served_end, stops_at_end, end_from}
use Rattle.pli_commands.proofs.serving.serve_pieces.Goals as goal

-- a piece that is not empty adds a byte at least
longer : (taken buffer : List ℕ) (count read : ℕ) → read ≤ length taken → count ≤ length buffer → (count ≡ 0 → ⊥) → read + 1 ≤ length (taken ++ take count buffer)
longer taken buffer count read before within some =
    let more : 0 < count = omega arith in
    omega (arith, length-append taken (take count buffer), length-take-le count buffer within)

-- one more piece for each read
few_more : (taken buffer : List ℕ) (count read size : ℕ) → length taken ≤ read * size → count ≤ length buffer → length buffer ≡ size → length (taken ++ take count buffer) ≤ (read + 1) * size
few_more taken buffer count read size few within sized = omega (arith, length-append taken (take count buffer), length-take-le count buffer within)

few_reads : (taken : List ℕ) (read reads size : ℕ) → length taken ≤ read * size → read ≤ reads → length taken ≤ reads * size
few_reads taken read reads size few h = omega (arith, mul-le-mul_left size h)

-- what was taken with one read more
module _ {S : Type 0} (quits : List ℕ → Bool) (service : Service S) (between : Bytes) (taken buffer : List ℕ) (count read size : ℕ) (r : Result AfterCommand ServeFault) where
  takes_piece : Consumes service.reader.before between taken → Consumes between service.reader.after (take count buffer) → length taken ≤ read * size → count ≤ length buffer → length buffer ≡ size → read < service.reads
      → Stops quits size (taken ++ take count buffer) service.reader.after r → Takes quits size service r
  takes_piece before later few within sized h stops =
      let next : read + 1 ≤ service.reads = omega arith in record {
        taken = taken ++ take count buffer;
        consumed = Consumes-then _ between _ taken (take count buffer) before later;
        few = few_reads (taken ++ take count buffer) (read + 1) service.reads size (few_more taken buffer count read size few within sized) next;
        stops = stops;
      }

pub loop-read-init : goal.loop-read-init
loop-read-init g c = (
  [],
  Consumes-none (g.R.Source.remaining c.args.reader.now),
  omega arith,
  Going-none g.T.Interpreter.steps g.T.Interpreter.quits c.args.bench.now [] c.new-line.result (g.W.Sink.contents c.args.writer.now) c.new-line.ensures,
  refl,
  omega arith,
  omega arith,
)

pub returns-in_err-answer_last-clause-served : goal.returns-in_err-answer_last-clause-served
returns-in_err-answer_last-clause-served g c =
    let p = err_from_is_err_and c.from_residual.result c.from_residual.ensures.1 in
    let (taken, before, reads, so_far, sized, few, asked) = c.loop-read.invariant in
    let none = c.if-count-eq0.true in
    let ended = c.in-Ok.ensures.moved.1 none (omega (arith, sized)) in
    let later = subst (λ n. Consumes (g.R.Source.remaining c.loop-read.reader) (g.R.Source.remaining c.take.new.self) (take n c.take.new.buffer)) none c.in-Ok.ensures.moved.0 in
    let run = c.in_err-answer_last.ensures.answered (pending_line taken) (c.bytes.ensures ∙ so_far.kept_is) in
    rw (p.1, p.2) (served_end g.T.Interpreter.steps g.T.Interpreter.quits c.args.bench.now c.loop-read.bench c.answer_last.new.bench taken c.loop-read.line _ _ _ _ _ _ (Err c.in_err-answer_last.field-0.0) so_far before later ended run)

pub returns-then-count-eq0-clause-served : goal.returns-then-count-eq0-clause-served
returns-then-count-eq0-clause-served g c =
    let (taken, before, reads, so_far, sized, few, asked) = c.loop-read.invariant in
    let none = c.if-count-eq0.true in
    let ended = c.in-Ok.ensures.moved.1 none (omega (arith, sized)) in
    let later = subst (λ n. Consumes (g.R.Source.remaining c.loop-read.reader) (g.R.Source.remaining c.take.new.self) (take n c.take.new.buffer)) none c.in-Ok.ensures.moved.0 in
    let run = c.in_ok-answer_last.ensures.answered (pending_line taken) (c.bytes.ensures ∙ so_far.kept_is) in
    served_end g.T.Interpreter.steps g.T.Interpreter.quits c.args.bench.now c.loop-read.bench c.answer_last.new.bench taken c.loop-read.line _ _ _ _ _ _ (Ok c.in_ok-answer_last.field-0) so_far before later ended run

pub returns-in_err-answer_piece-clause-served : goal.returns-in_err-answer_piece-clause-served
returns-in_err-answer_piece-clause-served g c =
    let p = err_from_is_err_and c.from_residual-in_err-answer_piece.result c.from_residual-in_err-answer_piece.ensures.1 in
    let (taken, before, reads, so_far, sized, few, asked) = c.loop-read.invariant in
    let run = c.in_err-answer_piece.ensures.answered (pending_line taken) so_far.kept_is in
    let stays = Broken-more g.T.Interpreter.steps g.T.Interpreter.quits c.args.bench.now c.answer_piece.new.bench in
    rw (p.1, p.2) (served_part g.T.Interpreter.steps g.T.Interpreter.quits c.args.bench.now c.loop-read.bench c.answer_piece.new.bench taken c.loop-read.line (take c.in-Ok.count c.take.new.buffer) _ _ _ _ _ _ (Err c.in_err-answer_piece.field-0.0) (λ xs ys. stays xs ys _ _) so_far before c.in-Ok.ensures.moved.0 run)

pub returns-in-Quit-clause-served : goal.returns-in-Quit-clause-served
returns-in-Quit-clause-served g c =
    let (taken, before, reads, so_far, sized, few, asked) = c.loop-read.invariant in
    let piece = take c.in-Ok.count c.take.new.buffer in
    let run = c.in_ok-answer_piece.ensures.answered (pending_line taken) so_far.kept_is in
    let quit = subst (λ n. Answered g.T.Interpreter.steps g.T.Interpreter.quits (complete_from (pending_line taken) piece) (span c.loop-read.bench c.answer_piece.new.bench) (span (g.W.Sink.contents c.loop-read.writer) (g.W.Sink.contents c.answer_piece.new.writer)) (Ok n)) c.in-Quit.is run in
    let stays = Answered-quit g.T.Interpreter.steps g.T.Interpreter.quits c.args.bench.now c.answer_piece.new.bench in
    served_part g.T.Interpreter.steps g.T.Interpreter.quits c.args.bench.now c.loop-read.bench c.answer_piece.new.bench taken c.loop-read.line piece _ _ _ _ _ _ (Ok Quit) (λ xs ys. stays xs ys _ _) so_far before c.in-Ok.ensures.moved.0 quit

pub loop-read-preserved : goal.loop-read-preserved
loop-read-preserved g c =
    let (taken, before, reads, so_far, sized, few, asked) = c.loop-read.invariant in
    let piece = take c.in-Ok.count c.take.new.buffer in
    let ended = end_from c.in_ok-answer_piece.field-0 c.in_default-2.not-Quit c.in_ok-answer_piece.ensures.stops in
    let run = c.in_ok-answer_piece.ensures.answered (pending_line taken) so_far.kept_is in
    let whole = subst (λ n. Answered g.T.Interpreter.steps g.T.Interpreter.quits (complete_from (pending_line taken) piece) (span c.loop-read.bench c.answer_piece.new.bench) (span (g.W.Sink.contents c.loop-read.writer) (g.W.Sink.contents c.answer_piece.new.writer)) (Ok n)) ended run in
    let kept = c.in_ok-answer_piece.ensures.kept (pending_line taken) so_far.kept_is (ap Ok ended) in (
      taken ++ piece,
      Consumes-then _ _ _ taken piece before c.in-Ok.ensures.moved.0,
      longer taken c.take.new.buffer c.in-Ok.count c.loop-read._read reads c.in-Ok.ensures.bound c.if-count-eq0.false,
      Going-then g.T.Interpreter.steps g.T.Interpreter.quits c.args.bench.now c.loop-read.bench c.answer_piece.new.bench [] taken c.loop-read.line piece c.answer_piece.new.line _ _ _ so_far whole kept,
      omega (arith, sized),
      few_more taken c.take.new.buffer c.in-Ok.count c.loop-read._read (length c.args.buffer.now) few c.in-Ok.ensures.bound (omega (arith, sized)),
      omega (arith, asked, c.in-Ok.ensures.count),
    )

pub returns-clause-served : goal.returns-clause-served
returns-clause-served g c =
    let (taken, before, reads, so_far, sized, few, asked) = c.loop-read.invariant in
    (record { taken = taken; consumed = before; answers = so_far.answers; answered = so_far.answered; written = so_far.written }, omega (arith, reads))

pub returns-in_default-clause-few : goal.returns-in_default-clause-few
returns-in_default-clause-few g c =
    let (taken, before, reads, so_far, sized, few, asked) = c.loop-read.invariant in
    record {
      taken = taken;
      consumed = Consumes-then_Keeps _ _ _ taken before c.in_default.ensures.moved;
      few = few_reads taken c.loop-read._read c.args.reads (length c.args.buffer.now) few (omega arith);
      stops = tt;
    }

pub returns-in_err-answer_last-clause-few : goal.returns-in_err-answer_last-clause-few
returns-in_err-answer_last-clause-few g c =
    let p = err_from_is_err_and c.from_residual.result c.from_residual.ensures.1 in
    let (taken, before, reads, so_far, sized, few, asked) = c.loop-read.invariant in
    rw p.1 (takes_piece g.T.Interpreter.quits _ _ taken c.take.new.buffer c.in-Ok.count c.loop-read._read (length c.args.buffer.now) (Err p.0) before c.in-Ok.ensures.moved.0 few c.in-Ok.ensures.bound (omega (arith, sized)) (omega arith) tt)

pub returns-then-count-eq0-clause-few : goal.returns-then-count-eq0-clause-few
returns-then-count-eq0-clause-few g c =
    let (taken, before, reads, so_far, sized, few, asked) = c.loop-read.invariant in
    let ended = c.in-Ok.ensures.moved.1 c.if-count-eq0.true (omega (arith, sized)) in
    takes_piece g.T.Interpreter.quits _ _ taken c.take.new.buffer c.in-Ok.count c.loop-read._read (length c.args.buffer.now) (Ok c.in_ok-answer_last.field-0) before c.in-Ok.ensures.moved.0 few c.in-Ok.ensures.bound (omega (arith, sized)) (omega arith) (stops_at_end g.T.Interpreter.quits (length c.args.buffer.now) _ _ c.in_ok-answer_last.field-0 ended)

pub returns-in_err-answer_piece-clause-few : goal.returns-in_err-answer_piece-clause-few
returns-in_err-answer_piece-clause-few g c =
    let p = err_from_is_err_and c.from_residual-in_err-answer_piece.result c.from_residual-in_err-answer_piece.ensures.1 in
    let (taken, before, reads, so_far, sized, few, asked) = c.loop-read.invariant in
    rw p.1 (takes_piece g.T.Interpreter.quits _ _ taken c.take.new.buffer c.in-Ok.count c.loop-read._read (length c.args.buffer.now) (Err p.0) before c.in-Ok.ensures.moved.0 few c.in-Ok.ensures.bound (omega (arith, sized)) (omega arith) tt)

pub returns-in-Quit-clause-few : goal.returns-in-Quit-clause-few
returns-in-Quit-clause-few g c =
    let (taken, before, reads, so_far, sized, few, asked) = c.loop-read.invariant in
    let piece = take c.in-Ok.count c.take.new.buffer in
    let size = length c.args.buffer.now in
    let fits : length piece ≤ size = omega (arith, sized, length-take-le c.in-Ok.count c.take.new.buffer c.in-Ok.ensures.bound, c.in-Ok.ensures.bound) in
    let found = c.in_ok-answer_piece.ensures.quit (pending_line taken) so_far.kept_is (ap Ok c.in-Quit.is) in
    let go_on = Answers-go_on g.T.Interpreter.steps g.T.Interpreter.quits c.args.bench.now c.loop-read.bench (complete_lines taken) so_far.answers so_far.answered in
    takes_piece g.T.Interpreter.quits _ _ taken c.take.new.buffer c.in-Ok.count c.loop-read._read size (Ok Quit) before c.in-Ok.ensures.moved.0 few c.in-Ok.ensures.bound (omega (arith, sized)) (omega arith) (inl (QuitsWithin-then g.T.Interpreter.quits (length piece) size taken piece fits go_on found))

pub returns-clause-few : goal.returns-clause-few
returns-clause-few g c =
    let (taken, before, reads, so_far, sized, few, asked) = c.loop-read.invariant in
    record {
      taken = taken;
      consumed = before;
      few = few_reads taken c.loop-read._read c.args.reads (length c.args.buffer.now) few (omega arith);
      stops = tt;
    }
