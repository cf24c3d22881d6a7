use Rattle.std.proofs.Common.{◌≡◌, ℕ, ◌+◌, ◌<◌, true, false, List, ◌∷◌, ◌++◌, length, get_or, take, drop, sym, ap, ◌∙◌, subst, rules, arith, take-append-drop, take_all}
use Rattle.std.proofs.lemmas.List.{take_more, drop_more}
use Rattle.std.proofs.lemmas.Result.{err_from_is_err_and}
use Rattle.pli_commands.specs.Lines.{is_line_feed, without_return, complete_from, pending_from}
use Rattle.pli_commands.specs.answers.Kept.{kept_limit}
use Rattle.pli_commands.specs.Exchanges.{span}
use Rattle.pli_commands.specs.Runs.{Broken, Answers, QuitsWithin}
use Rattle.pli_commands.specs.declared.serving.AfterCommand.TheVariants.{End}
use Rattle.pli_commands.proofs.LinesAnswered.{Going-none, Going-other, Going-line, quit_line, quits_within, broken_line, quits_from, goes_from}
use Rattle.pli_commands.proofs.serving.answer_piece.Goals as goal
use Rattle.pli_commands.proofs.serving.answer_piece.Goals.{then-byte-eq10+in_ok-command+in_default, else-byte-eq10}

-- the bytes before this one, this one and those after it
split : (text : List ℕ) (i : ℕ) → i < length text → take i text ++ get_or text i 0 ∷ drop (i + 1) text ≡ text
split text i h = ap (λ l. take i text ++ l) (sym (drop_more text i 0 h)) ∙ take-append-drop i text

pub loop-byte-init : goal.loop-byte-init
loop-byte-init g c = record {
  lines = λ begun is. Going-none g.T.Interpreter.steps g.T.Interpreter.quits c.args.bench.now begun c.args.line.now (g.W.Sink.contents c.args.writer.now) is;
  mark = search rules;
}

pub returns-in_err-command-clause-answered : goal.returns-in_err-command-clause-answered
returns-in_err-command-clause-answered g c = λ begun is.
    let p = err_from_is_err_and c.from_residual.result c.from_residual.ensures.1 in
    let text = c.args.piece.now in
    let i = c.loop-byte.byte-index in
    let feed : is_line_feed (get_or text i 0) ≡ true = search (rules, c.if-byte-eq10.true) in
    let one = c.in_err-command.ensures.answered in
    let ended = c.without_return.ensures ∙ ap without_return c.bytes.ensures in
    let done = broken_line g.T.Interpreter.steps g.T.Interpreter.quits g.met.T.Interpreter.too_long g.met.T.Interpreter.too_long_goes c.args.bench.now c.loop-byte.bench c.command.new.self begun (take i text) c.loop-byte.line c.without_return.result.now one.0 (get_or text i 0) (drop (i + 1) text) (g.W.Sink.contents c.args.writer.now) (g.W.Sink.contents c.loop-byte.writer) (g.W.Sink.contents c.command.new.writer) feed (c.loop-byte.invariant.lines begun is) ended one.1 one.2 in
    rw p.1 (subst (λ l. Broken g.T.Interpreter.steps g.T.Interpreter.quits (complete_from begun l) (span c.args.bench.now c.command.new.self) (span (g.W.Sink.contents c.args.writer.now) (g.W.Sink.contents c.command.new.writer))) (split text i (omega arith)) done)

pub returns-in-Quit-clause-answered : goal.returns-in-Quit-clause-answered
returns-in-Quit-clause-answered g c = λ begun is.
    let text = c.args.piece.now in
    let i = c.loop-byte.byte-index in
    let feed : is_line_feed (get_or text i 0) ≡ true = search (rules, c.if-byte-eq10.true) in
    let one = c.in_ok-command.ensures.answered in
    let ended = c.without_return.ensures ∙ ap without_return c.bytes.ensures in
    let quit = quits_from (g.T.Interpreter.quits c.without_return.result.now) (sym c.in-Quit.is ∙ one.3) in
    let done = quit_line g.T.Interpreter.steps g.T.Interpreter.quits g.met.T.Interpreter.too_long g.met.T.Interpreter.too_long_goes c.args.bench.now c.loop-byte.bench c.command.new.self begun (take i text) c.loop-byte.line c.without_return.result.now one.0 (get_or text i 0) (drop (i + 1) text) (g.W.Sink.contents c.args.writer.now) (g.W.Sink.contents c.loop-byte.writer) (g.W.Sink.contents c.command.new.writer) feed (c.loop-byte.invariant.lines begun is) ended quit one.1 one.2 in
    rw (← split text i (omega arith)) done

pub returns-in-Quit-clause-quit : goal.returns-in-Quit-clause-quit
returns-in-Quit-clause-quit g c = λ begun is _.
    let text = c.args.piece.now in
    let i = c.loop-byte.byte-index in
    let feed : is_line_feed (get_or text i 0) ≡ true = search (rules, c.if-byte-eq10.true) in
    let one = c.in_ok-command.ensures.answered in
    let ended = c.without_return.ensures ∙ ap without_return c.bytes.ensures in
    let quit = quits_from (g.T.Interpreter.quits c.without_return.result.now) (sym c.in-Quit.is ∙ one.3) in
    let found = quits_within g.T.Interpreter.steps g.T.Interpreter.quits g.met.T.Interpreter.too_long g.met.T.Interpreter.too_long_goes c.args.bench.now c.loop-byte.bench begun (take i text) c.loop-byte.line c.without_return.result.now (get_or text i 0) (drop (i + 1) text) (g.W.Sink.contents c.args.writer.now) (g.W.Sink.contents c.loop-byte.writer) feed (c.loop-byte.invariant.lines begun is) ended quit in
    subst (λ l. QuitsWithin g.T.Interpreter.quits (length l) begun l) (split text i (omega arith)) found

pub loop-byte-preserved : goal.loop-byte-preserved
loop-byte-preserved g c =
    let text = c.args.piece.now in
    let i = c.loop-byte.byte-index in
    let more = take_more text i 0 (omega arith) in
    elim c.if-byte-eq10.branch [
      | then-byte-eq10+in_ok-command+in_default w ↦
          let feed : is_line_feed (get_or text i 0) ≡ true = search (rules, w.if-byte-eq10.true) in
          let one = w.in_ok-command.ensures.answered in
          let ended = w.without_return.ensures ∙ ap without_return w.bytes.ensures in
          let goes = goes_from (g.T.Interpreter.quits w.without_return.result.now) w.in_ok-command.field-0 one.3 w.in_default.not-Quit in
          record {
            lines = λ begun is.
                rw (w.bench-is, w.line-is, w.writer-is, more, w.clear.ensures)
                (Going-line g.T.Interpreter.steps g.T.Interpreter.quits g.met.T.Interpreter.too_long g.met.T.Interpreter.too_long_goes c.args.bench.now c.loop-byte.bench w.command.new.self begun (take i text) c.loop-byte.line w.without_return.result.now one.0 (get_or text i 0) (g.W.Sink.contents c.args.writer.now) (g.W.Sink.contents c.loop-byte.writer) (g.W.Sink.contents w.command.new.writer) feed (c.loop-byte.invariant.lines begun is) ended goes one.1 one.2);
            mark = rw w.writer-is (w.in_ok-command.ensures.mark ∙ c.loop-byte.invariant.mark);
          }
      | else-byte-eq10 w ↦
          let other : is_line_feed (get_or text i 0) ≡ false = search (rules, w.if-byte-eq10.false) in
          record {
            lines = λ begun is.
                rw (w.bench-is, w.line-is, w.writer-is, more, w.push.ensures)
                (Going-other g.T.Interpreter.steps g.T.Interpreter.quits c.args.bench.now c.loop-byte.bench begun (take i text) c.loop-byte.line (get_or text i 0) (g.W.Sink.contents c.args.writer.now) (g.W.Sink.contents c.loop-byte.writer) other (c.loop-byte.invariant.lines begun is));
            mark = rw w.writer-is c.loop-byte.invariant.mark;
          }
    ]

pub returns-clause-answered : goal.returns-clause-answered
returns-clause-answered g c = λ begun is.
    let text = c.args.piece.now in
    let so_far = c.loop-byte.invariant.lines begun is in
    let whole = take_all c.loop-byte.byte-index text (omega arith) in
    (so_far.answers, subst (λ l. Answers g.T.Interpreter.steps g.T.Interpreter.quits c.args.bench.now (complete_from begun l) so_far.answers c.loop-byte.bench End) whole so_far.answered, so_far.written)

pub returns-clause-kept : goal.returns-clause-kept
returns-clause-kept g c = λ begun is ended.
    let so_far = c.loop-byte.invariant.lines begun is in
    let whole = take_all c.loop-byte.byte-index c.args.piece.now (omega arith) in
    so_far.kept_is ∙ ap (λ l. take kept_limit (pending_from begun l)) whole
