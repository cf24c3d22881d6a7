use Rattle.std.proofs.Common.{◌≡◌, ◌<◌, length, sym, ◌∙◌, rules}
use Rattle.std.proofs.lemmas.Result.{err_from_is_err_and}
use Rattle.pli_commands.proofs.LinesAnswered.{last_none, last_going, last_quit, last_broken, quits_from, goes_from}
use Rattle.pli_commands.proofs.serving.answer_last.Goals as goal

pub returns-then-is_empty-clause-answered : goal.returns-then-is_empty-clause-answered
returns-then-is_empty-clause-answered g c = λ begun is.
    let none : length c.args.line.now ≡ 0 = search (rules, c.if-is_empty.true) in
    last_none g.T.Interpreter.steps g.T.Interpreter.quits g.met.T.Interpreter.too_long g.met.T.Interpreter.too_long_goes c.args.bench.now c.args.line.now begun (g.W.Sink.contents c.args.writer.now) is none

pub returns-in_err-command-clause-answered : goal.returns-in_err-command-clause-answered
returns-in_err-command-clause-answered g c = λ begun is.
    let p = err_from_is_err_and c.from_residual.result c.from_residual.ensures.1 in
    let some : 0 < length c.args.line.now = search (rules, c.if-is_empty.false) in
    let one = c.in_err-command.ensures.answered in
    rw p.1 (last_broken g.T.Interpreter.steps g.T.Interpreter.quits g.met.T.Interpreter.too_long g.met.T.Interpreter.too_long_goes c.args.bench.now c.command.new.self c.args.line.now begun one.0 _ _ is some one.1 one.2)

pub returns-in-Quit-clause-answered : goal.returns-in-Quit-clause-answered
returns-in-Quit-clause-answered g c = λ begun is.
    let some : 0 < length c.args.line.now = search (rules, c.if-is_empty.false) in
    let one = c.in_ok-command.ensures.answered in
    let quit = quits_from (g.T.Interpreter.quits c.args.line.now) (sym c.in-Quit.is ∙ one.3) in
    last_quit g.T.Interpreter.steps g.T.Interpreter.quits g.met.T.Interpreter.too_long g.met.T.Interpreter.too_long_goes c.args.bench.now c.command.new.self c.args.line.now begun one.0 _ _ is some quit one.1 one.2

pub returns : goal.returns
returns g c = record {
  answered = λ begun is.
      let some : 0 < length c.args.line.now = search (rules, c.if-is_empty.false) in
      let one = c.in_ok-command.ensures.answered in
      let goes = goes_from (g.T.Interpreter.quits c.args.line.now) c.in_ok-command.field-0 one.3 c.in_default.not-Quit in
      last_going g.T.Interpreter.steps g.T.Interpreter.quits g.met.T.Interpreter.too_long g.met.T.Interpreter.too_long_goes c.args.bench.now c.command.new.self c.args.line.now begun one.0 _ _ is some goes one.1 one.2;
  mark = c.in_ok-command.ensures.mark;
}
