use Rattle.std.proofs.Common.{arith, map, ◌≡◌, ◌+◌, ◌++◌, ◌∷◌, [], length}
use Rattle.std.proofs.lemmas.Result.{err_from_is_err_and}
use Rattle.std.proofs.lemmas.List.{map_push}
use Rattle.pli_parse_statement.specs.StatementReading.{options_from}
use Rattle.pli_parse_statement.specs.answers.StatementAnswers as answers
use Rattle.pli_base.specs.views.StatementView.{option_view}
use Rattle.pli_parse_statement.proofs.StatementOptions.{goes_on, fails, is_done}
use Rattle.pli_parse_statement.proofs.heading.options_from.Goals as goal
use Rattle.pli_base.specs.answers.ReadingAnswers.{front_view}

pub returns-in_err-read-clause-value : goal.returns-in_err-read-clause-value
returns-in_err-read-clause-value c =
    let p = err_from_is_err_and c.from_residual.result c.from_residual.ensures.1 in
    rw (p.1, p.2) (fails (map option_view c.loop-word.options.items) c.loop-word.next c.loop-word.rest.now
    (options_from (length c.args.texts.now + 1) c.args.at c.args.texts.now)
    (answers.option_view c.in-Some.word) c.in-Some.after.now c.in_err-read.field-0.0 c.in-Some.ensures.value c.in_err-read.ensures.value c.loop-word.invariant.value)

pub loop-word-preserved : goal.loop-word-preserved
loop-word-preserved c =
    let e : map option_view c.push.new.self.items ≡ map option_view c.loop-word.options.items ++ option_view c.in_ok-read.read.value ∷ [] = rw c.in_ok-push.ensures.items (map_push _ c.loop-word.options.items c.in_ok-read.read.value) in
    record {
      value = rw e (goes_on (map option_view c.loop-word.options.items) c.loop-word.next c.loop-word.rest.now
          (options_from (length c.args.texts.now + 1) c.args.at c.args.texts.now)
          (answers.option_view c.in-Some.word) c.in-Some.after.now (front_view option_view c.in_ok-read.read) c.in-Some.ensures.value c.in_ok-read.ensures.value
          (omega (arith, c.in_ok-read.ensures.place, c.in-Some.ensures.place)) c.loop-word.invariant.value);
      place = (omega (arith, c.in_ok-read.ensures.place, c.in-Some.ensures.place), omega (arith, c.in_ok-read.ensures.place, c.in-Some.ensures.place));
    }

pub returns-clause-value : goal.returns-clause-value
returns-clause-value c =
    rw c.new.ensures
    (is_done (map option_view c.loop-word.options.items) c.loop-word.next c.loop-word.rest.now
    (options_from (length c.args.texts.now + 1) c.args.at c.args.texts.now) c.in_default.ensures.value c.loop-word.invariant.value)
