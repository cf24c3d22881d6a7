use Rattle.std.proofs.Common.{◌≡◌, arith, ap, ◌∙◌, sym}
use Rattle.std.proofs.lemmas.Result.{err_from_is_err_and}
use Rattle.pli_parse_statement.specs.answers.StatementAnswers.{tree_view, inside_at, context_view, next_view}
use Rattle.pli_base.specs.laws.StatementLaws.{list_made}
use Rattle.pli_parse_statement.specs.StatementReading.{begin_at, do_at, list_in, statement_at, next_of, EndsHere, Another}
use Rattle.pli_base.specs.views.StatementView.{statement_view}
use Rattle.pli_parse.proofs.StatementClauses.{alternative_fails}
use Rattle.pli_parse.proofs.StatementRows.{goes_on, statement_fails, end_fails, ends, one_more}
use Rattle.pli_base.specs.views.SyntaxView.{expression_view}
use Rattle.pli_parse.proofs.reader.+reader.Goals as goal
use Rattle.pli_base.specs.answers.ReadingAnswers.{front_view}

pub begin_at-returns-clause-value : goal.begin_at-returns-clause-value
unfolding begin_at
begin_at-returns-clause-value t c = rw (c.front.ensures, c.in_ok-rest.ensures.value, c.in_ok-list.ensures.value, list_made c.in_ok-list.list.value.tree.statements)

pub begin_at-returns-clause-numbers : goal.begin_at-returns-clause-numbers
begin_at-returns-clause-numbers t c = rw (c.front.ensures, list_made c.in_ok-list.list.value.tree.statements) (omega (arith, c.in_ok-list.ensures.numbers))

pub do_at-returns-clause-value : goal.do_at-returns-clause-value
unfolding do_at
do_at-returns-clause-value t c = rw (c.front.ensures, c.in_ok-control.ensures.value, c.in-Ok.ensures.value, c.in-Ok-list_in.ensures.value, list_made c.in-Ok-list_in.list.value.tree.statements)

pub do_at-returns-clause-numbers : goal.do_at-returns-clause-numbers
do_at-returns-clause-numbers t c = rw (c.front.ensures, list_made c.in-Ok-list_in.list.value.tree.statements) (omega (arith, c.in-Ok-list_in.ensures.numbers))

pub if_at-returns-in-Err-alternative_at-clause-value : goal.if_at-returns-in-Err-alternative_at-clause-value
if_at-returns-in-Err-alternative_at-clause-value t c =
    let first = c.in-Ok-statement_at.first in
    alternative_fails (inside_at c.args.levels) (context_view c.args.context) c.args.at c.args.number first.value.count c.args.texts.now c.in-Ok.after.now
    (front_view expression_view c.in_ok-condition.condition) (front_view (tree_view statement_view) first) c.in-Err-alternative_at.error
    c.in_ok-condition.ensures.value c.in-Ok.ensures.value c.in-Ok-statement_at.ensures.value c.in-Ok-statement_at.ensures.numbers c.in-Err-alternative_at.ensures.value

pub list_in-returns-in_err-ended-in-EndsHere-clause-value : goal.list_in-returns-in_err-ended-in-EndsHere-clause-value
list_in-returns-in_err-ended-in-EndsHere-clause-value t c =
    let l = c.loop-statements in
    let p = err_from_is_err_and c.from_residual-in_err-ended-in-EndsHere.result c.from_residual-in_err-ended-in-EndsHere.ensures.1 in
    let next : next_of l.rest.now ≡ EndsHere c.in-EndsHere.after.now = sym c.next_of.ensures.value ∙ ap next_view c.in-EndsHere.is in
    rw (p.1, p.2)
    (end_fails (statement_at c.args.levels) (context_view c.args.context) c.args.label.now l.statements.items l.next l.count l.rest.now
    (list_in (inside_at c.args.levels) (context_view c.args.context) c.args.label.now c.args.at c.args.number c.args.texts.now)
    c.in-EndsHere.after.now c.in_err-ended-in-EndsHere.field-0.0 next c.in_err-ended-in-EndsHere.ensures.value l.invariant.value)

pub list_in-returns-in-EndsHere-clause-value : goal.list_in-returns-in-EndsHere-clause-value
list_in-returns-in-EndsHere-clause-value t c =
    let l = c.loop-statements in
    let next : next_of l.rest.now ≡ EndsHere c.in-EndsHere.after.now = sym c.next_of.ensures.value ∙ ap next_view c.in-EndsHere.is in
    rw c.front.ensures
    (ends (statement_at c.args.levels) (context_view c.args.context) c.args.label.now l.statements.items l.next l.count l.rest.now
    (list_in (inside_at c.args.levels) (context_view c.args.context) c.args.label.now c.args.at c.args.number c.args.texts.now)
    c.in-EndsHere.after.now c.in_ok-ended-in-EndsHere.ended.next c.in_ok-ended-in-EndsHere.ended.rest.now next c.in_ok-ended-in-EndsHere.ensures.value l.invariant.value)

pub list_in-returns-in_err-read-in-Another-clause-value : goal.list_in-returns-in_err-read-in-Another-clause-value
list_in-returns-in_err-read-in-Another-clause-value t c =
    let l = c.loop-statements in
    let p = err_from_is_err_and c.from_residual-in_err-read-in-Another.result c.from_residual-in_err-read-in-Another.ensures.1 in
    let next : next_of l.rest.now ≡ Another = sym c.next_of.ensures.value ∙ ap next_view c.in-Another.is in
    rw (p.1, p.2)
    (statement_fails (statement_at c.args.levels) (context_view c.args.context) c.args.label.now l.statements.items l.next l.count l.rest.now
    (list_in (inside_at c.args.levels) (context_view c.args.context) c.args.label.now c.args.at c.args.number c.args.texts.now)
    c.in_err-read-in-Another.field-0.0 next c.in_err-read-in-Another.ensures.value l.invariant.value)

pub list_in-loop-statements-preserved : goal.list_in-loop-statements-preserved
list_in-loop-statements-preserved t c =
    let l = c.loop-statements in
    let read = c.in_ok-read-in-Another.read in
    let next : next_of l.rest.now ≡ Another = sym c.next_of.ensures.value ∙ ap next_view c.in-Another.is in
    record {
      value = rw c.in_ok-push-in-Another.ensures.items
          (goes_on (statement_at c.args.levels) (context_view c.args.context) c.args.label.now l.statements.items l.next l.count l.rest.now
          (list_in (inside_at c.args.levels) (context_view c.args.context) c.args.label.now c.args.at c.args.number c.args.texts.now)
          read.value.tree read.next read.rest.now read.value.count next c.in_ok-read-in-Another.ensures.value c.in_ok-read-in-Another.ensures.numbers
          (omega (arith, c.in_ok-read-in-Another.ensures.place)) l.invariant.value);
      numbers = rw c.in_ok-push-in-Another.ensures.items
          (omega (arith, one_more l.statements.items read.value.tree, c.in_ok-read-in-Another.ensures.numbers, l.invariant.numbers));
      place = (omega (arith, c.in_ok-read-in-Another.ensures.place), omega (arith, c.in_ok-read-in-Another.ensures.place), omega (arith, c.in_ok-read-in-Another.ensures.place));
    }
