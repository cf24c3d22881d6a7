use Rattle.std.proofs.Common.{◌≡◌, ◌++◌, ◌∷◌, [], ◌+◌, option_map, Vec, Global, refl, ap, ◌∙◌, sym, arith}
use Rattle.std.proofs.lemmas.Result.{err_from_is_err_and}
use Rattle.pli_base.specs.views.SyntaxView.{expression_view, joined_view}
use Rattle.pli_base.specs.laws.SyntaxLaws.{reference_made}
use Rattle.pli_base.specs.declared.syntax.JoinedPart.{JoinedPart, roll-JoinedPart}
use Rattle.pli_base.specs.declared.syntax.Part.{roll-Part}
use Rattle.pli_parse_expression.specs.Reading.{counted, infix_from, operand_at, inside, argument_of, listed_at, joined_from}
use Rattle.pli_base.specs.answers.ReadingAnswers.{front_view}
use Rattle.pli_parse_expression.specs.answers.Answers.{counted_view}
use Rattle.pli_base.specs.views.SyntaxView.{arguments_view}
use Rattle.pli_parse_expression.proofs.LoopLemmas.{too_many, operand_fails, right_goes_on, right_fails, goes_on, operators_end, no_name, arguments_fail, part_goes_on, parts_begin, parts_end, one_fails, list_goes_on, first_fails, list_begins, close_fails, list_ends, reference_done}
use Rattle.pli_parse_expression.proofs.expression.+expression.Goals as goal

pub right_of-returns-then-operators-ge-OPERATOR_LIMIT-clause-value : goal.right_of-returns-then-operators-ge-OPERATOR_LIMIT-clause-value
right_of-returns-then-operators-ge-OPERATOR_LIMIT-clause-value t c = λ bound small.
    rw c.fault.ensures (too_many (operand_at c.args.levels) bound c.args.operator c.args.operators c.args.at c.args.tail.now (omega arith))

pub right_of-returns-in_err-operand-clause-value : goal.right_of-returns-in_err-operand-clause-value
right_of-returns-in_err-operand-clause-value t c = λ bound small.
    let p = err_from_is_err_and c.from_residual.result c.from_residual.ensures.1 in
    rw (p.1, p.2) (operand_fails (operand_at c.args.levels) bound c.args.operator c.args.operators c.args.at c.args.tail.now c.in_err-operand.field-0.0 (omega arith) c.in_err-operand.ensures.value)

pub right_of-returns-clause-value : goal.right_of-returns-clause-value
right_of-returns-clause-value t c = λ bound small.
    let e = right_goes_on (operand_at c.args.levels) bound c.args.operator c.args.operators c.args.at c.args.tail.now (front_view (counted_view expression_view) c.in_ok-operand.operand) (c.level_of.result + 1) (omega arith)
    (ap (λ n. n + 1) c.level_of.ensures.value) c.in_ok-operand.ensures.value in
    rw e (c.infix_from.ensures.value bound (omega (arith, c.in_ok-operand.ensures.place)))

pub infix_from-returns-in_err-right-clause-value : goal.infix_from-returns-in_err-right-clause-value
infix_from-returns-in_err-right-clause-value t c = λ bound small.
    let p = err_from_is_err_and c.from_residual.result c.from_residual.ensures.1 in
    rw (p.1, p.2)
    (right_fails (operand_at c.args.levels) c.args.min c.loop-operator.operators (expression_view c.loop-operator.sum) c.loop-operator.next c.loop-operator.rest.now (c.in-Some.operator, c.in-Some.tail.now)
    (infix_from (operand_at c.args.levels) bound c.args.min c.args.operators (expression_view c.args.left) c.args.at c.args.texts.now) c.in-Some.ensures.value
    c.in_err-right.field-0.0 (omega (arith, c.in-Some.ensures.place)) c.in_err-right.ensures.value (c.loop-operator.invariant.value bound small))

pub infix_from-loop-operator-preserved : goal.infix_from-loop-operator-preserved
infix_from-loop-operator-preserved t c =
    record {
      value = λ bound small.
          rw c.in_ok-sum.ensures
          (goes_on (operand_at c.args.levels) c.args.min c.loop-operator.operators (expression_view c.loop-operator.sum) c.loop-operator.next c.loop-operator.rest.now (c.in-Some.operator, c.in-Some.tail.now)
          (infix_from (operand_at c.args.levels) bound c.args.min c.args.operators (expression_view c.args.left) c.args.at c.args.texts.now) c.in-Some.ensures.value
          (front_view (counted_view expression_view) c.in_ok-right.right) (omega (arith, c.in-Some.ensures.place)) (omega (arith, c.in_ok-right.ensures.place, c.in-Some.ensures.place)) c.in_ok-right.ensures.value
          (c.loop-operator.invariant.value bound small));
      place = (omega (arith, c.in_ok-right.ensures.place, c.in-Some.ensures.place), omega (arith, c.in_ok-right.ensures.place, c.in-Some.ensures.place));
    }

pub infix_from-returns-clause-value : goal.infix_from-returns-clause-value
infix_from-returns-clause-value t c = λ bound small.
    rw c.front.ensures
    (operators_end (operand_at c.args.levels) c.args.min c.loop-operator.operators (expression_view c.loop-operator.sum) c.loop-operator.next c.loop-operator.rest.now
    (infix_from (operand_at c.args.levels) bound c.args.min c.args.operators (expression_view c.args.left) c.args.at c.args.texts.now) c.in_default.ensures.value (c.loop-operator.invariant.value bound small))

pub joined_from-loop-joining-init : goal.joined_from-loop-joining-init
joined_from-loop-joining-init t c =
    record {
      value = λ bound small. parts_begin (option_map (argument_of c.args.outermost) (inside c.args.levels)) c.new-parts.result.items bound c.args.operators c.args.at c.args.texts.now c.new-parts.ensures.items small;
      place = (omega arith, refl);
    }

pub joined_from-returns-in_default-name_first-clause-value : goal.joined_from-returns-in_default-name_first-clause-value
joined_from-returns-in_default-name_first-clause-value t c = λ bound small.
    rw c.misfit.ensures
    (no_name (option_map (argument_of c.args.outermost) (inside c.args.levels)) c.loop-joining.parts.items c.loop-joining.operators c.loop-joining.next c.loop-joining.rest.now (c.in-Some.joining, c.in-Some.tail.now)
    (joined_from (option_map (argument_of c.args.outermost) (inside c.args.levels)) bound c.args.operators c.args.at c.args.texts.now) c.in-Some.ensures.value
    c.in_default-name_first.ensures.value (c.loop-joining.invariant.value bound small))

pub joined_from-returns-in_err-list-clause-value : goal.joined_from-returns-in_err-list-clause-value
joined_from-returns-in_err-list-clause-value t c = λ bound small.
    let p = err_from_is_err_and c.from_residual.result c.from_residual.ensures.1 in
    rw (p.1, p.2)
    (arguments_fail (option_map (argument_of c.args.outermost) (inside c.args.levels)) c.loop-joining.parts.items c.loop-joining.operators c.loop-joining.next c.loop-joining.rest.now (c.in-Some.joining, c.in-Some.tail.now)
    (joined_from (option_map (argument_of c.args.outermost) (inside c.args.levels)) bound c.args.operators c.args.at c.args.texts.now) c.in-Some.ensures.value
    (c.in-Some-name_first.named.0, c.in-Some-name_first.named.1.now) c.in-Some-name_first.ensures.value c.in_err-list.field-0.0 c.in_err-list.ensures.value (c.loop-joining.invariant.value bound small))

pub joined_from-loop-joining-preserved : goal.joined_from-loop-joining-preserved
joined_from-loop-joining-preserved t c =
    let x = roll-JoinedPart (record { joining = c.in-Some.joining; part = roll-Part (record { name = record { name = c.in-Some-name_first.named.0; at = c.loop-joining.next + 1 }; arguments = c.in_ok-list.list.value.tree }) }) in
    record {
      value = λ bound small.
          rw c.in_ok-push.ensures.items
          (part_goes_on (option_map (argument_of c.args.outermost) (inside c.args.levels)) c.loop-joining.parts.items c.loop-joining.operators c.loop-joining.next c.loop-joining.rest.now (c.in-Some.joining, c.in-Some.tail.now)
          (joined_from (option_map (argument_of c.args.outermost) (inside c.args.levels)) bound c.args.operators c.args.at c.args.texts.now) c.in-Some.ensures.value
          (c.in-Some-name_first.named.0, c.in-Some-name_first.named.1.now) c.in-Some-name_first.ensures.value x (front_view (counted_view arguments_view) c.in_ok-list.list) refl c.in_ok-list.ensures.value
          (omega (arith, c.in_ok-list.ensures.place, c.in-Some-name_first.ensures.place, c.in-Some.ensures.place)) (c.loop-joining.invariant.value bound small));
      place = (
        omega (arith, c.in_ok-list.ensures.place, c.in-Some-name_first.ensures.place, c.in-Some.ensures.place),
        omega (arith, c.in_ok-list.ensures.place, c.in-Some-name_first.ensures.place, c.in-Some.ensures.place),
      );
    }

pub joined_from-returns-clause-value : goal.joined_from-returns-clause-value
joined_from-returns-clause-value t c = λ bound small.
    rw c.front.ensures
    (parts_end (option_map (argument_of c.args.outermost) (inside c.args.levels)) c.loop-joining.parts.items c.loop-joining.operators c.loop-joining.next c.loop-joining.rest.now
    (joined_from (option_map (argument_of c.args.outermost) (inside c.args.levels)) bound c.args.operators c.args.at c.args.texts.now) c.in_default.ensures.value (c.loop-joining.invariant.value bound small))

pub listed_at-returns-in_err-first-clause-value : goal.listed_at-returns-in_err-first-clause-value
listed_at-returns-in_err-first-clause-value t c =
    let p = err_from_is_err_and c.from_residual.result c.from_residual.ensures.1 in
    rw (p.1, p.2) (first_fails (argument_of c.args.outermost (operand_at c.args.levels)) c.args.operators c.args.at c.args.texts.now c.in_err-first.field-0.0 c.in_err-first.ensures.value)

pub listed_at-loop-tail-init : goal.listed_at-loop-tail-init
listed_at-loop-tail-init t c =
    let e : c.push.new.self.items ≡ c.in_ok-first.first.value.tree ∷ [] = c.in_ok-push.ensures.items ∙ ap (λ es. es ++ c.in_ok-first.first.value.tree ∷ []) c.new-list.ensures.items in
    record {
      value = list_begins (argument_of c.args.outermost (operand_at c.args.levels)) c.args.operators c.args.at c.args.texts.now c.push.new.self.items c.in_ok-first.first.value.tree
          (front_view (counted_view expression_view) c.in_ok-first.first) e refl c.in_ok-first.ensures.value;
      place = (omega (arith, c.in_ok-first.ensures.place), omega (arith, c.in_ok-first.ensures.place));
    }

pub listed_at-returns-in_err-one-clause-value : goal.listed_at-returns-in_err-one-clause-value
listed_at-returns-in_err-one-clause-value t c =
    let p = err_from_is_err_and c.from_residual-in_err-one.result c.from_residual-in_err-one.ensures.1 in
    rw (p.1, p.2)
    (one_fails (argument_of c.args.outermost (operand_at c.args.levels)) c.loop-tail.list.items c.loop-tail.operators c.loop-tail.next c.loop-tail.rest.now c.in-Some.tail.now
    (listed_at (argument_of c.args.outermost (operand_at c.args.levels)) c.args.operators c.args.at c.args.texts.now) c.in-Some.ensures.value c.in_err-one.field-0.0 c.in_err-one.ensures.value c.loop-tail.invariant.value)

pub listed_at-loop-tail-preserved : goal.listed_at-loop-tail-preserved
listed_at-loop-tail-preserved t c =
    record {
      value = rw c.in_ok-push-2.ensures.items
          (list_goes_on (argument_of c.args.outermost (operand_at c.args.levels)) c.loop-tail.list.items c.loop-tail.operators c.loop-tail.next c.loop-tail.rest.now c.in-Some.tail.now
          (listed_at (argument_of c.args.outermost (operand_at c.args.levels)) c.args.operators c.args.at c.args.texts.now) c.in-Some.ensures.value c.in_ok-one.one.value.tree (front_view (counted_view expression_view) c.in_ok-one.one)
          refl c.in_ok-one.ensures.value (omega (arith, c.in_ok-one.ensures.place, c.in-Some.ensures.place)) c.loop-tail.invariant.value);
      place = (omega (arith, c.in_ok-one.ensures.place, c.in-Some.ensures.place), omega (arith, c.in_ok-one.ensures.place, c.in-Some.ensures.place));
    }

pub listed_at-returns-in_err-tail-clause-value : goal.listed_at-returns-in_err-tail-clause-value
listed_at-returns-in_err-tail-clause-value t c =
    let p = err_from_is_err_and c.from_residual-in_err-tail.result c.from_residual-in_err-tail.ensures.1 in
    rw (p.1, p.2)
    (close_fails (argument_of c.args.outermost (operand_at c.args.levels)) c.loop-tail.list.items c.loop-tail.operators c.loop-tail.next c.loop-tail.rest.now
    (listed_at (argument_of c.args.outermost (operand_at c.args.levels)) c.args.operators c.args.at c.args.texts.now) c.in_default.ensures.value c.in_err-tail.field-0.0 c.in_err-tail.ensures.value c.loop-tail.invariant.value)

pub listed_at-returns-clause-value : goal.listed_at-returns-clause-value
listed_at-returns-clause-value t c =
    rw c.front.ensures
    (list_ends (argument_of c.args.outermost (operand_at c.args.levels)) c.loop-tail.list.items c.loop-tail.operators c.loop-tail.next c.loop-tail.rest.now
    (listed_at (argument_of c.args.outermost (operand_at c.args.levels)) c.args.operators c.args.at c.args.texts.now) c.in_default.ensures.value c.in_ok-tail.tail.now c.in_ok-tail.ensures.value c.loop-tail.invariant.value)

pub reference_of-returns-clause-value : goal.reference_of-returns-clause-value
reference_of-returns-clause-value t c =
    rw c.front.ensures
    (reference_done (option_map (argument_of c.args.outermost) (inside c.args.levels)) c.args.operators c.args.at c.args.texts.now (c.in-Some.named.0, c.in-Some.named.1.now) (front_view (counted_view arguments_view) c.in_ok-list.list)
    (front_view (counted_view (λ (v : Vec JoinedPart Global). joined_view v.items)) c.in_ok-joined.joined) c.in-Some.ensures.value c.in_ok-list.ensures.value c.in_ok-joined.ensures.value
    ∙ ap (λ v. counted v (c.in_ok-joined.joined.value.count) (c.in_ok-joined.joined.next) (c.in_ok-joined.joined.rest.now))
    (sym (reference_made (record { name = c.in-Some.named.0; at = c.args.at }) c.in_ok-list.list.value.tree c.in_ok-joined.joined.value.tree)))
