use Rattle.std.proofs.Common.{◌≡◌, ℕ, ◌+◌, ◌*◌, ◌<◌, ◌≤◌, length, option_map}
use Rattle.pli_base.specs.views.SyntaxView.{expression_view}
use Rattle.pli_parse_expression.specs.Reading.{infix_from, operand_at, inside, argument_of, listed_at, joined_from}
use Rattle.pli_parse_expression.proofs.LoopLemmas.{OperatorsLeft, PartsLeft, ListLeft}
use Rattle.pli_parse_expression.proofs.expression.+expression.Given as goal

-- Each call is on fewer tokens, or on the same with a lesser number after the sum.
abbrev pub decreases-reference_of : goal.decreases-reference_of
decreases-reference_of l = 10 * length l.texts.now

abbrev pub decreases-arguments_at : goal.decreases-arguments_at
decreases-arguments_at l = 10 * length l.texts.now

abbrev pub decreases-joined_from : goal.decreases-joined_from
decreases-joined_from l = 10 * length l.texts.now

abbrev pub decreases-infix_from : goal.decreases-infix_from
decreases-infix_from l = 10 * length l.texts.now

abbrev pub decreases-right_of : goal.decreases-right_of
decreases-right_of l = 10 * length l.tail.now + 2

abbrev pub decreases-operand_at : goal.decreases-operand_at
decreases-operand_at l = 10 * length l.texts.now + 1

abbrev pub decreases-prefix_of : goal.decreases-prefix_of
decreases-prefix_of l = 10 * length l.rest.now + 2

abbrev pub decreases-expression_at : goal.decreases-expression_at
decreases-expression_at l = 10 * length l.texts.now + 2

abbrev pub decreases-parenthesis_of : goal.decreases-parenthesis_of
decreases-parenthesis_of l = 10 * length l.rest.now + 3

abbrev pub decreases-argument_at : goal.decreases-argument_at
decreases-argument_at l = 10 * length l.texts.now + 3

abbrev pub decreases-listed_at : goal.decreases-listed_at
decreases-listed_at l = 10 * length l.texts.now + 4

abbrev pub decreases-list_at : goal.decreases-list_at
decreases-list_at l = 10 * length l.texts.now + 5

abbrev pub invariant-infix_from-loop-operator : goal.invariant-infix_from-loop-operator
invariant-infix_from-loop-operator l =
    record {
      value : (bound : ℕ) → length l.fn.texts < bound
          → OperatorsLeft (operand_at l.levels) l.min l.operators (expression_view l.sum) l.next l.rest (infix_from (operand_at l.levels) bound l.min l.fn.operators (expression_view l.fn.left) l.fn.at l.fn.texts);
      place : (l.fn.at ≤ l.next) × (l.next + length l.rest ≡ l.fn.at + length l.fn.texts);
    }

abbrev pub decreases-infix_from-loop-operator : goal.decreases-infix_from-loop-operator
decreases-infix_from-loop-operator l = length l.rest

abbrev pub invariant-joined_from-loop-joining : goal.invariant-joined_from-loop-joining
invariant-joined_from-loop-joining l =
    record {
      value : (bound : ℕ) → length l.fn.texts < bound
          → PartsLeft (option_map (argument_of l.outermost) (inside l.levels)) l.parts.items l.operators l.next l.rest
          (joined_from (option_map (argument_of l.outermost) (inside l.levels)) bound l.fn.operators l.fn.at l.fn.texts);
      place : (l.fn.at ≤ l.next) × (l.next + length l.rest ≡ l.fn.at + length l.fn.texts);
    }

abbrev pub decreases-joined_from-loop-joining : goal.decreases-joined_from-loop-joining
decreases-joined_from-loop-joining l = length l.rest

abbrev pub invariant-listed_at-loop-tail : goal.invariant-listed_at-loop-tail
invariant-listed_at-loop-tail l =
    record {
      value : ListLeft (argument_of l.outermost (operand_at l.levels)) l.list.items l.operators l.next l.rest (listed_at (argument_of l.outermost (operand_at l.levels)) l.fn.operators l.fn.at l.fn.texts);
      place : (l.fn.at < l.next) × (l.next + length l.rest ≡ l.fn.at + length l.fn.texts);
    }

abbrev pub decreases-listed_at-loop-tail : goal.decreases-listed_at-loop-tail
decreases-listed_at-loop-tail l = length l.rest
