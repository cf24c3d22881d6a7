-- Proved answers of `worked_examples` (src/laws.rt).
use Rattle.pli_parse_expression.proofs.WorkedExamples.{sign_and_sum, differences, all_levels, comparisons}
use Rattle.pli_parse_expression.proofs.WorkedExamples.{alternatives, located_member, no_arguments}
use Rattle.pli_parse_expression.proofs.WorkedExamples.{in_parentheses, two_lists, text_ends, no_operand}
use Rattle.pli_parse_expression.proofs.WorkedExamples.{not_closed, no_list_there, nothing_after_comma}
use Rattle.pli_parse_expression.proofs.WorkedExamples.{no_member, nothing_located, deepest_list}
use Rattle.pli_parse_expression.proofs.WorkedExamples.{too_deep_list, too_deep_sign, last_operator}
use Rattle.pli_parse_expression.proofs.WorkedExamples.{too_many_operators, target}
use Rattle.pli_parse_expression.proofs.laws.worked_examples.Goals as goal

pub returns : goal.returns
returns c =
    record {
      sign_and_sum = sign_and_sum;
      differences = differences;
      all_levels = all_levels;
      comparisons = comparisons;
      alternatives = alternatives;
      located_member = located_member;
      no_arguments = no_arguments;
      in_parentheses = in_parentheses;
      two_lists = two_lists;
      text_ends = text_ends;
      no_operand = no_operand;
      not_closed = not_closed;
      no_list_there = no_list_there;
      nothing_after_comma = nothing_after_comma;
      no_member = no_member;
      nothing_located = nothing_located;
      deepest_list = deepest_list;
      too_deep_list = too_deep_list;
      too_deep_sign = too_deep_sign;
      last_operator = last_operator;
      too_many_operators = too_many_operators;
      target = target;
    }
