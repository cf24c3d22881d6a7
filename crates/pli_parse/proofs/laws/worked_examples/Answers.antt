-- Proved answers of `worked_examples` (src/laws.rt).
use Rattle.pli_parse.proofs.WorkedExamples.{keywords_of_if, keywords_of_do, keywords_of_put}
use Rattle.pli_parse.proofs.WorkedExamples.{label_that_is_keyword, declare_assigned, nearest_if, else_of_both}
use Rattle.pli_parse.proofs.WorkedExamples.{else_assigned, else_label, labelled_group, unit_of_go_to}
use Rattle.pli_parse.proofs.WorkedExamples.{set_before_in, whole_unit, no_text, no_procedure_word}
use Rattle.pli_parse.proofs.WorkedExamples.{no_semicolon, no_semicolon_ahead, text_after_unit, no_value}
use Rattle.pli_parse.proofs.WorkedExamples.{go_alone, no_item, list_not_closed, number_after_do}
use Rattle.pli_parse.proofs.WorkedExamples.{number_after_goto, no_then, name_of_no_label, block_not_ended}
use Rattle.pli_parse.proofs.WorkedExamples.{no_equals, no_result, name_as_bound, two_labels, label_of_end}
use Rattle.pli_parse.proofs.WorkedExamples.{procedure_without_label, no_condition, return_in_on_unit}
use Rattle.pli_parse.proofs.WorkedExamples.{declare_after_then, procedure_in_group, no_put_option, two_skips}
use Rattle.pli_parse.proofs.WorkedExamples.{group_too_deep, condition_too_deep, by_before_to}
use Rattle.pli_parse.proofs.WorkedExamples.{numbers_in_block, deepest_group, while_assigned}
use Rattle.pli_parse.proofs.WorkedExamples.{no_procedure_option, no_main, two_areas, label_after_then}
use Rattle.pli_parse.proofs.WorkedExamples.{end_after_then, stray_else, if_after_on, label_of_declare}
use Rattle.pli_parse.proofs.WorkedExamples.{no_returned_value, name_of_outer_label, end_not_ended}
use Rattle.pli_parse.proofs.laws.worked_examples.Goals as goal

pub returns : goal.returns
returns c =
    record {
      keywords_of_if = keywords_of_if;
      keywords_of_do = keywords_of_do;
      keywords_of_put = keywords_of_put;
      label_that_is_keyword = label_that_is_keyword;
      declare_assigned = declare_assigned;
      nearest_if = nearest_if;
      else_of_both = else_of_both;
      else_assigned = else_assigned;
      else_label = else_label;
      labelled_group = labelled_group;
      unit_of_go_to = unit_of_go_to;
      set_before_in = set_before_in;
      whole_unit = whole_unit;
      no_text = no_text;
      no_procedure_word = no_procedure_word;
      no_semicolon = no_semicolon;
      no_semicolon_ahead = no_semicolon_ahead;
      text_after_unit = text_after_unit;
      no_value = no_value;
      go_alone = go_alone;
      no_item = no_item;
      list_not_closed = list_not_closed;
      number_after_do = number_after_do;
      number_after_goto = number_after_goto;
      no_then = no_then;
      name_of_no_label = name_of_no_label;
      block_not_ended = block_not_ended;
      no_equals = no_equals;
      no_result = no_result;
      name_as_bound = name_as_bound;
      two_labels = two_labels;
      label_of_end = label_of_end;
      procedure_without_label = procedure_without_label;
      no_condition = no_condition;
      return_in_on_unit = return_in_on_unit;
      declare_after_then = declare_after_then;
      procedure_in_group = procedure_in_group;
      no_put_option = no_put_option;
      two_skips = two_skips;
      group_too_deep = group_too_deep;
      condition_too_deep = condition_too_deep;
      by_before_to = by_before_to;
      numbers_in_block = numbers_in_block;
      deepest_group = deepest_group;
      while_assigned = while_assigned;
      no_procedure_option = no_procedure_option;
      no_main = no_main;
      two_areas = two_areas;
      label_after_then = label_after_then;
      end_after_then = end_after_then;
      stray_else = stray_else;
      if_after_on = if_after_on;
      label_of_declare = label_of_declare;
      no_returned_value = no_returned_value;
      name_of_outer_label = name_of_outer_label;
      end_not_ended = end_not_ended;
    }
