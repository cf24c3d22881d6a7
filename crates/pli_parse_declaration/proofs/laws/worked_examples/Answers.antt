use Rattle.pli_parse_declaration.proofs.DeclarationExamples.{name_that_is_keyword, levels, nest, asterisks, no_asterisk_after_colon, no_asterisk_as_precision, values, wrong_word, no_level_in_parentheses, no_scale_but_zero, no_factor_of_string, no_description, no_description_after_comma, no_attribute_in_nest, text_ends}
use Rattle.pli_parse_declaration.proofs.laws.worked_examples.Goals as goal

pub returns : goal.returns
returns c =
    record {
      name_that_is_keyword = name_that_is_keyword;
      levels = levels;
      nest = nest;
      asterisks = asterisks;
      no_asterisk_after_colon = no_asterisk_after_colon;
      no_asterisk_as_precision = no_asterisk_as_precision;
      values = values;
      wrong_word = wrong_word;
      no_level_in_parentheses = no_level_in_parentheses;
      no_scale_but_zero = no_scale_but_zero;
      no_factor_of_string = no_factor_of_string;
      no_description = no_description;
      no_description_after_comma = no_description_after_comma;
      no_attribute_in_nest = no_attribute_in_nest;
      text_ends = text_ends;
    }
