-- The worked examples compute.
use Rattle.std.proofs.Common.{refl}
use Rattle.pli_parse_declaration.specs.examples.DeclarationExamples.{NameThatIsKeyword, Levels, Nest, Asterisks, NoAsteriskAfterColon, NoAsteriskAsPrecision, Values, WrongWord, NoLevelInParentheses, NoScaleButZero, NoFactorOfString, NoDescription, NoDescriptionAfterComma, NoAttributeInNest, TextEnds}
use Rattle.pli_parse_declaration.specs.DeclarationWords.{data_word, storage_word, nesting_word, attribute_word, attribute_first, begins_description}
use Rattle.pli_parse_declaration.specs.DeclarationReading.{listed_at, number_at, integer_at, bounds_at, dimensions_at, extent_at, length_at, scaled_at, precision_at, name_at, identifier_at, area_at, locator_at, repeated_at, value_at, values_at, simple_of, description_walk, word_walk, after_attributes_walk, step_at, walked, nest_at, described_at, parameter_at, parameters_at, entry_at, returned_at, attribute_at, attributes_at, level_at, names_at, item_at, declaration_at}
use Rattle.pli_base.specs.Words.{rest_after, name_first}
use Rattle.pli_base.specs.Reading.{misfit, taken}

pub name_that_is_keyword : NameThatIsKeyword
unfolding data_word storage_word nesting_word attribute_word attribute_first rest_after name_first begins_description misfit taken listed_at number_at integer_at bounds_at dimensions_at extent_at length_at scaled_at precision_at name_at identifier_at area_at locator_at repeated_at value_at values_at simple_of description_walk word_walk after_attributes_walk step_at walked nest_at described_at parameter_at parameters_at entry_at returned_at attribute_at attributes_at level_at names_at item_at declaration_at
name_that_is_keyword = refl

pub levels : Levels
unfolding data_word storage_word nesting_word attribute_word attribute_first rest_after name_first begins_description misfit taken listed_at number_at integer_at bounds_at dimensions_at extent_at length_at scaled_at precision_at name_at identifier_at area_at locator_at repeated_at value_at values_at simple_of description_walk word_walk after_attributes_walk step_at walked nest_at described_at parameter_at parameters_at entry_at returned_at attribute_at attributes_at level_at names_at item_at declaration_at
levels = refl

pub nest : Nest
unfolding data_word storage_word nesting_word attribute_word attribute_first rest_after name_first begins_description misfit taken listed_at number_at integer_at bounds_at dimensions_at extent_at length_at scaled_at precision_at name_at identifier_at area_at locator_at repeated_at value_at values_at simple_of description_walk word_walk after_attributes_walk step_at walked nest_at described_at parameter_at parameters_at entry_at returned_at attribute_at attributes_at level_at names_at item_at declaration_at
nest = refl

pub asterisks : Asterisks
unfolding data_word storage_word nesting_word attribute_word attribute_first rest_after name_first begins_description misfit taken listed_at number_at integer_at bounds_at dimensions_at extent_at length_at scaled_at precision_at name_at identifier_at area_at locator_at repeated_at value_at values_at simple_of description_walk word_walk after_attributes_walk step_at walked nest_at described_at parameter_at parameters_at entry_at returned_at attribute_at attributes_at level_at names_at item_at declaration_at
asterisks = refl

pub no_asterisk_after_colon : NoAsteriskAfterColon
unfolding data_word storage_word nesting_word attribute_word attribute_first rest_after name_first begins_description misfit taken listed_at number_at integer_at bounds_at dimensions_at extent_at length_at scaled_at precision_at name_at identifier_at area_at locator_at repeated_at value_at values_at simple_of description_walk word_walk after_attributes_walk step_at walked nest_at described_at parameter_at parameters_at entry_at returned_at attribute_at attributes_at level_at names_at item_at declaration_at
no_asterisk_after_colon = refl

pub no_asterisk_as_precision : NoAsteriskAsPrecision
unfolding data_word storage_word nesting_word attribute_word attribute_first rest_after name_first begins_description misfit taken listed_at number_at integer_at bounds_at dimensions_at extent_at length_at scaled_at precision_at name_at identifier_at area_at locator_at repeated_at value_at values_at simple_of description_walk word_walk after_attributes_walk step_at walked nest_at described_at parameter_at parameters_at entry_at returned_at attribute_at attributes_at level_at names_at item_at declaration_at
no_asterisk_as_precision = refl

pub values : Values
unfolding data_word storage_word nesting_word attribute_word attribute_first rest_after name_first begins_description misfit taken listed_at number_at integer_at bounds_at dimensions_at extent_at length_at scaled_at precision_at name_at identifier_at area_at locator_at repeated_at value_at values_at simple_of description_walk word_walk after_attributes_walk step_at walked nest_at described_at parameter_at parameters_at entry_at returned_at attribute_at attributes_at level_at names_at item_at declaration_at
values = refl

pub wrong_word : WrongWord
unfolding data_word storage_word nesting_word attribute_word attribute_first rest_after name_first begins_description misfit taken listed_at number_at integer_at bounds_at dimensions_at extent_at length_at scaled_at precision_at name_at identifier_at area_at locator_at repeated_at value_at values_at simple_of description_walk word_walk after_attributes_walk step_at walked nest_at described_at parameter_at parameters_at entry_at returned_at attribute_at attributes_at level_at names_at item_at declaration_at
wrong_word = refl

pub no_level_in_parentheses : NoLevelInParentheses
unfolding data_word storage_word nesting_word attribute_word attribute_first rest_after name_first begins_description misfit taken listed_at number_at integer_at bounds_at dimensions_at extent_at length_at scaled_at precision_at name_at identifier_at area_at locator_at repeated_at value_at values_at simple_of description_walk word_walk after_attributes_walk step_at walked nest_at described_at parameter_at parameters_at entry_at returned_at attribute_at attributes_at level_at names_at item_at declaration_at
no_level_in_parentheses = refl

pub no_scale_but_zero : NoScaleButZero
unfolding data_word storage_word nesting_word attribute_word attribute_first rest_after name_first begins_description misfit taken listed_at number_at integer_at bounds_at dimensions_at extent_at length_at scaled_at precision_at name_at identifier_at area_at locator_at repeated_at value_at values_at simple_of description_walk word_walk after_attributes_walk step_at walked nest_at described_at parameter_at parameters_at entry_at returned_at attribute_at attributes_at level_at names_at item_at declaration_at
no_scale_but_zero = refl

pub no_factor_of_string : NoFactorOfString
unfolding data_word storage_word nesting_word attribute_word attribute_first rest_after name_first begins_description misfit taken listed_at number_at integer_at bounds_at dimensions_at extent_at length_at scaled_at precision_at name_at identifier_at area_at locator_at repeated_at value_at values_at simple_of description_walk word_walk after_attributes_walk step_at walked nest_at described_at parameter_at parameters_at entry_at returned_at attribute_at attributes_at level_at names_at item_at declaration_at
no_factor_of_string = refl

pub no_description : NoDescription
unfolding data_word storage_word nesting_word attribute_word attribute_first rest_after name_first begins_description misfit taken listed_at number_at integer_at bounds_at dimensions_at extent_at length_at scaled_at precision_at name_at identifier_at area_at locator_at repeated_at value_at values_at simple_of description_walk word_walk after_attributes_walk step_at walked nest_at described_at parameter_at parameters_at entry_at returned_at attribute_at attributes_at level_at names_at item_at declaration_at
no_description = refl

pub no_description_after_comma : NoDescriptionAfterComma
unfolding data_word storage_word nesting_word attribute_word attribute_first rest_after name_first begins_description misfit taken listed_at number_at integer_at bounds_at dimensions_at extent_at length_at scaled_at precision_at name_at identifier_at area_at locator_at repeated_at value_at values_at simple_of description_walk word_walk after_attributes_walk step_at walked nest_at described_at parameter_at parameters_at entry_at returned_at attribute_at attributes_at level_at names_at item_at declaration_at
no_description_after_comma = refl

pub no_attribute_in_nest : NoAttributeInNest
unfolding data_word storage_word nesting_word attribute_word attribute_first rest_after name_first begins_description misfit taken listed_at number_at integer_at bounds_at dimensions_at extent_at length_at scaled_at precision_at name_at identifier_at area_at locator_at repeated_at value_at values_at simple_of description_walk word_walk after_attributes_walk step_at walked nest_at described_at parameter_at parameters_at entry_at returned_at attribute_at attributes_at level_at names_at item_at declaration_at
no_attribute_in_nest = refl

pub text_ends : TextEnds
unfolding data_word storage_word nesting_word attribute_word attribute_first rest_after name_first begins_description misfit taken listed_at number_at integer_at bounds_at dimensions_at extent_at length_at scaled_at precision_at name_at identifier_at area_at locator_at repeated_at value_at values_at simple_of description_walk word_walk after_attributes_walk step_at walked nest_at described_at parameter_at parameters_at entry_at returned_at attribute_at attributes_at level_at names_at item_at declaration_at
text_ends = refl
