-- The worked examples compute: each opens what its tokens are read by, and no more.
use Rattle.std.proofs.Common.{refl}
use Rattle.pli_base.specs.Words.{rest_after, name_first}
use Rattle.pli_base.specs.Reading.{misfit, taken, misplaced}
use Rattle.pli_parse_expression.specs.Assignments.{accepts, is_assignment}
use Rattle.pli_parse_expression.specs.Operators.{operator_at, joining_at, begins_expression}
use Rattle.pli_parse_expression.specs.Reading.{infix_from, expression_of, further_from, list_at, arguments_at}
use Rattle.pli_parse_expression.specs.Reading.{joined_from, reference_of, parenthesis_of, constant_at}
use Rattle.pli_parse_expression.specs.Reading.{operand_of, inside, expression_at, reference_at}
use Rattle.pli_parse_expression.specs.Reading as expressions
use Rattle.pli_parse_declaration.specs.DeclarationWords.{data_word, attribute_word, attribute_first}
use Rattle.pli_parse_declaration.specs.DeclarationReading.{listed_at, number_at, integer_at, bounds_at}
use Rattle.pli_parse_declaration.specs.DeclarationReading.{dimensions_at, length_at, name_at, identifier_at}
use Rattle.pli_parse_declaration.specs.DeclarationReading.{simple_of, described_at, returned_at, attribute_at}
use Rattle.pli_parse_declaration.specs.DeclarationReading.{attributes_at, level_at, names_at, item_at}
use Rattle.pli_parse_declaration.specs.DeclarationReading.{declaration_at}
use Rattle.pli_parse_statement.specs.StatementWords.{keyword_of, condition_of, after_word, up_to_semicolon}
use Rattle.pli_parse_statement.specs.StatementWords.{begins_assignment, first_kind, kind_of}
use Rattle.pli_parse_statement.specs.StatementReading.{expression_in, reference_in, stopped, parenthesized}
use Rattle.pli_parse_statement.specs.StatementReading.{assignment_at, condition_at, optional_at, range_word}
use Rattle.pli_parse_statement.specs.StatementReading.{range_first, range_at, specified, control_at}
use Rattle.pli_parse_statement.specs.StatementReading.{place_word, place_first, places_from, allocation_at}
use Rattle.pli_parse_statement.specs.StatementReading.{put_word, put_first, put_from, put_at, call_at}
use Rattle.pli_parse_statement.specs.StatementReading.{option_word, option_first, main_at, options_from}
use Rattle.pli_parse_statement.specs.StatementReading.{heading_at, has_semicolon, label_at, ending_at}
use Rattle.pli_parse_statement.specs.StatementReading.{next_of, list_from, else_first, if_at, on_at, do_at}
use Rattle.pli_parse_statement.specs.StatementReading.{begin_at, procedure_at, statement_of, inside_of}
use Rattle.pli_parse_statement.specs.StatementReading.{external_at, unit_of}
use Rattle.pli_parse.specs.examples.StatementExamples.{KeywordsOfIf, KeywordsOfDo, KeywordsOfPut}
use Rattle.pli_parse.specs.examples.StatementExamples.{LabelThatIsKeyword, DeclareAssigned, NearestIf}
use Rattle.pli_parse.specs.examples.StatementExamples.{ElseOfBoth, ElseAssigned, ElseLabel, LabelledGroup}
use Rattle.pli_parse.specs.examples.StatementExamples.{UnitOfGoTo, SetBeforeIn, WholeUnit, NoText}
use Rattle.pli_parse.specs.examples.StatementExamples.{NoProcedureWord, NoSemicolon, NoSemicolonAhead}
use Rattle.pli_parse.specs.examples.StatementExamples.{TextAfterUnit, NoValue, GoAlone, NoItem, ListNotClosed}
use Rattle.pli_parse.specs.examples.StatementExamples.{NumberAfterDo, NumberAfterGoto, NoThen}
use Rattle.pli_parse.specs.examples.StatementExamples.{NameOfNoLabel, BlockNotEnded, NoEquals, NoResult}
use Rattle.pli_parse.specs.examples.StatementExamples.{NameAsBound, TwoLabels, LabelOfEnd}
use Rattle.pli_parse.specs.examples.StatementExamples.{ProcedureWithoutLabel, NoCondition, ReturnInOnUnit}
use Rattle.pli_parse.specs.examples.StatementExamples.{DeclareAfterThen, ProcedureInGroup, NoPutOption}
use Rattle.pli_parse.specs.examples.StatementExamples.{TwoSkips, GroupTooDeep, ConditionTooDeep, ByBeforeTo}
use Rattle.pli_parse.specs.examples.StatementExamples.{NumbersInBlock, DeepestGroup, WhileAssigned}
use Rattle.pli_parse.specs.examples.StatementExamples.{NoProcedureOption, NoMain, TwoAreas, LabelAfterThen}
use Rattle.pli_parse.specs.examples.StatementExamples.{EndAfterThen, StrayElse, IfAfterOn, LabelOfDeclare}
use Rattle.pli_parse.specs.examples.StatementExamples.{NoReturnedValue, NameOfOuterLabel, EndNotEnded}

pub keywords_of_if : KeywordsOfIf
unfolding expression_in reference_in stopped assignment_at has_semicolon label_at else_first if_at
    statement_of inside_of keyword_of after_word up_to_semicolon begins_assignment first_kind kind_of
    infix_from expression_of arguments_at joined_from reference_of operand_of expression_at reference_at
    operator_at joining_at accepts is_assignment taken rest_after name_first
keywords_of_if = refl

pub keywords_of_do : KeywordsOfDo
unfolding expression_in reference_in stopped optional_at range_word range_first range_at specified control_at
    has_semicolon label_at ending_at next_of list_from do_at statement_of inside_of keyword_of after_word
    up_to_semicolon begins_assignment first_kind kind_of infix_from expression_of arguments_at joined_from
    reference_of constant_at operand_of expression_at reference_at operator_at joining_at accepts is_assignment
    taken rest_after name_first
keywords_of_do = refl

pub keywords_of_put : KeywordsOfPut
unfolding expression_in stopped parenthesized put_word put_first put_from put_at has_semicolon label_at
    statement_of keyword_of up_to_semicolon begins_assignment first_kind kind_of listed_at infix_from
    expression_of arguments_at joined_from reference_of operand_of expression_at operator_at joining_at accepts
    is_assignment taken rest_after name_first
keywords_of_put = refl

pub label_that_is_keyword : LabelThatIsKeyword
unfolding has_semicolon label_at statement_of up_to_semicolon begins_assignment first_kind kind_of accepts
    is_assignment
label_that_is_keyword = refl

pub declare_assigned : DeclareAssigned
unfolding expression_in reference_in stopped assignment_at has_semicolon label_at statement_of up_to_semicolon
    begins_assignment kind_of infix_from expression_of further_from expressions.listed_at list_at arguments_at
    joined_from reference_of constant_at operand_of inside expression_at reference_at operator_at joining_at
    begins_expression accepts is_assignment taken rest_after name_first
declare_assigned = refl

pub nearest_if : NearestIf
unfolding expression_in has_semicolon label_at else_first if_at statement_of inside_of keyword_of after_word
    up_to_semicolon begins_assignment first_kind kind_of infix_from expression_of arguments_at joined_from
    reference_of operand_of expression_at operator_at joining_at accepts is_assignment taken rest_after name_first
nearest_if = refl

pub else_of_both : ElseOfBoth
unfolding expression_in stopped has_semicolon label_at else_first if_at statement_of inside_of keyword_of
    after_word up_to_semicolon begins_assignment first_kind kind_of infix_from expression_of arguments_at
    joined_from reference_of operand_of expression_at operator_at joining_at accepts is_assignment taken rest_after
    name_first
else_of_both = refl

pub else_assigned : ElseAssigned
unfolding expression_in has_semicolon label_at else_first if_at statement_of inside_of keyword_of
    up_to_semicolon begins_assignment first_kind kind_of infix_from expression_of arguments_at joined_from
    reference_of operand_of expression_at operator_at joining_at accepts is_assignment taken rest_after name_first
else_assigned = refl

pub else_label : ElseLabel
unfolding expression_in has_semicolon label_at else_first if_at statement_of inside_of keyword_of
    up_to_semicolon begins_assignment first_kind kind_of infix_from expression_of arguments_at joined_from
    reference_of operand_of expression_at operator_at joining_at accepts is_assignment taken rest_after name_first
else_label = refl

pub labelled_group : LabelledGroup
unfolding expression_in stopped parenthesized specified control_at has_semicolon label_at ending_at next_of
    list_from do_at begin_at statement_of inside_of keyword_of up_to_semicolon begins_assignment first_kind
    kind_of listed_at dimensions_at length_at name_at identifier_at simple_of attribute_at attributes_at
    level_at names_at item_at declaration_at data_word attribute_word attribute_first infix_from expression_of
    arguments_at joined_from reference_of operand_of expression_at operator_at joining_at accepts is_assignment
    taken rest_after name_first
labelled_group = refl

pub unit_of_go_to : UnitOfGoTo
unfolding stopped condition_at has_semicolon label_at on_at statement_of inside_of keyword_of condition_of
    after_word up_to_semicolon begins_assignment first_kind kind_of name_at identifier_at accepts is_assignment
    taken rest_after name_first
unit_of_go_to = refl

pub set_before_in : SetBeforeIn
unfolding reference_in stopped parenthesized place_word place_first places_from allocation_at has_semicolon
    label_at statement_of keyword_of up_to_semicolon begins_assignment first_kind kind_of listed_at name_at
    identifier_at arguments_at joined_from reference_of reference_at joining_at accepts is_assignment taken
    rest_after name_first
set_before_in = refl

pub whole_unit : WholeUnit
unfolding expression_in stopped parenthesized put_word put_first put_from put_at option_word option_first
    main_at options_from heading_at has_semicolon label_at ending_at next_of list_from procedure_at statement_of
    inside_of external_at unit_of keyword_of up_to_semicolon begins_assignment first_kind kind_of listed_at
    length_at name_at identifier_at simple_of described_at returned_at data_word attribute_word attribute_first
    infix_from expression_of arguments_at joined_from reference_of operand_of expression_at operator_at
    joining_at accepts is_assignment taken misplaced rest_after name_first
whole_unit = refl

pub no_text : NoText
unfolding unit_of misplaced
no_text = refl

pub no_procedure_word : NoProcedureWord
unfolding unit_of misplaced
no_procedure_word = refl

pub no_semicolon : NoSemicolon
unfolding has_semicolon unit_of misplaced
no_semicolon = refl

pub no_semicolon_ahead : NoSemicolonAhead
unfolding stopped option_first options_from heading_at has_semicolon next_of list_from statement_of inside_of
    external_at unit_of taken misplaced rest_after
no_semicolon_ahead = refl

pub text_after_unit : TextAfterUnit
unfolding stopped option_first options_from heading_at has_semicolon label_at ending_at next_of list_from
    inside_of external_at unit_of keyword_of up_to_semicolon begins_assignment first_kind kind_of accepts
    is_assignment taken misplaced rest_after
text_after_unit = refl

pub no_value : NoValue
unfolding has_semicolon label_at statement_of keyword_of up_to_semicolon begins_assignment first_kind kind_of
    accepts is_assignment
no_value = refl

pub go_alone : GoAlone
unfolding has_semicolon label_at statement_of keyword_of after_word up_to_semicolon begins_assignment
    first_kind kind_of accepts is_assignment
go_alone = refl

pub no_item : NoItem
unfolding expression_in parenthesized put_word put_first put_from put_at has_semicolon label_at statement_of
    keyword_of up_to_semicolon begins_assignment first_kind kind_of listed_at expression_of constant_at
    operand_of expression_at accepts is_assignment misfit taken rest_after
no_item = refl

pub list_not_closed : ListNotClosed
unfolding expression_in parenthesized put_word put_first put_from put_at has_semicolon label_at statement_of
    keyword_of up_to_semicolon begins_assignment first_kind kind_of listed_at infix_from expression_of
    constant_at operand_of expression_at operator_at accepts is_assignment misfit taken rest_after
list_not_closed = refl

pub number_after_do : NumberAfterDo
unfolding specified control_at has_semicolon label_at do_at statement_of inside_of keyword_of up_to_semicolon
    begins_assignment first_kind kind_of accepts is_assignment misfit taken rest_after
number_after_do = refl

pub number_after_goto : NumberAfterGoto
unfolding has_semicolon label_at statement_of keyword_of up_to_semicolon begins_assignment first_kind kind_of
    name_at identifier_at accepts is_assignment misfit name_first
number_after_goto = refl

pub no_then : NoThen
unfolding expression_in has_semicolon label_at if_at statement_of inside_of keyword_of up_to_semicolon
    begins_assignment first_kind kind_of infix_from expression_of arguments_at joined_from reference_of
    operand_of expression_at operator_at joining_at accepts is_assignment misfit taken rest_after name_first
no_then = refl

pub name_of_no_label : NameOfNoLabel
unfolding has_semicolon label_at ending_at next_of list_from begin_at statement_of inside_of keyword_of
    up_to_semicolon begins_assignment first_kind kind_of accepts is_assignment taken rest_after
name_of_no_label = refl

pub block_not_ended : BlockNotEnded
unfolding has_semicolon label_at next_of list_from begin_at statement_of inside_of keyword_of up_to_semicolon
    begins_assignment first_kind kind_of accepts is_assignment taken rest_after
block_not_ended = refl

pub no_equals : NoEquals
unfolding reference_in specified control_at has_semicolon label_at do_at statement_of inside_of keyword_of
    up_to_semicolon begins_assignment first_kind kind_of arguments_at joined_from reference_of reference_at
    joining_at accepts is_assignment misfit taken rest_after name_first
no_equals = refl

pub no_result : NoResult
unfolding option_word option_first options_from heading_at has_semicolon label_at procedure_at statement_of
    inside_of keyword_of up_to_semicolon begins_assignment first_kind kind_of listed_at described_at returned_at
    attribute_first accepts is_assignment misfit taken rest_after
no_result = refl

pub name_as_bound : NameAsBound
unfolding has_semicolon label_at statement_of keyword_of up_to_semicolon begins_assignment first_kind kind_of
    listed_at number_at integer_at bounds_at dimensions_at name_at identifier_at level_at names_at item_at
    declaration_at accepts is_assignment misfit rest_after name_first
name_as_bound = refl

pub two_labels : TwoLabels
unfolding has_semicolon label_at statement_of
two_labels = refl

pub label_of_end : LabelOfEnd
unfolding has_semicolon label_at statement_of keyword_of up_to_semicolon begins_assignment first_kind kind_of
    accepts is_assignment
label_of_end = refl

pub procedure_without_label : ProcedureWithoutLabel
unfolding has_semicolon label_at statement_of keyword_of up_to_semicolon begins_assignment first_kind kind_of
    accepts is_assignment
procedure_without_label = refl

pub no_condition : NoCondition
unfolding condition_at has_semicolon label_at on_at statement_of inside_of keyword_of condition_of
    up_to_semicolon begins_assignment first_kind kind_of accepts is_assignment
no_condition = refl

pub return_in_on_unit : ReturnInOnUnit
unfolding condition_at has_semicolon label_at next_of list_from on_at begin_at statement_of inside_of
    keyword_of condition_of up_to_semicolon begins_assignment first_kind kind_of accepts is_assignment taken
    rest_after
return_in_on_unit = refl

pub declare_after_then : DeclareAfterThen
unfolding expression_in has_semicolon label_at if_at statement_of inside_of keyword_of up_to_semicolon
    begins_assignment first_kind kind_of infix_from expression_of arguments_at joined_from reference_of
    operand_of expression_at operator_at joining_at accepts is_assignment taken rest_after name_first
declare_after_then = refl

pub procedure_in_group : ProcedureInGroup
unfolding has_semicolon label_at statement_of keyword_of up_to_semicolon begins_assignment first_kind kind_of
    accepts is_assignment
procedure_in_group = refl

pub no_put_option : NoPutOption
unfolding put_word put_first put_at has_semicolon label_at statement_of keyword_of up_to_semicolon
    begins_assignment first_kind kind_of accepts is_assignment misfit
no_put_option = refl

pub two_skips : TwoSkips
unfolding put_word put_first put_from put_at has_semicolon label_at statement_of keyword_of up_to_semicolon
    begins_assignment first_kind kind_of accepts is_assignment
two_skips = refl

pub group_too_deep : GroupTooDeep
unfolding expression_in has_semicolon label_at if_at statement_of inside_of keyword_of up_to_semicolon
    begins_assignment first_kind kind_of infix_from expression_of arguments_at joined_from reference_of
    operand_of expression_at operator_at joining_at accepts is_assignment taken rest_after name_first
group_too_deep = refl

pub condition_too_deep : ConditionTooDeep
unfolding expression_in has_semicolon label_at if_at statement_of inside_of keyword_of up_to_semicolon
    begins_assignment first_kind kind_of expression_of parenthesis_of operand_of inside expression_at accepts
    is_assignment
condition_too_deep = refl

pub by_before_to : ByBeforeTo
unfolding expression_in reference_in stopped parenthesized optional_at range_word range_first range_at
    specified control_at has_semicolon label_at ending_at next_of list_from do_at statement_of inside_of
    keyword_of after_word up_to_semicolon begins_assignment first_kind kind_of infix_from expression_of
    arguments_at joined_from reference_of constant_at operand_of expression_at reference_at operator_at
    joining_at accepts is_assignment taken rest_after name_first
by_before_to = refl

pub numbers_in_block : NumbersInBlock
unfolding expression_in stopped condition_at call_at has_semicolon label_at ending_at next_of list_from
    else_first if_at on_at begin_at statement_of inside_of keyword_of condition_of after_word up_to_semicolon
    begins_assignment first_kind kind_of name_at identifier_at infix_from expression_of list_at arguments_at
    joined_from reference_of operand_of inside expression_at operator_at joining_at begins_expression accepts
    is_assignment taken rest_after name_first
numbers_in_block = refl

pub deepest_group : DeepestGroup
unfolding expression_in stopped specified control_at has_semicolon label_at ending_at next_of list_from
    else_first if_at do_at statement_of inside_of keyword_of after_word up_to_semicolon begins_assignment
    first_kind kind_of infix_from expression_of arguments_at joined_from reference_of operand_of expression_at
    operator_at joining_at accepts is_assignment taken rest_after name_first
deepest_group = refl

pub while_assigned : WhileAssigned
unfolding expression_in parenthesized specified control_at has_semicolon label_at do_at statement_of inside_of
    keyword_of up_to_semicolon begins_assignment first_kind kind_of infix_from expression_of arguments_at
    joined_from reference_of operand_of expression_at operator_at joining_at accepts is_assignment misfit taken
    rest_after name_first
while_assigned = refl

pub no_procedure_option : NoProcedureOption
unfolding stopped option_word option_first options_from heading_at has_semicolon label_at procedure_at
    statement_of inside_of keyword_of up_to_semicolon begins_assignment first_kind kind_of accepts is_assignment
    misfit taken rest_after
no_procedure_option = refl

pub no_main : NoMain
unfolding parenthesized option_word option_first main_at options_from heading_at has_semicolon label_at
    procedure_at statement_of inside_of keyword_of up_to_semicolon begins_assignment first_kind kind_of accepts
    is_assignment misfit taken rest_after
no_main = refl

pub two_areas : TwoAreas
unfolding reference_in parenthesized place_word place_first places_from allocation_at has_semicolon label_at
    statement_of keyword_of up_to_semicolon begins_assignment first_kind kind_of listed_at name_at identifier_at
    arguments_at joined_from reference_of reference_at joining_at accepts is_assignment taken rest_after name_first
two_areas = refl

pub label_after_then : LabelAfterThen
unfolding expression_in has_semicolon label_at if_at statement_of inside_of keyword_of up_to_semicolon
    begins_assignment first_kind kind_of infix_from expression_of arguments_at joined_from reference_of
    operand_of expression_at operator_at joining_at accepts is_assignment taken rest_after name_first
label_after_then = refl

pub end_after_then : EndAfterThen
unfolding expression_in has_semicolon label_at if_at statement_of inside_of keyword_of up_to_semicolon
    begins_assignment first_kind kind_of infix_from expression_of arguments_at joined_from reference_of
    operand_of expression_at operator_at joining_at accepts is_assignment taken rest_after name_first
end_after_then = refl

pub stray_else : StrayElse
unfolding has_semicolon label_at statement_of keyword_of up_to_semicolon begins_assignment first_kind kind_of
    accepts is_assignment
stray_else = refl

pub if_after_on : IfAfterOn
unfolding condition_at has_semicolon label_at on_at statement_of inside_of keyword_of condition_of
    up_to_semicolon begins_assignment first_kind kind_of accepts is_assignment
if_after_on = refl

pub label_of_declare : LabelOfDeclare
unfolding has_semicolon label_at statement_of keyword_of up_to_semicolon begins_assignment first_kind kind_of
    accepts is_assignment
label_of_declare = refl

pub no_returned_value : NoReturnedValue
unfolding expression_in has_semicolon label_at statement_of keyword_of up_to_semicolon begins_assignment
    first_kind kind_of expression_of constant_at operand_of expression_at accepts is_assignment misfit rest_after
no_returned_value = refl

pub name_of_outer_label : NameOfOuterLabel
unfolding specified control_at has_semicolon label_at ending_at next_of list_from do_at begin_at statement_of
    inside_of keyword_of up_to_semicolon begins_assignment first_kind kind_of accepts is_assignment taken rest_after
name_of_outer_label = refl

pub end_not_ended : EndNotEnded
unfolding stopped option_first options_from heading_at has_semicolon next_of list_from statement_of inside_of
    external_at unit_of taken misplaced rest_after
end_not_ended = refl
