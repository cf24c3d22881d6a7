-- The worked examples compute: each opens what its tokens are read by, and no more.
use Rattle.std.proofs.Common.{refl}
use Rattle.pli_base.specs.Words.{rest_after, name_first}
use Rattle.pli_base.specs.Reading.{misfit, taken}
use Rattle.pli_parse_expression.specs.Operators.{operator_at, joining_at, begins_expression}
use Rattle.pli_parse_expression.specs.Reading.{infix_from, expression_of, further_from, listed_at, list_at}
use Rattle.pli_parse_expression.specs.Reading.{arguments_at, joined_from, reference_of, prefix_of}
use Rattle.pli_parse_expression.specs.Reading.{parenthesis_of, constant_at, operand_of, inside, expression_at}
use Rattle.pli_parse_expression.specs.Reading.{reference_at}
use Rattle.pli_parse_expression.specs.examples.Examples.{SignAndSum, Differences, AllLevels, Comparisons}
use Rattle.pli_parse_expression.specs.examples.Examples.{Alternatives, LocatedMember, NoArguments}
use Rattle.pli_parse_expression.specs.examples.Examples.{InParentheses, TwoLists, TextEnds, NoOperand}
use Rattle.pli_parse_expression.specs.examples.Examples.{NotClosed, NoListThere, NothingAfterComma, NoMember}
use Rattle.pli_parse_expression.specs.examples.Examples.{NothingLocated, DeepestList, TooDeepList}
use Rattle.pli_parse_expression.specs.examples.Examples.{TooDeepSign, LastOperator, TooManyOperators, Target}

pub sign_and_sum : SignAndSum
unfolding infix_from expression_of arguments_at joined_from reference_of prefix_of operand_of inside
    expression_at operator_at joining_at name_first
sign_and_sum = refl

pub differences : Differences
unfolding infix_from expression_of arguments_at joined_from reference_of operand_of expression_at operator_at
    joining_at name_first
differences = refl

pub all_levels : AllLevels
unfolding infix_from expression_of arguments_at joined_from reference_of prefix_of constant_at operand_of
    inside expression_at operator_at joining_at name_first
all_levels = refl

pub comparisons : Comparisons
unfolding infix_from expression_of arguments_at joined_from reference_of operand_of expression_at operator_at
    joining_at name_first
comparisons = refl

pub alternatives : Alternatives
unfolding infix_from expression_of arguments_at joined_from reference_of operand_of expression_at operator_at
    joining_at name_first
alternatives = refl

pub located_member : LocatedMember
unfolding infix_from expression_of further_from listed_at list_at arguments_at joined_from reference_of
    operand_of inside expression_at operator_at joining_at begins_expression taken rest_after name_first
located_member = refl

pub no_arguments : NoArguments
unfolding infix_from expression_of list_at arguments_at joined_from reference_of operand_of inside
    expression_at operator_at joining_at begins_expression taken rest_after name_first
no_arguments = refl

pub in_parentheses : InParentheses
unfolding infix_from expression_of arguments_at joined_from reference_of parenthesis_of operand_of inside
    expression_at operator_at joining_at taken rest_after name_first
in_parentheses = refl

pub two_lists : TwoLists
unfolding infix_from expression_of further_from listed_at list_at arguments_at joined_from reference_of
    constant_at operand_of inside expression_at operator_at joining_at begins_expression taken rest_after name_first
two_lists = refl

pub text_ends : TextEnds
unfolding infix_from expression_of arguments_at joined_from reference_of constant_at operand_of expression_at
    operator_at joining_at misfit name_first
text_ends = refl

pub no_operand : NoOperand
unfolding infix_from expression_of arguments_at joined_from reference_of constant_at operand_of expression_at
    operator_at joining_at misfit name_first
no_operand = refl

pub not_closed : NotClosed
unfolding infix_from expression_of arguments_at joined_from reference_of parenthesis_of operand_of inside
    expression_at operator_at joining_at misfit taken rest_after name_first
not_closed = refl

pub no_list_there : NoListThere
unfolding expression_of list_at arguments_at reference_of operand_of inside expression_at begins_expression
    misfit taken rest_after name_first
no_list_there = refl

pub nothing_after_comma : NothingAfterComma
unfolding infix_from expression_of further_from listed_at list_at arguments_at reference_of constant_at
    operand_of inside expression_at operator_at begins_expression misfit rest_after name_first
nothing_after_comma = refl

pub no_member : NoMember
unfolding expression_of arguments_at joined_from reference_of operand_of expression_at joining_at misfit
    name_first
no_member = refl

pub nothing_located : NothingLocated
unfolding expression_of arguments_at joined_from reference_of operand_of expression_at joining_at misfit
    name_first
nothing_located = refl

pub deepest_list : DeepestList
unfolding infix_from expression_of further_from listed_at list_at arguments_at joined_from reference_of
    parenthesis_of operand_of inside expression_at operator_at joining_at begins_expression taken rest_after
    name_first
deepest_list = refl

pub too_deep_list : TooDeepList
unfolding expression_of listed_at list_at arguments_at reference_of parenthesis_of operand_of inside
    expression_at begins_expression name_first
too_deep_list = refl

pub too_deep_sign : TooDeepSign
unfolding expression_of prefix_of operand_of inside expression_at
too_deep_sign = refl

pub last_operator : LastOperator
unfolding infix_from expression_of arguments_at joined_from reference_of operand_of expression_at operator_at
    joining_at name_first
last_operator = refl

pub too_many_operators : TooManyOperators
unfolding infix_from expression_of arguments_at joined_from reference_of operand_of expression_at operator_at
    joining_at name_first
too_many_operators = refl

pub target : Target
unfolding infix_from expression_of further_from listed_at list_at arguments_at joined_from reference_of
    operand_of inside reference_at operator_at joining_at begins_expression taken rest_after name_first
target = refl
