use Rattle.pli_meaning_tree.proofs.AreasHold as areas
use Rattle.pli_meaning_tree.proofs.ConditionsHold as conditions
use Rattle.pli_meaning_tree.proofs.ExamplesHold as holds
use Rattle.pli_meaning_tree.proofs.ExtentsHold as extents
use Rattle.pli_meaning_tree.proofs.laws.worked_examples.Goals as goal

pub returns-clause-loop_ends : goal.returns-clause-loop_ends
returns-clause-loop_ends c = holds.loop_ends

pub returns-clause-loop_stops : goal.returns-clause-loop_stops
returns-clause-loop_stops c = holds.loop_stops

pub returns-clause-if_chooses : goal.returns-clause-if_chooses
returns-clause-if_chooses c = holds.if_chooses

pub returns-clause-subscript_is_tested : goal.returns-clause-subscript_is_tested
returns-clause-subscript_is_tested c = holds.subscript_is_tested

pub returns-clause-aggregate_is_copied : goal.returns-clause-aggregate_is_copied
returns-clause-aggregate_is_copied c = holds.aggregate_is_copied

pub returns-clause-bits_are_printed : goal.returns-clause-bits_are_printed
returns-clause-bits_are_printed c = holds.bits_are_printed

pub returns-clause-item_before_is_written : goal.returns-clause-item_before_is_written
returns-clause-item_before_is_written c = holds.item_before_is_written

pub returns-clause-function_calls_itself : goal.returns-clause-function_calls_itself
returns-clause-function_calls_itself c = holds.function_calls_itself

pub returns-clause-function_stops : goal.returns-clause-function_stops
returns-clause-function_stops c = holds.function_stops

pub returns-clause-by_reference_changes : goal.returns-clause-by_reference_changes
returns-clause-by_reference_changes c = holds.by_reference_changes

pub returns-clause-no_value_is_returned : goal.returns-clause-no_value_is_returned
returns-clause-no_value_is_returned c = holds.no_value_is_returned

pub returns-clause-goto_leaves_block : goal.returns-clause-goto_leaves_block
returns-clause-goto_leaves_block c = holds.goto_leaves_block

pub returns-clause-goto_leaves_call : goal.returns-clause-goto_leaves_call
returns-clause-goto_leaves_call c = holds.goto_leaves_call

pub returns-clause-goto_group_begins_anew : goal.returns-clause-goto_group_begins_anew
returns-clause-goto_group_begins_anew c = holds.goto_group_begins_anew

pub returns-clause-labels_are_of_units : goal.returns-clause-labels_are_of_units
returns-clause-labels_are_of_units c = holds.labels_are_of_units

pub returns-clause-return_leaves_block : goal.returns-clause-return_leaves_block
returns-clause-return_leaves_block c = holds.return_leaves_block

pub returns-clause-turns_are_steps : goal.returns-clause-turns_are_steps
returns-clause-turns_are_steps c = holds.turns_are_steps

pub returns-clause-no_turn_and_one : goal.returns-clause-no_turn_and_one
returns-clause-no_turn_and_one c = holds.no_turn_and_one

pub returns-clause-start_must_fit : goal.returns-clause-start_must_fit
returns-clause-start_must_fit c = holds.start_must_fit

pub returns-clause-step_may_be_negative : goal.returns-clause-step_may_be_negative
returns-clause-step_may_be_negative c = holds.step_may_be_negative

pub returns-clause-step_overflows : goal.returns-clause-step_overflows
returns-clause-step_overflows c = holds.step_overflows

pub returns-clause-variable_is_looked_at_anew : goal.returns-clause-variable_is_looked_at_anew
returns-clause-variable_is_looked_at_anew c = holds.variable_is_looked_at_anew

pub returns-clause-repeat_goes_on : goal.returns-clause-repeat_goes_on
returns-clause-repeat_goes_on c = holds.repeat_goes_on

pub returns-clause-units_share : goal.returns-clause-units_share
returns-clause-units_share c = holds.units_share

pub returns-clause-unit_fails : goal.returns-clause-unit_fails
returns-clause-unit_fails c = holds.unit_fails

pub returns-clause-newest_is_meant : goal.returns-clause-newest_is_meant
returns-clause-newest_is_meant c = holds.newest_is_meant

pub returns-clause-none_is_left : goal.returns-clause-none_is_left
returns-clause-none_is_left c = holds.none_is_left

pub returns-clause-list_is_linked : goal.returns-clause-list_is_linked
returns-clause-list_is_linked c = holds.list_is_linked

pub returns-clause-address_is_meant : goal.returns-clause-address_is_meant
returns-clause-address_is_meant c = holds.address_is_meant

pub returns-clause-leads_nowhere : goal.returns-clause-leads_nowhere
returns-clause-leads_nowhere c = holds.leads_nowhere

pub returns-clause-is_not_freed : goal.returns-clause-is_not_freed
returns-clause-is_not_freed c = holds.is_not_freed

pub returns-clause-offset_copied : goal.returns-clause-offset_copied
returns-clause-offset_copied c = areas.offset_copied

pub returns-clause-dead_header_named : goal.returns-clause-dead_header_named
returns-clause-dead_header_named c = areas.dead_header_named

pub returns-clause-area_full : goal.returns-clause-area_full
returns-clause-area_full c = areas.area_full

pub returns-clause-outside_area_named : goal.returns-clause-outside_area_named
returns-clause-outside_area_named c = areas.outside_area_named

pub returns-clause-block_freed : goal.returns-clause-block_freed
returns-clause-block_freed c = areas.block_freed

pub returns-clause-list_in_area : goal.returns-clause-list_in_area
returns-clause-list_in_area c = areas.list_in_area

pub returns-clause-no_area_is_error : goal.returns-clause-no_area_is_error
returns-clause-no_area_is_error c = areas.no_area_is_error

pub returns-clause-revert_removes : goal.returns-clause-revert_removes
returns-clause-revert_removes c = conditions.revert_removes

pub returns-clause-unit_is_steps : goal.returns-clause-unit_is_steps
returns-clause-unit_is_steps c = conditions.unit_is_steps

pub returns-clause-unit_stays : goal.returns-clause-unit_stays
returns-clause-unit_stays c = conditions.unit_stays

pub returns-clause-units_are_many : goal.returns-clause-units_are_many
returns-clause-units_are_many c = conditions.units_are_many

pub returns-clause-second_takes_place : goal.returns-clause-second_takes_place
returns-clause-second_takes_place c = conditions.second_takes_place

pub returns-clause-names_are_of_on : goal.returns-clause-names_are_of_on
returns-clause-names_are_of_on c = conditions.names_are_of_on

pub returns-clause-zero_stands_after : goal.returns-clause-zero_stands_after
returns-clause-zero_stands_after c = conditions.zero_stands_after

pub returns-clause-zero_divide_unit : goal.returns-clause-zero_divide_unit
returns-clause-zero_divide_unit c = conditions.zero_divide_unit

pub returns-clause-newest_unit : goal.returns-clause-newest_unit
returns-clause-newest_unit c = conditions.newest_unit

pub returns-clause-counter_overflows : goal.returns-clause-counter_overflows
returns-clause-counter_overflows c = conditions.counter_overflows

pub returns-clause-allocate_is_repeated : goal.returns-clause-allocate_is_repeated
returns-clause-allocate_is_repeated c = conditions.allocate_is_repeated

pub returns-clause-extent_exceeds : goal.returns-clause-extent_exceeds
returns-clause-extent_exceeds c = conditions.extent_exceeds

pub returns-clause-signal_goes_on : goal.returns-clause-signal_goes_on
returns-clause-signal_goes_on c = conditions.signal_goes_on

pub returns-clause-area_is_evaluated_anew : goal.returns-clause-area_is_evaluated_anew
returns-clause-area_is_evaluated_anew c = conditions.area_is_evaluated_anew

pub returns-clause-group_around_is_reached : goal.returns-clause-group_around_is_reached
returns-clause-group_around_is_reached c = conditions.group_around_is_reached

pub returns-clause-goto_leaves_units : goal.returns-clause-goto_leaves_units
returns-clause-goto_leaves_units c = conditions.goto_leaves_units

pub returns-clause-string_is_handed : goal.returns-clause-string_is_handed
returns-clause-string_is_handed c = extents.string_is_handed

pub returns-clause-nothing_is_handed : goal.returns-clause-nothing_is_handed
returns-clause-nothing_is_handed c = extents.nothing_is_handed

pub returns-clause-string_is_fitted : goal.returns-clause-string_is_fitted
returns-clause-string_is_fitted c = extents.string_is_fitted

pub returns-clause-bounds_are_arguments : goal.returns-clause-bounds_are_arguments
returns-clause-bounds_are_arguments c = extents.bounds_are_arguments

pub returns-clause-control_is_fitted : goal.returns-clause-control_is_fitted
returns-clause-control_is_fitted c = extents.control_is_fitted
