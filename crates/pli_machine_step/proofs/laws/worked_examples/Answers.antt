use Rattle.pli_machine_step.proofs.AreasRun as areas
use Rattle.pli_machine_step.proofs.ExamplesRun as run
use Rattle.pli_machine_step.proofs.ExtentsRun as extents
use Rattle.pli_machine_step.proofs.laws.worked_examples.Goals as goal

pub returns-clause-smallest_stops : goal.returns-clause-smallest_stops
returns-clause-smallest_stops c = run.smallest_stops

pub returns-clause-smallest_ends : goal.returns-clause-smallest_ends
returns-clause-smallest_ends c = run.smallest_ends

pub returns-clause-goto_leaves : goal.returns-clause-goto_leaves
returns-clause-goto_leaves c = run.goto_leaves

pub returns-clause-goto_stops : goal.returns-clause-goto_stops
returns-clause-goto_stops c = run.goto_stops

pub returns-clause-call_stops : goal.returns-clause-call_stops
returns-clause-call_stops c = run.call_stops

pub returns-clause-jumps_go_on : goal.returns-clause-jumps_go_on
returns-clause-jumps_go_on c = run.jumps_go_on

pub returns-clause-jumps_fault : goal.returns-clause-jumps_fault
returns-clause-jumps_fault c = run.jumps_fault

pub returns-clause-turns_stop : goal.returns-clause-turns_stop
returns-clause-turns_stop c = run.turns_stop

pub returns-clause-too_many : goal.returns-clause-too_many
returns-clause-too_many c = run.too_many

pub returns-clause-many_stop : goal.returns-clause-many_stop
returns-clause-many_stop c = run.many_stop

pub returns-clause-end_faults : goal.returns-clause-end_faults
returns-clause-end_faults c = run.end_faults

pub returns-clause-begin_ends : goal.returns-clause-begin_ends
returns-clause-begin_ends c = run.begin_ends

pub returns-clause-begin_faults : goal.returns-clause-begin_faults
returns-clause-begin_faults c = run.begin_faults

pub returns-clause-parameter_faults : goal.returns-clause-parameter_faults
returns-clause-parameter_faults c = run.parameter_faults

pub returns-clause-call_faults : goal.returns-clause-call_faults
returns-clause-call_faults c = run.call_faults

pub returns-clause-gotos_end : goal.returns-clause-gotos_end
returns-clause-gotos_end c = run.gotos_end

pub returns-clause-gotos_fault : goal.returns-clause-gotos_fault
returns-clause-gotos_fault c = run.gotos_fault

pub returns-clause-jumps_end : goal.returns-clause-jumps_end
returns-clause-jumps_end c = run.jumps_end

pub returns-clause-argument_is_shared : goal.returns-clause-argument_is_shared
returns-clause-argument_is_shared c = run.argument_is_shared

pub returns-clause-dummy_ends : goal.returns-clause-dummy_ends
returns-clause-dummy_ends c = run.dummy_ends

pub returns-clause-dummy_is_given : goal.returns-clause-dummy_is_given
returns-clause-dummy_is_given c = run.dummy_is_given

pub returns-clause-dummy_is_dead : goal.returns-clause-dummy_is_dead
returns-clause-dummy_is_dead c = run.dummy_is_dead

pub returns-clause-function_gives : goal.returns-clause-function_gives
returns-clause-function_gives c = run.function_gives

pub returns-clause-value_faults : goal.returns-clause-value_faults
returns-clause-value_faults c = run.value_faults

pub returns-clause-begins_end : goal.returns-clause-begins_end
returns-clause-begins_end c = run.begins_end

pub returns-clause-loop_ends : goal.returns-clause-loop_ends
returns-clause-loop_ends c = run.loop_ends

pub returns-clause-element_prints : goal.returns-clause-element_prints
returns-clause-element_prints c = run.element_prints

pub returns-clause-element_fails : goal.returns-clause-element_fails
returns-clause-element_fails c = run.element_fails

pub returns-clause-leading_faults : goal.returns-clause-leading_faults
returns-clause-leading_faults c = run.leading_faults

pub returns-clause-part_prints : goal.returns-clause-part_prints
returns-clause-part_prints c = run.part_prints

pub returns-clause-part_fails : goal.returns-clause-part_fails
returns-clause-part_fails c = run.part_fails

pub returns-clause-comparison_prints : goal.returns-clause-comparison_prints
returns-clause-comparison_prints c = run.comparison_prints

pub returns-clause-sums_are_as_wide : goal.returns-clause-sums_are_as_wide
returns-clause-sums_are_as_wide c = run.sums_are_as_wide

pub returns-clause-bits_print : goal.returns-clause-bits_print
returns-clause-bits_print c = run.bits_print

pub returns-clause-skip_ends_line : goal.returns-clause-skip_ends_line
returns-clause-skip_ends_line c = run.skip_ends_line

pub returns-clause-static_is_shared : goal.returns-clause-static_is_shared
returns-clause-static_is_shared c = run.static_is_shared

pub returns-clause-units_share : goal.returns-clause-units_share
returns-clause-units_share c = run.units_share

pub returns-clause-units_stop : goal.returns-clause-units_stop
returns-clause-units_stop c = run.units_stop

pub returns-clause-unit_fails : goal.returns-clause-unit_fails
returns-clause-unit_fails c = run.unit_fails

pub returns-clause-no_unit_faults : goal.returns-clause-no_unit_faults
returns-clause-no_unit_faults c = run.no_unit_faults

pub returns-clause-generations_print : goal.returns-clause-generations_print
returns-clause-generations_print c = run.generations_print

pub returns-clause-none_is_error : goal.returns-clause-none_is_error
returns-clause-none_is_error c = run.none_is_error

pub returns-clause-others_fault : goal.returns-clause-others_fault
returns-clause-others_fault c = run.others_fault

pub returns-clause-based_prints : goal.returns-clause-based_prints
returns-clause-based_prints c = run.based_prints

pub returns-clause-address_prints : goal.returns-clause-address_prints
returns-clause-address_prints c = run.address_prints

pub returns-clause-locators_fail : goal.returns-clause-locators_fail
returns-clause-locators_fail c = run.locators_fail

pub returns-clause-address_is_not_freed : goal.returns-clause-address_is_not_freed
returns-clause-address_is_not_freed c = run.address_is_not_freed

pub returns-clause-numbers_fault : goal.returns-clause-numbers_fault
returns-clause-numbers_fault c = run.numbers_fault

pub returns-clause-block_prints : goal.returns-clause-block_prints
returns-clause-block_prints c = areas.block_prints

pub returns-clause-offset_prints : goal.returns-clause-offset_prints
returns-clause-offset_prints c = areas.offset_prints

pub returns-clause-blocks_end : goal.returns-clause-blocks_end
returns-clause-blocks_end c = areas.blocks_end

pub returns-clause-area_is_full : goal.returns-clause-area_is_full
returns-clause-area_is_full c = areas.area_is_full

pub returns-clause-not_in_area : goal.returns-clause-not_in_area
returns-clause-not_in_area c = areas.not_in_area

pub returns-clause-areas_fault : goal.returns-clause-areas_fault
returns-clause-areas_fault c = areas.areas_fault

pub returns-clause-copies_fail : goal.returns-clause-copies_fail
returns-clause-copies_fail c = areas.copies_fail

pub returns-clause-dimension_leads : goal.returns-clause-dimension_leads
returns-clause-dimension_leads c = extents.dimension_leads

pub returns-clause-no_dimension_faults : goal.returns-clause-no_dimension_faults
returns-clause-no_dimension_faults c = extents.no_dimension_faults

pub returns-clause-bounds_print : goal.returns-clause-bounds_print
returns-clause-bounds_print c = extents.bounds_print

pub returns-clause-string_dummy_holds : goal.returns-clause-string_dummy_holds
returns-clause-string_dummy_holds c = extents.string_dummy_holds

pub returns-clause-string_dummy_faults : goal.returns-clause-string_dummy_faults
returns-clause-string_dummy_faults c = extents.string_dummy_faults

pub returns-clause-fits_to_place : goal.returns-clause-fits_to_place
returns-clause-fits_to_place c = extents.fits_to_place

pub returns-clause-fitting_faults : goal.returns-clause-fitting_faults
returns-clause-fitting_faults c = extents.fitting_faults

pub returns-clause-string_dummy_is_dead : goal.returns-clause-string_dummy_is_dead
returns-clause-string_dummy_is_dead c = extents.string_dummy_is_dead
