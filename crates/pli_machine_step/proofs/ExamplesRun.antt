-- The worked examples, each by computing it.
use Rattle.std.specs.Prelude.{refl}
use Rattle.std.specs.Fmt.{digits}
use Rattle.pli_operation.specs.Operations.{calculated}
use Rattle.pli_world.specs.World.{nothing, entered, made_of, left_by, parts_held, parts_stored, held, stored, cleared, at_statement, stepped, height_of, slot_place, static_place, dummy_of, printed, line_ended, error_at}
use Rattle.pli_world.specs.Locating.{located, based, based_allocated, based_freed, addressed, place_by, freed_by, pointer_made, address_of}
use Rattle.pli_world.specs.Stacks.{stacked, unstacked, counted, stack_named, generation_stacked, generation_unstacked, generations_counted}
use Rattle.pli_machine_step.specs.examples.MachineExamples as example

pub smallest_stops : example.SmallestStops
unfolding nothing entered stepped
smallest_stops = record { count = 0; ending = _; world = _; over = refl; gives = refl }

pub smallest_ends : example.SmallestEnds
unfolding nothing entered stepped left_by
smallest_ends = record { count = 1; ending = _; world = _; over = refl; gives = refl }

pub goto_leaves : example.GotoLeaves
unfolding nothing entered stepped left_by cleared at_statement height_of printed
goto_leaves = refl

pub goto_stops : example.GotoStops
unfolding nothing entered stepped left_by cleared at_statement height_of
goto_stops = refl

pub call_stops : example.CallStops
unfolding nothing entered stepped at_statement
call_stops = refl

pub jumps_go_on : example.JumpsGoOn
unfolding nothing entered stepped
jumps_go_on = refl

pub jumps_fault : example.JumpsFault
unfolding nothing entered stepped
jumps_fault = refl

pub turns_stop : example.TurnsStop
unfolding nothing entered stepped at_statement
turns_stop = refl

pub begin_ends : example.BeginEnds
unfolding nothing entered stepped left_by
begin_ends = refl

pub begin_faults : example.BeginFaults
unfolding nothing entered stepped
begin_faults = refl

pub parameter_faults : example.ParameterFaults
unfolding nothing entered stepped
parameter_faults = refl

pub call_faults : example.CallFaults
unfolding nothing entered stepped
call_faults = refl

pub end_faults : example.EndFaults
unfolding nothing entered stepped at_statement
end_faults = refl

pub too_many : example.TooMany
unfolding nothing entered stepped error_at
too_many = refl

pub many_stop : example.ManyStop
unfolding nothing entered stepped
many_stop = refl

pub gotos_end : example.GotosEnd
unfolding nothing entered stepped left_by cleared height_of
gotos_end = refl

pub gotos_fault : example.GotosFault
unfolding nothing entered stepped left_by cleared height_of
gotos_fault = refl

pub jumps_end : example.JumpsEnd
unfolding nothing entered stepped left_by
jumps_end = refl

pub argument_is_shared : example.ArgumentIsShared
unfolding nothing entered made_of stepped left_by parts_held parts_stored held stored height_of slot_place calculated printed digits
argument_is_shared = refl

pub dummy_ends : example.DummyEnds
unfolding nothing entered made_of stepped left_by parts_held held dummy_of calculated printed digits
dummy_ends = (refl, refl, refl)

pub dummy_is_given : example.DummyIsGiven
unfolding nothing entered made_of stepped left_by parts_held held height_of slot_place dummy_of calculated printed digits
dummy_is_given = (refl, refl, refl)

pub dummy_is_dead : example.DummyIsDead
unfolding nothing entered made_of stepped at_statement parts_held held dummy_of located based addressed place_by address_of error_at
dummy_is_dead = (refl, refl)

pub function_gives : example.FunctionGives
unfolding nothing entered stepped left_by printed
function_gives = refl

pub value_faults : example.ValueFaults
unfolding nothing entered stepped left_by
value_faults = refl

pub begins_end : example.BeginsEnd
unfolding nothing entered stepped error_at
begins_end = refl

pub loop_ends : example.LoopEnds
unfolding nothing entered made_of stepped left_by parts_held parts_stored held stored at_statement height_of slot_place calculated printed line_ended digits
loop_ends = refl

pub element_prints : example.ElementPrints
unfolding nothing entered made_of stepped left_by parts_held held at_statement height_of slot_place calculated printed digits
element_prints = refl

pub element_fails : example.ElementFails
unfolding nothing entered made_of stepped at_statement height_of slot_place error_at
element_fails = refl

pub leading_faults : example.LeadingFaults
unfolding nothing entered made_of stepped left_by at_statement height_of slot_place
leading_faults = (refl, refl)

pub part_prints : example.PartPrints
unfolding nothing entered stepped left_by calculated printed
part_prints = refl

pub part_fails : example.PartFails
unfolding nothing entered stepped calculated error_at
part_fails = refl

pub comparison_prints : example.ComparisonPrints
unfolding nothing entered stepped left_by calculated printed
comparison_prints = refl

pub sums_are_as_wide : example.SumsAreAsWide
unfolding nothing entered stepped left_by calculated printed error_at
sums_are_as_wide = (refl, refl)

pub bits_print : example.BitsPrint
unfolding nothing entered stepped left_by printed
bits_print = refl

pub skip_ends_line : example.SkipEndsLine
unfolding nothing entered stepped left_by printed line_ended
skip_ends_line = refl

pub static_is_shared : example.StaticIsShared
unfolding nothing entered made_of stepped left_by parts_held parts_stored held stored static_place calculated printed digits
static_is_shared = refl

pub units_share : example.UnitsShare
unfolding nothing entered made_of stepped left_by parts_held parts_stored held stored static_place calculated printed digits
units_share = refl

pub units_stop : example.UnitsStop
unfolding nothing entered made_of stepped
units_stop = refl

pub unit_fails : example.UnitFails
unfolding nothing entered made_of stepped error_at
unit_fails = refl

pub no_unit_faults : example.NoUnitFaults
unfolding nothing entered made_of stepped
no_unit_faults = refl

pub generations_print : example.GenerationsPrint
unfolding nothing entered made_of stepped left_by parts_held parts_stored held stored static_place stacked unstacked counted stack_named generation_stacked generation_unstacked generations_counted calculated printed line_ended digits
generations_print = refl

pub none_is_error : example.NoneIsError
unfolding nothing entered stepped at_statement static_place unstacked stack_named generation_unstacked error_at
none_is_error = (refl, refl)

pub others_fault : example.OthersFault
unfolding nothing entered made_of stepped stack_named generation_stacked
others_fault = (refl, refl)

pub based_prints : example.BasedPrints
unfolding nothing entered made_of stepped left_by parts_held parts_stored held stored static_place located based based_allocated place_by pointer_made calculated printed digits
based_prints = (refl, refl)

pub address_prints : example.AddressPrints
unfolding nothing entered made_of stepped left_by parts_held parts_stored held stored static_place located based addressed place_by address_of calculated printed digits
address_prints = refl

pub locators_fail : example.LocatorsFail
unfolding nothing entered made_of stepped at_statement parts_held parts_stored held stored static_place located based based_allocated based_freed place_by freed_by pointer_made error_at
locators_fail = (refl, refl, refl)

pub address_is_not_freed : example.AddressIsNotFreed
unfolding nothing entered made_of stepped at_statement static_place located based_freed addressed freed_by address_of error_at
address_is_not_freed = refl

pub numbers_fault : example.NumbersFault
unfolding nothing entered made_of stepped place_by
numbers_fault = (refl, refl)
