-- The worked examples of extents of arguments, each by computing it.
use Rattle.std.specs.Prelude.{refl}
use Rattle.std.specs.Fmt.{digits}
use Rattle.pli_operation.specs.Operations.{calculated}
use Rattle.pli_world.specs.World.{nothing, entered, made_of, left_by, parts_held, held, at_statement, stepped, height_of, slot_place, dummy_of, printed, line_ended, error_at}
use Rattle.pli_world.specs.Locating.{located, based, addressed, place_by, address_of}
use Rattle.pli_world.specs.Strings.{string_dummy_of, subscripted_by, bound_of_place, string_as}
use Rattle.pli_machine_step.specs.examples.ExtentExamples as example

pub dimension_leads : example.DimensionLeads
unfolding nothing entered made_of stepped left_by parts_held held at_statement height_of slot_place subscripted_by calculated printed digits error_at
dimension_leads = (refl, refl)

pub no_dimension_faults : example.NoDimensionFaults
unfolding nothing entered made_of stepped at_statement height_of slot_place dummy_of subscripted_by
no_dimension_faults = (refl, refl)

pub bounds_print : example.BoundsPrint
unfolding nothing entered made_of stepped left_by height_of slot_place bound_of_place calculated printed digits
bounds_print = (refl, refl, refl)

pub string_dummy_holds : example.StringDummyHolds
unfolding nothing entered made_of stepped left_by parts_held held dummy_of string_dummy_of calculated printed digits
string_dummy_holds = (refl, refl, refl)

pub string_dummy_faults : example.StringDummyFaults
unfolding nothing entered stepped string_dummy_of
string_dummy_faults = (refl, refl)

pub fits_to_place : example.FitsToPlace
unfolding nothing entered made_of stepped left_by parts_held held dummy_of string_dummy_of string_as printed line_ended
fits_to_place = refl

pub fitting_faults : example.FittingFaults
unfolding nothing entered made_of stepped dummy_of string_as
fitting_faults = (refl, refl)

pub string_dummy_is_dead : example.StringDummyIsDead
unfolding nothing entered made_of stepped at_statement dummy_of string_dummy_of located based addressed place_by address_of error_at
string_dummy_is_dead = refl
