-- The worked examples of conditions hold by computing.
use Rattle.std.specs.Prelude.{refl}
use Rattle.std.specs.Fmt.{digits}
use Rattle.pli_operation.specs.Operations.{calculated}
use Rattle.pli_world.specs.World.{nothing, made_of, parts_held, parts_stored, held, stored, entered, left_by, cleared, at_statement, stepped, height_of, slot_place, static_place, dummy_of, printed, error_at}
use Rattle.pli_world.specs.Areas.{area_found, allocated_in, assigned, offset_in, pointer_in}
use Rattle.pli_world.specs.Conditions.{established, reverted}
use Rattle.pli_world.specs.Locating.{located, based, based_freed, addressed, place_by, freed_by, block_made, address_of, pointer_within}
use Rattle.pli_world.specs.Stacks.{stacked, unstacked, counted, stack_named, generation_stacked, generation_unstacked, generations_counted}
use Rattle.pli_meaning_tree.specs.examples.ConditionExamples as example

pub revert_removes : example.RevertRemoves
unfolding calculated nothing made_of parts_held parts_stored held stored entered left_by cleared at_statement stepped height_of slot_place static_place dummy_of printed error_at established reverted digits
revert_removes = refl

pub unit_is_steps : example.UnitIsSteps
unfolding calculated nothing made_of parts_held parts_stored held stored entered left_by cleared at_statement stepped height_of slot_place static_place dummy_of printed error_at established reverted digits
unit_is_steps = (refl, refl, refl, refl)

pub unit_stays : example.UnitStays
unfolding calculated nothing made_of parts_held parts_stored held stored entered left_by cleared at_statement stepped height_of slot_place static_place dummy_of printed error_at established reverted digits
unit_stays = refl

pub units_are_many : example.UnitsAreMany
unfolding calculated nothing made_of parts_held parts_stored held stored entered left_by cleared at_statement stepped height_of slot_place static_place dummy_of printed error_at established reverted digits
units_are_many = refl

pub second_takes_place : example.SecondTakesPlace
unfolding calculated nothing made_of parts_held parts_stored held stored entered left_by cleared at_statement stepped height_of slot_place static_place dummy_of printed error_at established reverted digits
second_takes_place = refl

pub names_are_of_on : example.NamesAreOfOn
unfolding calculated nothing made_of parts_held parts_stored held stored entered left_by cleared at_statement stepped height_of slot_place static_place dummy_of printed error_at established reverted digits
names_are_of_on = refl

pub zero_stands_after : example.ZeroStandsAfter
unfolding calculated nothing made_of parts_held parts_stored held stored entered left_by cleared at_statement stepped height_of slot_place static_place dummy_of printed error_at established reverted digits
zero_stands_after = refl

pub zero_divide_unit : example.ZeroDivideUnit
unfolding calculated nothing made_of parts_held parts_stored held stored entered left_by cleared at_statement stepped height_of slot_place static_place dummy_of printed error_at established reverted digits
zero_divide_unit = (refl, refl, refl, refl)

pub newest_unit : example.NewestUnit
unfolding calculated nothing made_of parts_held parts_stored held stored entered left_by cleared at_statement stepped height_of slot_place static_place dummy_of printed error_at established reverted digits
newest_unit = refl

pub counter_overflows : example.CounterOverflows
unfolding calculated nothing made_of parts_held parts_stored held stored entered left_by cleared at_statement stepped height_of slot_place static_place dummy_of printed error_at established reverted digits
counter_overflows = (refl, refl, refl)

pub allocate_is_repeated : example.AllocateIsRepeated
unfolding calculated nothing made_of parts_held parts_stored held stored entered left_by cleared at_statement stepped height_of slot_place static_place printed error_at established reverted digits area_found allocated_in assigned offset_in pointer_in located based based_freed addressed place_by freed_by block_made address_of pointer_within stacked unstacked counted stack_named generation_stacked generation_unstacked generations_counted
allocate_is_repeated = (refl, refl, refl)

pub extent_exceeds : example.ExtentExceeds
unfolding calculated nothing made_of parts_held parts_stored held stored entered left_by cleared at_statement stepped height_of slot_place static_place printed error_at established reverted digits area_found allocated_in assigned offset_in pointer_in located based based_freed addressed place_by freed_by block_made address_of pointer_within stacked unstacked counted stack_named generation_stacked generation_unstacked generations_counted
extent_exceeds = refl

pub signal_goes_on : example.SignalGoesOn
unfolding calculated nothing made_of parts_held parts_stored held stored entered left_by cleared at_statement stepped height_of slot_place static_place dummy_of printed error_at established reverted digits
signal_goes_on = refl

pub area_is_evaluated_anew : example.AreaIsEvaluatedAnew
unfolding calculated nothing made_of parts_held parts_stored held stored entered left_by cleared at_statement stepped height_of slot_place static_place printed error_at established reverted digits area_found allocated_in assigned offset_in pointer_in located based based_freed addressed place_by freed_by block_made address_of pointer_within stacked unstacked counted stack_named generation_stacked generation_unstacked generations_counted
area_is_evaluated_anew = (refl, refl)

pub group_around_is_reached : example.GroupAroundIsReached
unfolding calculated nothing made_of parts_held parts_stored held stored entered left_by cleared at_statement stepped height_of slot_place static_place dummy_of printed error_at established reverted digits
group_around_is_reached = refl

pub goto_leaves_units : example.GotoLeavesUnits
unfolding calculated nothing made_of parts_held parts_stored held stored entered left_by cleared at_statement stepped height_of slot_place static_place dummy_of printed error_at established reverted digits
goto_leaves_units = refl
