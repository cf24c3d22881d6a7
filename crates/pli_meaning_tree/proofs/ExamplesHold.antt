-- The worked examples hold by computing.
use Rattle.std.specs.Prelude.{refl}
use Rattle.std.specs.Fmt.{digits}
use Rattle.pli_operation.specs.Operations.{calculated}
use Rattle.pli_world.specs.World.{nothing, made_of, parts_held, parts_stored, held, stored, copied, entered, left_by, cleared, at_statement, stepped, height_of, slot_place, static_place, dummy_of, printed, line_ended, error_at}
use Rattle.pli_world.specs.Locating.{located, based, based_allocated, based_freed, addressed, place_by, freed_by, pointer_made, address_of}
use Rattle.pli_world.specs.Stacks.{stacked, unstacked, counted, stack_named, generation_stacked, generation_unstacked, generations_counted}
use Rattle.pli_meaning_tree.specs.examples.TreeExamples as example

pub loop_ends : example.LoopEnds
unfolding calculated nothing made_of parts_held parts_stored held stored copied entered left_by cleared at_statement stepped height_of slot_place static_place dummy_of printed line_ended error_at digits
loop_ends = refl

pub loop_stops : example.LoopStops
unfolding calculated nothing made_of parts_held parts_stored held stored copied entered left_by cleared at_statement stepped height_of slot_place static_place dummy_of printed line_ended error_at digits
loop_stops = refl

pub if_chooses : example.IfChooses
unfolding calculated nothing made_of parts_held parts_stored held stored copied entered left_by cleared at_statement stepped height_of slot_place static_place dummy_of printed line_ended error_at digits
if_chooses = refl

pub subscript_is_tested : example.SubscriptIsTested
unfolding calculated nothing made_of parts_held parts_stored held stored copied entered left_by cleared at_statement stepped height_of slot_place static_place dummy_of printed line_ended error_at digits
subscript_is_tested = refl

pub aggregate_is_copied : example.AggregateIsCopied
unfolding calculated nothing made_of parts_held parts_stored held stored copied entered left_by cleared at_statement stepped height_of slot_place static_place dummy_of printed line_ended error_at digits
aggregate_is_copied = refl

pub bits_are_printed : example.BitsArePrinted
unfolding calculated nothing made_of parts_held parts_stored held stored copied entered left_by cleared at_statement stepped height_of slot_place static_place dummy_of printed line_ended error_at digits
bits_are_printed = refl

pub item_before_is_written : example.ItemBeforeIsWritten
unfolding calculated nothing made_of parts_held parts_stored held stored copied entered left_by cleared at_statement stepped height_of slot_place static_place dummy_of printed line_ended error_at digits
item_before_is_written = refl

pub function_calls_itself : example.FunctionCallsItself
unfolding calculated nothing made_of parts_held parts_stored held stored copied entered left_by cleared at_statement stepped height_of slot_place static_place dummy_of printed line_ended error_at digits
function_calls_itself = refl

pub function_stops : example.FunctionStops
unfolding calculated nothing made_of parts_held parts_stored held stored copied entered left_by cleared at_statement stepped height_of slot_place static_place dummy_of printed line_ended error_at digits
function_stops = refl

pub by_reference_changes : example.ByReferenceChanges
unfolding calculated nothing made_of parts_held parts_stored held stored copied entered left_by cleared at_statement stepped height_of slot_place static_place dummy_of printed line_ended error_at digits
by_reference_changes = refl

pub no_value_is_returned : example.NoValueIsReturned
unfolding calculated nothing made_of parts_held parts_stored held stored copied entered left_by cleared at_statement stepped height_of slot_place static_place dummy_of printed line_ended error_at digits
no_value_is_returned = refl

pub goto_leaves_block : example.GotoLeavesBlock
unfolding calculated nothing made_of parts_held parts_stored held stored copied entered left_by cleared at_statement stepped height_of slot_place static_place dummy_of printed line_ended error_at digits
goto_leaves_block = refl

pub goto_leaves_call : example.GotoLeavesCall
unfolding calculated nothing made_of parts_held parts_stored held stored copied entered left_by cleared at_statement stepped height_of slot_place static_place dummy_of printed line_ended error_at digits
goto_leaves_call = refl

pub goto_group_begins_anew : example.GotoGroupBeginsAnew
unfolding calculated nothing made_of parts_held parts_stored held stored copied entered left_by cleared at_statement stepped height_of slot_place static_place dummy_of printed line_ended error_at digits
goto_group_begins_anew = refl

pub labels_are_of_units : example.LabelsAreOfUnits
unfolding nothing cleared
labels_are_of_units = (refl, refl)

pub return_leaves_block : example.ReturnLeavesBlock
unfolding calculated nothing made_of parts_held parts_stored held stored copied entered left_by cleared at_statement stepped height_of slot_place static_place dummy_of printed line_ended error_at digits
return_leaves_block = refl

pub turns_are_steps : example.TurnsAreSteps
unfolding calculated nothing made_of parts_held parts_stored held stored copied entered left_by cleared at_statement stepped height_of slot_place static_place dummy_of printed line_ended error_at digits
turns_are_steps = (refl, refl)

pub no_turn_and_one : example.NoTurnAndOne
unfolding calculated nothing made_of parts_held parts_stored held stored copied entered left_by cleared at_statement stepped height_of slot_place static_place dummy_of printed line_ended error_at digits
no_turn_and_one = (refl, refl)

pub start_must_fit : example.StartMustFit
unfolding calculated nothing made_of parts_held parts_stored held stored copied entered left_by cleared at_statement stepped height_of slot_place static_place dummy_of printed line_ended error_at digits
start_must_fit = refl

pub step_may_be_negative : example.StepMayBeNegative
unfolding calculated nothing made_of parts_held parts_stored held stored copied entered left_by cleared at_statement stepped height_of slot_place static_place dummy_of printed line_ended error_at digits
step_may_be_negative = refl

pub step_overflows : example.StepOverflows
unfolding calculated nothing made_of parts_held parts_stored held stored copied entered left_by cleared at_statement stepped height_of slot_place static_place dummy_of printed line_ended error_at digits
step_overflows = refl

pub variable_is_looked_at_anew : example.VariableIsLookedAtAnew
unfolding calculated nothing made_of parts_held parts_stored held stored copied entered left_by cleared at_statement stepped height_of slot_place static_place dummy_of printed line_ended error_at digits
variable_is_looked_at_anew = refl

pub repeat_goes_on : example.RepeatGoesOn
unfolding calculated nothing made_of parts_held parts_stored held stored copied entered left_by cleared at_statement stepped height_of slot_place static_place dummy_of printed line_ended error_at digits
repeat_goes_on = refl

pub units_share : example.UnitsShare
unfolding calculated nothing made_of parts_held parts_stored held stored copied entered left_by cleared at_statement stepped height_of slot_place static_place dummy_of printed line_ended error_at digits
units_share = refl

pub unit_fails : example.UnitFails
unfolding calculated nothing made_of parts_held parts_stored held stored copied entered left_by cleared at_statement stepped height_of slot_place static_place dummy_of printed line_ended error_at digits
unit_fails = refl

pub newest_is_meant : example.NewestIsMeant
unfolding calculated nothing made_of parts_held parts_stored held stored entered left_by at_statement stepped static_place stacked unstacked counted stack_named generation_stacked generation_unstacked generations_counted printed line_ended error_at digits
newest_is_meant = refl

pub none_is_left : example.NoneIsLeft
unfolding calculated nothing made_of parts_held parts_stored held stored entered left_by at_statement stepped static_place stacked unstacked counted stack_named generation_stacked generation_unstacked generations_counted printed line_ended error_at digits
none_is_left = (refl, refl, refl)

pub list_is_linked : example.ListIsLinked
unfolding calculated nothing made_of parts_held parts_stored held stored entered left_by at_statement stepped height_of slot_place located based based_allocated based_freed addressed place_by freed_by pointer_made address_of printed error_at digits
list_is_linked = refl

pub address_is_meant : example.AddressIsMeant
unfolding calculated nothing made_of parts_held parts_stored held stored entered left_by at_statement stepped height_of slot_place located based based_allocated based_freed addressed place_by freed_by pointer_made address_of printed error_at digits
address_is_meant = refl

pub leads_nowhere : example.LeadsNowhere
unfolding calculated nothing made_of parts_held parts_stored held stored entered left_by at_statement stepped height_of slot_place located based based_allocated based_freed addressed place_by freed_by pointer_made address_of printed error_at digits
leads_nowhere = (refl, refl, refl)

pub is_not_freed : example.IsNotFreed
unfolding calculated nothing made_of parts_held parts_stored held stored entered left_by at_statement stepped height_of slot_place located based based_allocated based_freed addressed place_by freed_by pointer_made address_of printed error_at digits
is_not_freed = (refl, refl, refl)
