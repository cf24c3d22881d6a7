-- The worked examples of areas, each by computing it.
use Rattle.std.specs.Prelude.{refl}
use Rattle.std.specs.Fmt.{digits}
use Rattle.pli_operation.specs.Operations.{calculated}
use Rattle.pli_world.specs.World.{nothing, entered, made_of, left_by, parts_held, parts_stored, held, stored, copied, at_statement, stepped, static_place, printed, error_at}
use Rattle.pli_world.specs.Areas.{area_found, allocated_in, emptied, assigned, offset_in, pointer_in}
use Rattle.pli_world.specs.Locating.{located, based, based_freed, addressed, place_by, freed_by, block_made, address_of, offset_made, pointer_within}
use Rattle.pli_machine_step.specs.examples.AreaExamples as example

pub block_prints : example.BlockPrints
unfolding nothing entered made_of stepped left_by at_statement parts_held parts_stored held stored static_place area_found allocated_in block_made located based place_by calculated printed digits
block_prints = refl

pub offset_prints : example.OffsetPrints
unfolding nothing entered made_of stepped left_by at_statement parts_held parts_stored held stored static_place area_found allocated_in block_made located based place_by assigned offset_in pointer_in offset_made pointer_within calculated printed digits
offset_prints = refl

pub blocks_end : example.BlocksEnd
unfolding nothing entered made_of stepped left_by at_statement parts_held parts_stored held stored static_place area_found allocated_in block_made located based place_by based_freed freed_by emptied assigned error_at
blocks_end = (refl, refl, refl)

pub area_is_full : example.AreaIsFull
unfolding nothing entered made_of stepped left_by at_statement parts_held parts_stored held stored static_place area_found allocated_in block_made error_at
area_is_full = (refl, refl)

pub not_in_area : example.NotInArea
unfolding nothing entered made_of stepped left_by at_statement parts_held parts_stored held stored static_place area_found allocated_in block_made addressed address_of offset_in offset_made error_at
not_in_area = (refl, refl)

pub areas_fault : example.AreasFault
unfolding nothing entered made_of stepped left_by at_statement parts_held parts_stored held stored static_place area_found allocated_in block_made copied pointer_in pointer_within
areas_fault = (refl, refl, refl, refl, refl)

pub copies_fail : example.CopiesFail
unfolding nothing entered made_of stepped left_by at_statement parts_held parts_stored held stored copied static_place area_found allocated_in block_made located based place_by emptied error_at
copies_fail = (refl, refl)
