-- The worked examples of areas hold by computing.
use Rattle.std.specs.Prelude.{refl}
use Rattle.std.specs.Fmt.{digits}
use Rattle.pli_operation.specs.Operations.{calculated}
use Rattle.pli_world.specs.World.{nothing, made_of, parts_held, parts_stored, held, stored, entered, left_by, at_statement, stepped, height_of, slot_place, static_place, printed, error_at}
use Rattle.pli_world.specs.Areas.{area_found, allocated_in, emptied, assigned, offset_in, pointer_in}
use Rattle.pli_world.specs.Locating.{located, based, based_freed, addressed, place_by, freed_by, block_made, address_of, offset_made, pointer_within}
use Rattle.pli_meaning_tree.specs.examples.AreaExamples as example

pub offset_copied : example.OffsetCopied
unfolding calculated nothing made_of parts_held parts_stored held stored entered left_by at_statement stepped height_of slot_place static_place area_found allocated_in emptied assigned offset_in pointer_in located based based_freed addressed place_by freed_by block_made address_of offset_made pointer_within printed error_at digits
offset_copied = refl

pub dead_header_named : example.DeadHeaderNamed
unfolding calculated nothing made_of parts_held parts_stored held stored entered left_by at_statement stepped height_of slot_place static_place area_found allocated_in emptied assigned offset_in pointer_in located based based_freed addressed place_by freed_by block_made address_of offset_made pointer_within printed error_at digits
dead_header_named = (refl, refl)

pub area_full : example.AreaFull
unfolding calculated nothing made_of parts_held parts_stored held stored entered left_by at_statement stepped height_of slot_place static_place area_found allocated_in emptied assigned offset_in pointer_in located based based_freed addressed place_by freed_by block_made address_of offset_made pointer_within printed error_at digits
area_full = refl

pub outside_area_named : example.OutsideAreaNamed
unfolding calculated nothing made_of parts_held parts_stored held stored entered left_by at_statement stepped height_of slot_place static_place area_found allocated_in emptied assigned offset_in pointer_in located based based_freed addressed place_by freed_by block_made address_of offset_made pointer_within printed error_at digits
outside_area_named = (refl, refl, refl)

pub block_freed : example.BlockFreed
unfolding calculated nothing made_of parts_held parts_stored held stored entered left_by at_statement stepped height_of slot_place static_place area_found allocated_in emptied assigned offset_in pointer_in located based based_freed addressed place_by freed_by block_made address_of offset_made pointer_within printed error_at digits
block_freed = refl

pub list_in_area : example.ListInArea
unfolding calculated nothing made_of parts_held parts_stored held stored entered left_by at_statement stepped height_of slot_place static_place area_found allocated_in emptied assigned offset_in pointer_in located based based_freed addressed place_by freed_by block_made address_of offset_made pointer_within printed error_at digits
list_in_area = refl

pub no_area_is_error : example.NoAreaIsError
unfolding calculated nothing made_of parts_held parts_stored held stored entered left_by at_statement stepped height_of slot_place static_place area_found allocated_in emptied assigned offset_in pointer_in located based based_freed addressed place_by freed_by block_made address_of offset_made pointer_within printed error_at digits
no_area_is_error = refl
