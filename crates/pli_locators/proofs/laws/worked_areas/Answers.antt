use Rattle.std.specs.Prelude.{refl}
use Rattle.pli_world.specs.Areas.{area_found, allocated_in, emptied, assigned, offset_in, pointer_in}
use Rattle.pli_world.specs.World.{nothing, made_of, held, stored, copied, parts_held, parts_stored}
use Rattle.pli_world.specs.Locating.{located, based, based_allocated, based_freed, addressed}
use Rattle.pli_locators.proofs.laws.worked_areas.Goals as goal

-- each by computing it
pub returns : goal.returns
unfolding nothing made_of held stored copied parts_held parts_stored located based based_allocated based_freed addressed area_found allocated_in
    emptied assigned offset_in pointer_in
returns c = record {
  block_begins = (refl, refl);
  third_finds_no_room = (refl, refl);
  hole_is_taken = refl;
  order_of_errors = (refl, refl, refl, refl, refl);
  outside_as_before = (refl, refl);
  freed_is_dead = (refl, refl);
  place_is_tested_at_use = (refl, refl, refl);
  ends_with_generation = refl;
  other_blocks_stay = (refl, refl);
  block_is_copied = refl;
  address_of_block = refl;
  empty_has_room = (refl, refl);
  offsets_keep_their_meaning = (refl, refl);
  itself_stays = refl;
  pointers_as_offsets = (refl, refl, refl, refl, refl, refl);
  no_area_in_block = (refl, refl, refl);
}
