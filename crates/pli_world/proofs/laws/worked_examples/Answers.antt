use Rattle.std.specs.Prelude.{refl}
use Rattle.pli_world.specs.World.{nothing, made_of, parts_held, parts_stored, held, stored, copied, entered, cleared, left_by, height_of, slot_place, dummy_of, static_place}
use Rattle.pli_world.specs.Stacks.{stacked, unstacked, counted, stack_named, generation_stacked, generation_unstacked, generations_counted}
use Rattle.pli_world.specs.Strings.{subscripted_by, bound_of_place, string_as}
use Rattle.pli_world.proofs.laws.worked_examples.Goals as goal

-- each by computing it
pub returns : goal.returns
unfolding nothing made_of held stored copied parts_held parts_stored entered cleared left_by height_of
    slot_place dummy_of static_place stacked unstacked counted stack_named generation_stacked
    generation_unstacked generations_counted subscripted_by bound_of_place string_as
returns c = record {
  outer_variable = refl;
  dummy_number = refl;
  dummy_ends = refl;
  too_long = refl;
  dummy_dead = refl;
  part_stored = refl;
  part_held = refl;
  element_copied = refl;
  aggregate_held = refl;
  no_element = (refl, refl);
  too_far = (refl, refl, refl, refl);
  no_part = refl;
  static_stays = refl;
  static_of_other = refl;
  newest_of_stack = (refl, refl);
  none_at_first = (refl, refl, refl, refl);
  newest_first = (refl, refl, refl);
  static_is_not_allocated = (refl, refl, refl);
  external_is_shared = refl;
  dummy_of_length = refl;
  dummy_of_nothing = (refl, refl, refl);
  no_string_dummy = (refl, refl);
  element_of_grid = refl;
  out_of_grid = refl;
  no_dimension = (refl, refl, refl);
  bounds_of_grid = (refl, refl);
  fitted_to_place = (refl, refl, refl, refl);
}
