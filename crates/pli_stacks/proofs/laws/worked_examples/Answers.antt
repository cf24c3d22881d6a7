use Rattle.std.specs.Prelude.{refl}
use Rattle.pli_world.specs.Stacks.{newest, stacked, unstacked, counted}
use Rattle.pli_world.specs.World.{nothing, made_of, held, stored, parts_held, parts_stored}
use Rattle.pli_stacks.proofs.laws.worked_examples.Goals as goal

-- each by computing it
pub returns : goal.returns
unfolding nothing made_of held stored parts_held parts_stored newest stacked unstacked counted
returns c = record {
  newest_is_meant = (refl, refl);
  begins_again = refl;
  older_is_left = (refl, refl, refl);
  place_stays = refl;
  none_is_left = (refl, refl, refl, refl);
  no_stack = (refl, refl, refl);
}
