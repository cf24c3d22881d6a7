use Rattle.std.specs.Prelude.{refl}
use Rattle.pli_world.specs.Stacks.{newest, stacked}
use Rattle.pli_world.specs.World.{nothing, made_of, held, stored, parts_held, parts_stored}
use Rattle.pli_world.specs.Locating.{located, based, based_allocated, based_freed, addressed}
use Rattle.pli_locators.proofs.laws.worked_examples.Goals as goal

-- each by computing it
pub returns : goal.returns
unfolding nothing made_of held stored parts_held parts_stored located based based_allocated based_freed addressed newest stacked
returns c = record {
  allocated_begins = (refl, refl);
  allocated_again = (refl, refl);
  freed_twice = refl;
  null_is_refused = (refl, refl);
  other_is_refused = (refl, refl, refl);
  dead_before_other = refl;
  inside_is_dead = refl;
  offset_alone = (refl, refl);
  address_leads = (refl, refl);
  address_is_not_freed = refl;
  address_of_based = refl;
  address_of_part = (refl, refl);
  controlled_is_not_freed = refl;
}
