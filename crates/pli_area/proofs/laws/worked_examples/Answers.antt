use Rattle.std.specs.Prelude.{refl}
use Rattle.pli_area.proofs.laws.worked_examples.Goals as goal

-- each by computing it
pub returns : goal.returns
returns c = record {
  two_blocks_fit = (refl, refl, refl);
  second_is_left = (refl, refl, refl, refl, refl);
  holes_join = (refl, refl, refl);
  holes_are_visited = (refl, refl, refl, refl);
  sizes_are_rounded = (refl, refl, refl, refl);
  bytes_stay = (refl, refl);
}
