use Rattle.std.proofs.lemmas.Slice.Eq.{slice_eq-Decides}
use Rattle.pli_map.specs.laws.SameLaws.{bounds-Decides}
use Rattle.pli_map.proofs.description.same_bounds.Goals as goal

pub returns : goal.returns
returns c = slice_eq-Decides bounds-Decides _ _ _ c.eq.ensures
