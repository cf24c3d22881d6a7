use Rattle.std.proofs.lemmas.Bool.Decides.{same_from_decides}
use Rattle.std.proofs.lemmas.Slice.Eq.{slice_eq-Decides}
use Rattle.pli_map.specs.Same.{same_bounds}
use Rattle.pli_map.specs.laws.SameLaws.{bounds-Decides, all_bounds-Decides}
use Rattle.pli_map.proofs.parameter.are_same_bounds.Goals as goal

pub returns : goal.returns
returns c =
    let left = c.args.left.now in
    let right = c.args.right.now in
    same_from_decides c.eq.result (same_bounds left right) (slice_eq-Decides bounds-Decides left right _ c.eq.ensures) (all_bounds-Decides left right)
