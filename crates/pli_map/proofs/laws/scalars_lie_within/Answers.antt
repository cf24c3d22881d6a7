use Rattle.pli_map.proofs.laws.scalars_lie_within.Goals as goal
use Rattle.pli_map.proofs.ScalarLawsHold.{scalars_lie_within}

pub returns : goal.returns
returns c = scalars_lie_within
