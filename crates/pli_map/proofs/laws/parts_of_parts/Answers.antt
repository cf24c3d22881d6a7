use Rattle.pli_map.proofs.laws.parts_of_parts.Goals as goal
use Rattle.pli_map.proofs.ScalarLawsHold.{parts_of_parts}

pub returns : goal.returns
returns c = parts_of_parts
