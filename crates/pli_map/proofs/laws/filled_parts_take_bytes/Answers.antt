use Rattle.pli_map.proofs.laws.filled_parts_take_bytes.Goals as goal
use Rattle.pli_map.proofs.ScalarLawsHold.{filled_parts_take_bytes}

pub returns : goal.returns
returns c = filled_parts_take_bytes
