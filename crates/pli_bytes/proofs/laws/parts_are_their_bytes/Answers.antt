use Rattle.pli_bytes.proofs.laws.parts_are_their_bytes.Goals as goal
use Rattle.pli_bytes.proofs.PartsOfBytes.{part_copied, part_put, part_values}
use Rattle.pli_bytes.proofs.Scalars.{counted, described}

pub returns : goal.returns
returns c = record { counted = counted; described = described; values = part_values; put = part_put; copied = part_copied }
