use Rattle.pli_area.proofs.FirstFits.{first_is_least}
use Rattle.pli_area.proofs.laws.first_hole_is_least.Goals as goal

pub returns : goal.returns
returns c = first_is_least
