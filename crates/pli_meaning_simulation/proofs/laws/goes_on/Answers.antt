use Rattle.pli_meaning_simulation.proofs.ProgramsGoOn.{growth}
use Rattle.pli_meaning_simulation.proofs.laws.goes_on.Goals as goal

pub returns : goal.returns
returns c = growth
