use Rattle.pli_include.proofs.LevelNeverMet.{level_is_never_met}
use Rattle.pli_include.proofs.laws.level_is_never_met.Goals as goal

pub returns : goal.returns
returns c = level_is_never_met
