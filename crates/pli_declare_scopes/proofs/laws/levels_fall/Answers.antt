use Rattle.pli_declare_scopes.proofs.OwnersFound.{levels_fall}
use Rattle.pli_declare_scopes.proofs.laws.levels_fall.Goals as goal

pub returns : goal.returns
returns c = levels_fall
