use Rattle.pli_declare_scopes.proofs.OwnersFound.{owners_are_nearest}
use Rattle.pli_declare_scopes.proofs.laws.owners_are_nearest.Goals as goal

pub returns-clause-found : goal.returns-clause-found
returns-clause-found c = owners_are_nearest
