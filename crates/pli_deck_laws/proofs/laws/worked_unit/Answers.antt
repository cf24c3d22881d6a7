use Rattle.pli_deck_laws.proofs.WorkedUnit.{worked_is_well_formed}
use Rattle.pli_deck_laws.proofs.laws.worked_unit.Goals as goal

pub returns : goal.returns
returns c = worked_is_well_formed
