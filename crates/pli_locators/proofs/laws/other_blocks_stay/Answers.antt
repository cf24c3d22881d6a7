use Rattle.pli_locators.proofs.AreaLawsHold as proof
use Rattle.pli_locators.proofs.laws.other_blocks_stay.Goals as goal

pub returns-clause-blocks : goal.returns-clause-blocks
returns-clause-blocks c = proof.other_blocks_stay

pub returns-clause-areas : goal.returns-clause-areas
returns-clause-areas c = proof.other_areas_stay
