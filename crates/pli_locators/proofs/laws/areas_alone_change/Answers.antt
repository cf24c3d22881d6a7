use Rattle.pli_locators.proofs.StorageAlone as proof
use Rattle.pli_locators.proofs.laws.areas_alone_change.Goals as goal

pub returns-clause-allocating : goal.returns-clause-allocating
returns-clause-allocating c = proof.allocating_in_stays

pub returns-clause-emptying : goal.returns-clause-emptying
returns-clause-emptying c = proof.emptying_stays

pub returns-clause-assigning : goal.returns-clause-assigning
returns-clause-assigning c = proof.assigning_stays

pub returns-clause-offset : goal.returns-clause-offset
returns-clause-offset c = proof.offset_stays

pub returns-clause-pointer : goal.returns-clause-pointer
returns-clause-pointer c = proof.pointer_stays
