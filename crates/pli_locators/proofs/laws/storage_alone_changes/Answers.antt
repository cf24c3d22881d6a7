use Rattle.pli_locators.proofs.StorageAlone as proof
use Rattle.pli_locators.proofs.laws.storage_alone_changes.Goals as goal

pub returns-clause-locating : goal.returns-clause-locating
returns-clause-locating c = proof.locating_stays

pub returns-clause-based : goal.returns-clause-based
returns-clause-based c = proof.based_stays

pub returns-clause-allocating : goal.returns-clause-allocating
returns-clause-allocating c = proof.allocating_stays

pub returns-clause-freeing : goal.returns-clause-freeing
returns-clause-freeing c = proof.freeing_stays

pub returns-clause-address : goal.returns-clause-address
returns-clause-address c = proof.address_stays
