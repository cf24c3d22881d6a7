use Rattle.pli_stacks.proofs.StorageAlone as proof
use Rattle.pli_stacks.proofs.laws.storage_alone_changes.Goals as goal

pub returns-clause-newest : goal.returns-clause-newest
returns-clause-newest c = proof.newest_stays

pub returns-clause-stacking : goal.returns-clause-stacking
returns-clause-stacking c = proof.stacking_stays

pub returns-clause-unstacking : goal.returns-clause-unstacking
returns-clause-unstacking c = proof.unstacking_stays

pub returns-clause-counting : goal.returns-clause-counting
returns-clause-counting c = proof.counting_stays

pub returns-clause-follows : goal.returns-clause-follows
returns-clause-follows c = proof.same_beside_follows
