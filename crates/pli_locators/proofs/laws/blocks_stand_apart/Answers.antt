use Rattle.pli_locators.proofs.AreaLawsHold as proof
use Rattle.pli_locators.proofs.BlocksApart as apart
use Rattle.pli_locators.proofs.laws.blocks_stand_apart.Goals as goal

pub returns-clause-least : goal.returns-clause-least
returns-clause-least c = proof.least_is_taken

pub returns-clause-begins : goal.returns-clause-begins
returns-clause-begins c = apart.begins_apart

pub returns-clause-allocated : goal.returns-clause-allocated
returns-clause-allocated c = apart.allocated_apart

pub returns-clause-freed : goal.returns-clause-freed
returns-clause-freed c = apart.freed_apart

pub returns-clause-assigned : goal.returns-clause-assigned
returns-clause-assigned c = apart.assigned_apart
