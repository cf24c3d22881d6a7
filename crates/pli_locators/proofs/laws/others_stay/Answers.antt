use Rattle.pli_locators.proofs.LivingBeside as proof
use Rattle.pli_locators.proofs.laws.others_stay.Goals as goal

pub returns-clause-allocated : goal.returns-clause-allocated
returns-clause-allocated c = proof.beside_allocated

pub returns-clause-freed : goal.returns-clause-freed
returns-clause-freed c = proof.beside_freed

pub returns-clause-stacks : goal.returns-clause-stacks
returns-clause-stacks c = proof.stacks_beside
