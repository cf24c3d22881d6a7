use Rattle.pli_locators.proofs.AreaLawsHold as proof
use Rattle.pli_locators.proofs.laws.ends_are_final.Goals as goal

pub returns-clause-freed : goal.returns-clause-freed
returns-clause-freed c = proof.freed_block_is_dead

pub returns-clause-generation : goal.returns-clause-generation
returns-clause-generation c = proof.ends_with_generation

pub returns-clause-offsets : goal.returns-clause-offsets
returns-clause-offsets c = proof.offsets_keep_their_meaning
