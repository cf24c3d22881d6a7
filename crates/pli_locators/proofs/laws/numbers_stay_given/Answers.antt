use Rattle.pli_locators.proofs.NumbersGiven as proof
use Rattle.pli_locators.proofs.laws.numbers_stay_given.Goals as goal

pub returns-clause-new : goal.returns-clause-new
returns-clause-new c = proof.number_is_new

pub returns-clause-dead : goal.returns-clause-dead
returns-clause-dead c = proof.ended_is_dead

pub returns-clause-freed : goal.returns-clause-freed
returns-clause-freed c = proof.freed_is_dead

pub returns-clause-allocating : goal.returns-clause-allocating
returns-clause-allocating c = proof.ended_after_allocating

pub returns-clause-freeing : goal.returns-clause-freeing
returns-clause-freeing c = proof.ended_after_freeing
