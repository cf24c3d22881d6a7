use Rattle.pli_stacks.proofs.NumbersGiven as proof
use Rattle.pli_stacks.proofs.laws.numbers_stay_given.Goals as goal

pub returns-clause-making : goal.returns-clause-making
returns-clause-making c = proof.ended_after_making

pub returns-clause-stacking : goal.returns-clause-stacking
returns-clause-stacking c = proof.ended_after_stacking

pub returns-clause-unstacking : goal.returns-clause-unstacking
returns-clause-unstacking c = proof.ended_after_unstacking
