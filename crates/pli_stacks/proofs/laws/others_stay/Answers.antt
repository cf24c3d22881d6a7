use Rattle.pli_stacks.proofs.LivingBeside as proof
use Rattle.pli_stacks.proofs.laws.others_stay.Goals as goal

pub returns-clause-stacked : goal.returns-clause-stacked
returns-clause-stacked c = proof.beside_stacked

pub returns-clause-newest : goal.returns-clause-newest
returns-clause-newest c = proof.newest_goes

pub returns-clause-others : goal.returns-clause-others
returns-clause-others c = proof.other_stacks
