use Rattle.pli_initial_laws.proofs.InitialsFew as law
use Rattle.pli_initial_laws.proofs.laws.initial_values_are_few.Goals as goal

pub returns : goal.returns
returns c = law.initial_values_are_few
