use Rattle.pli_type_laws.proofs.NameFactsHold as law
use Rattle.pli_type_laws.proofs.names.names_mean_variables.Goals as goal

pub returns : goal.returns
returns c = law.facts_hold
