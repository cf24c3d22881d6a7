use Rattle.pli_type_laws.proofs.NestingHolds as law
use Rattle.pli_type_laws.proofs.names.statements_nest.Goals as goal

pub returns : goal.returns
returns c = law.unit_nests
