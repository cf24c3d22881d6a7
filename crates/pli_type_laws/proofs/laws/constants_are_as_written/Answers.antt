use Rattle.pli_type_laws.proofs.Constants as law
use Rattle.pli_type_laws.proofs.laws.constants_are_as_written.Goals as goal

pub returns : goal.returns
returns c = law.constants_are_as_written
