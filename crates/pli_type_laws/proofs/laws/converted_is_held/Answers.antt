use Rattle.pli_type_laws.proofs.Conversions as law
use Rattle.pli_type_laws.proofs.laws.converted_is_held.Goals as goal

pub returns : goal.returns
returns c = law.converted_is_held
