use Rattle.pli_type_laws.proofs.Conversions as law
use Rattle.pli_type_laws.proofs.laws.printed_is_string.Goals as goal

pub returns : goal.returns
returns c = law.printed_is_string
