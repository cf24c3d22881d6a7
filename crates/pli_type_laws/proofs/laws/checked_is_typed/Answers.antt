use Rattle.pli_type_laws.proofs.CheckedUnits as law
use Rattle.pli_type_laws.proofs.laws.checked_is_typed.Goals as goal

pub returns : goal.returns
returns c = law.checked_is_typed
