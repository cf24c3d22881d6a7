use Rattle.pli_type_laws.proofs.Units as law
use Rattle.pli_type_laws.proofs.laws.typed_units_are_typed.Goals as goal

pub returns : goal.returns
returns c = law.unit_is_typed
