use Rattle.pli_type_laws.proofs.NumberedUnits as law
use Rattle.pli_type_laws.proofs.laws.typed_units_are_numbered.Goals as goal

pub returns : goal.returns
returns c = law.units_are_numbered
