use Rattle.pli_type_bounds.proofs.UnitsFit as law
use Rattle.pli_type_bounds.proofs.laws.typed_units_are_well_formed.Goals as goal

pub returns : goal.returns
returns c = law.typed_units_are_well_formed
