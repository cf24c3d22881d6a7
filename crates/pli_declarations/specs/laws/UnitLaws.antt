-- What declarations and names of a unit mean is what the passes find (own).
use Rattle.std.specs.Prelude.{◌≡◌}
use Rattle.pli_base.specs.Statements.{ExternalProcedure}
use Rattle.pli_declare.specs.Resolution as found
use Rattle.pli_declare.specs.ResolvedUnits as found_units
use Rattle.pli_declarations.specs.Units.{resolution_faults, resolved_unit_of}

-- the faults of the declarations of a unit are those that are found
abbrev pub FaultsAreFound : Type 0
FaultsAreFound = (u : ExternalProcedure) → resolution_faults u ≡ found.resolution_faults u

-- the resolved unit is the one that is found
abbrev pub UnitsAreFound : Type 0
UnitsAreFound = (u : ExternalProcedure) → resolved_unit_of u ≡ found_units.resolved_unit_of u
