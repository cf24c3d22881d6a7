-- What the type checker finds of the names of a unit is what they mean (own).
use Rattle.std.specs.Prelude.{◌≡◌, []}
use Rattle.pli_base.specs.Statements.{ExternalProcedure}
use Rattle.pli_declare.specs.Resolution.{resolution_faults}
use Rattle.pli_declare.specs.ResolvedUnits.{resolved_unit_of}
use Rattle.pli_type_rules.specs.NamedUnits.{checked_unit}
use Rattle.pli_type_unit.specs.Statements.{typed_unit}

-- where the declarations of a unit have no fault, what it is typed as, or its faults of types, is what the type
-- checker gives, which looks for the limits of the language itself and counts as it goes
abbrev pub UnitsAreChecked : Type 0
UnitsAreChecked =
    (u : ExternalProcedure) → resolution_faults u ≡ []
    → typed_unit (resolved_unit_of u) ≡ checked_unit (resolved_unit_of u)
