-- Units whose declarations have no fault are typed as the type checker finds.
use Rattle.std.specs.Prelude.{◌≡◌, []}
use Rattle.std.proofs.Common.{ap, ◌∙◌}
use Rattle.pli_base.specs.Statements.{ExternalProcedure}
use Rattle.pli_declarations.specs.Units as declarations
use Rattle.pli_declarations.proofs.UnitsAlike.{units_alike}
use Rattle.pli_declare.specs.Resolution.{resolution_faults}
use Rattle.pli_declare.specs.ResolvedUnits.{resolved_unit_of}
use Rattle.pli_type_rules.specs.NamedUnits.{checked_unit}
use Rattle.pli_type_unit.proofs.LimitsAlike.{units_are_checked}
use Rattle.pli_type_unit.specs.Statements.{typed_unit}

pub declared_units : (u : ExternalProcedure) → resolution_faults u ≡ [] → typed_unit (declarations.resolved_unit_of u) ≡ checked_unit (resolved_unit_of u)
declared_units u none = ap typed_unit (units_alike u) ∙ units_are_checked u none
