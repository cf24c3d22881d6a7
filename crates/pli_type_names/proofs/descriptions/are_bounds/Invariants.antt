use Rattle.std.proofs.Common.{◌≡◌, drop}
use Rattle.pli_type_rules.specs.NamedUnits.{are_bounds}
use Rattle.pli_type_names.proofs.descriptions.are_bounds.Given as goal

-- whether these are bounds is what the dimensions that are left say
abbrev pub invariant-loop-dimension : goal.invariant-loop-dimension
invariant-loop-dimension l = are_bounds (drop l.dimension-index l.bounds) ≡ are_bounds l.bounds
