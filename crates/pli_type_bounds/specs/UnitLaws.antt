-- Typed units of texts without faults are well formed.
use Rattle.std.specs.Prelude.{◌≡◌, ◌≤◌, [], length, Ok}
use Rattle.pli_base.specs.Statements.{ExternalProcedure}
use Rattle.pli_base.specs.Words.{Tokens}
use Rattle.pli_deck_laws.specs.WellFormed.{IsWellFormed}
use Rattle.pli_declare.specs.Resolution.{resolution_faults}
use Rattle.pli_parse_statement.specs.StatementReading.{unit_of}
use Rattle.pli_declare.specs.ResolvedUnits.{resolved_unit_of}
use Rattle.pli_type_rules.specs.NamedUnits.{checked_unit}
use Rattle.pli_type_tree.specs.TypedTree.{TypedUnit}

-- what the type checker gives for a unit that was read of no more tokens than an expansion has, and whose
-- declarations have no faults, is well formed
abbrev pub TypedUnitsAreWellFormed : Type 0
TypedUnitsAreWellFormed =
    (texts : Tokens) (u : ExternalProcedure) (t : TypedUnit) → length texts ≤ 200000 → unit_of texts ≡ Ok u
    → resolution_faults u ≡ [] → checked_unit (resolved_unit_of u) ≡ Ok t → IsWellFormed t
