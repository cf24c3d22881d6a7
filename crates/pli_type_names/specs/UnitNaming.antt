-- What the names of a unit mean, and its procedures, by its tree.
use Rattle.std.specs.Prelude.{ℕ, Bool, List, ◌∷◌, drop, refl}
use Rattle.std.specs.Coded.{Coded, code_by, coded×, coded_list, coded_ℕ}
use Rattle.pli_base.specs.contracts.statement.Body.TheKnot.{coded-Procedure}
use Rattle.pli_base.specs.declared.statement.Procedure.{Procedure}
use Rattle.pli_base.specs.views.StatementView.{unit_view}
use Rattle.pli_declare.specs.ResolvedUnits.{resolved_unit_of}
use Rattle.pli_type_rules.specs.NamedUnits.{named_procedure, named_unit}
use Rattle.pli_type_rules.specs.Names.{Naming, NamedProcedure}

-- a unit, and the blocks around, the innermost first
pub record Names : Type 0 where
  pub unit : Procedure
  pub blocks : List ℕ

-- they are told by the unit and the blocks
abbrev pub names_code : Coded Names
names_code =
    code_by (Procedure × List ℕ) (coded× coded-Procedure (coded_list coded_ℕ)) (λ n. (n.unit, n.blocks))
    (λ p. record { unit = p.0; blocks = p.1 }) (λ _. refl)

-- inside one more block
abbrev pub inside : Names → (block : ℕ) → Names
inside n block = record { unit = n.unit; blocks = block ∷ n.blocks }

-- outside of the innermost
abbrev pub outside : Names → Names
outside n = record { unit = n.unit; blocks = drop 1 n.blocks }

-- numbers have at most 63 binary digits
unfoldable pub naming_in : Names → Naming
naming_in n = (named_unit 63 (resolved_unit_of (unit_view n.unit))).naming n.blocks

-- at which tokens the name of a BASED variable stands; this is the same in all blocks
unfoldable pub based_in : Names → (at : ℕ) → Bool
based_in n = (named_unit 63 (resolved_unit_of (unit_view n.unit))).is_based

-- a block as a procedure: what its parameters are, what it gives, and the area that its RETURNS names
unfoldable pub procedure_in : Names → (block : ℕ) → NamedProcedure
procedure_in n block = named_procedure 63 (resolved_unit_of (unit_view n.unit)) n.blocks block
