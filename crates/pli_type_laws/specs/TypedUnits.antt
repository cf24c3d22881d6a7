-- What the type checker gives is well typed and numbered well (own).
use Rattle.std.specs.Prelude.{◌≡◌, ℕ, Bool, true, Option, None, List, [], Ok}
use Rattle.pli_base.specs.Statements.{ExternalProcedure}
use Rattle.pli_base.specs.Words.{Tokens}
use Rattle.pli_gen.specs.WellNumbered.{IsWellNumbered}
use Rattle.pli_map.specs.Description.{Description}
use Rattle.pli_map.specs.ParameterTypes.{ParameterType}
use Rattle.pli_meaning_typed.specs.TypedPrograms.{IsTypedUnit}
use Rattle.pli_parse_expression.specs.Expressions.{Deeper}
use Rattle.pli_parse_expression.specs.Operators.{nesting_limit}
use Rattle.pli_parse_statement.specs.StatementReading.{unit_of}
use Rattle.pli_declare.specs.ResolvedUnits.{resolved_unit_of}
use Rattle.pli_type_rules.specs.Checked.{checked}
use Rattle.pli_type_rules.specs.NamedUnits.{checked_unit}
use Rattle.pli_type_rules.specs.Names.{NamedAs, NamedUnit}
use Rattle.pli_type_rules.specs.declared.beginning.Beginning.{Beginning}
use Rattle.pli_type_laws.specs.NameFacts.{KnowsBased, NameFacts}
use Rattle.pli_type_laws.specs.Nesting.{ListNests}
use Rattle.pli_type_laws.specs.Numbering.{AreNumbered}
use Rattle.pli_type_tree.specs.Templates.{Template}
use Rattle.pli_type_tree.specs.TypedTree.{Global, TypedUnit}

-- A unit whose statements are numbered in the order of the text, from any number on, and nest within the
-- limit, and in which it is known where BASED variables are named, gives a typed unit that is numbered well.
abbrev pub TypedUnitsAreNumbered : Type 0
TypedUnitsAreNumbered =
    (u : NamedUnit) (t : TypedUnit) (from : ℕ) → AreNumbered from u.tree.statements
    → Deeper (λ m. ListNests true m u.tree.statements) nesting_limit → KnowsBased u → checked u ≡ Ok t
    → IsWellNumbered t

-- a unit by its parts, where numbers have at most 63 binary digits
abbrev pub unit_with : ExternalProcedure → (is_based : ℕ → Bool)
    → (based : (blocks : List ℕ) → (block : ℕ) → List Template)
    → (areas : (blocks : List ℕ) → (block : ℕ) → Option Beginning)
    → (meaning : (blocks : List ℕ) → ℕ → NamedAs)
    → (parameters : (block : ℕ) → List ParameterType) → (returned : (block : ℕ) → Option Description)
    → (automatic : (block : ℕ) → List Template) → (globals : List Global) → NamedUnit
unit_with tree is_based based areas meaning parameters returned automatic globals = record {
  tree = tree;
  is_based = is_based;
  naming = λ blocks. record {
    greatest = 63;
    based = based blocks;
    returned_area = areas blocks;
    meaning = meaning blocks;
  };
  parameters = parameters;
  returned = returned;
  automatic = automatic;
  globals = globals;
}

-- A unit whose names mean variables and procedures that are there, whose variables begin with values that
-- they hold, and whose procedures stand directly in blocks, gives a typed unit that is well typed.
abbrev pub TypedUnitsAreTyped : Type 0
TypedUnitsAreTyped =
    (tree : ExternalProcedure) (is_based : ℕ → Bool)
    (based : (blocks : List ℕ) → (block : ℕ) → List Template)
    (areas : (blocks : List ℕ) → (block : ℕ) → Option Beginning) (meaning : (blocks : List ℕ) → ℕ → NamedAs)
    (parameters : (block : ℕ) → List ParameterType) (returned : (block : ℕ) → Option Description)
    (automatic : (block : ℕ) → List Template) (globals : List Global)
    → NameFacts (unit_with tree is_based based areas meaning parameters returned automatic globals)
    → Deeper (λ m. ListNests true m tree.statements) nesting_limit → (t : TypedUnit)
    → checked (unit_with tree is_based based areas meaning parameters returned automatic globals) ≡ Ok t
    → IsTypedUnit 63 t

-- the procedure of a unit with which a program may begin takes nothing and gives nothing
abbrev pub MainTakesNothing : TypedUnit → Type 0
MainTakesNothing u = u.is_main ≡ true → u.signature ≡ record { parameters = []; result = None }

-- What the type checker gives for a unit that was read is well typed and numbered well, and a program may
-- begin with it if it is MAIN.
abbrev pub CheckedIsTyped : Type 0
CheckedIsTyped =
    (texts : Tokens) (u : ExternalProcedure) → unit_of texts ≡ Ok u → (t : TypedUnit)
    → checked_unit (resolved_unit_of u) ≡ Ok t → IsTypedUnit 63 t × IsWellNumbered t × MainTakesNothing t
