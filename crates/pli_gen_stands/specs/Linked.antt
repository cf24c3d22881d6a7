-- The module of a program: the code of each unit; for each of its external variables the number of its name
-- among the module's externals; and for each of its entries the number of the unit whose external procedure
-- it names.
use Rattle.std.specs.Prelude.{◌≡◌, ℕ, Some, List, [], ◌∷◌, map, position}
use Rattle.pli_base.specs.Name.{Name}
use Rattle.pli_base.specs.Words.{same_name}
use Rattle.pli_type_tree.specs.TypedTree.{Global, OwnVariable, ExternalVariable, EntryPoint, TypedUnit}
use Rattle.pli_code.specs.Modules.{Member, Module}
use Rattle.pli_code.specs.Versions.{greatest_precision}
use Rattle.pli_gen_emit.specs.Encoding.{code_of}
use Rattle.pli_meaning_tree.specs.ProgramMeaning.{TypedProgram, unit_named}

-- the names of a module's external variables
abbrev pub external_names : Module → List Name
external_names m = map (λ e. e.name) m.externals

-- in a program of these units, whose external variables have these names
module _ (program : List TypedUnit) (names : List Name) where
  -- globals have these links: the external variables and the entries among them, in their order
  abbrev pub AreLinks : List Global → (links : List ℕ) → Type 0
  AreLinks [] [] = Unit {0}
  AreLinks [] (n ∷ ns) = ⊥
  AreLinks (OwnVariable kind t ∷ gs) links = AreLinks gs links
  AreLinks (ExternalVariable name kind t ∷ gs) [] = ⊥
  AreLinks (ExternalVariable name kind t ∷ gs) (n ∷ ns) =
      (position (same_name name) names ≡ Some n) × AreLinks gs ns
  AreLinks (EntryPoint name signature ∷ gs) [] = ⊥
  AreLinks (EntryPoint name signature ∷ gs) (n ∷ ns) = (unit_named program name ≡ Some n) × AreLinks gs ns

  -- a unit in the module of the program
  pub record IsUnitOf (t : TypedUnit) (m : Member) : Type 0 where
    pub name : m.name ≡ t.name
    pub code : m.deck.code ≡ code_of t
    pub links : AreLinks t.globals m.links

  -- units in it, one for one
  abbrev pub AreUnitsOf : List TypedUnit → List Member → Type 0
  AreUnitsOf [] [] = Unit {0}
  AreUnitsOf [] (m ∷ ms) = ⊥
  AreUnitsOf (t ∷ ts) [] = ⊥
  AreUnitsOf (t ∷ ts) (m ∷ ms) = IsUnitOf t m × AreUnitsOf ts ms

-- the module has the units of the program in their order, and the same main one; and its version numbers as
-- wide as the program
pub record IsModuleOf (t : TypedProgram) (m : Module) : Type 0 where
  pub units : AreUnitsOf t.units (external_names m) t.units m.units
  pub main : m.main ≡ t.main
  pub greatest : greatest_precision m.version ≡ t.greatest
