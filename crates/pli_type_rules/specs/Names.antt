-- What names mean where types are asked for, and a unit as types see it.
use Rattle.std.specs.Prelude.{ℕ, Bool, Option, List}
use Rattle.pli_base.specs.Statements.{ExternalProcedure}
use Rattle.pli_map.specs.Description.{Description}
use Rattle.pli_map.specs.ParameterTypes.{ParameterType}
use Rattle.pli_declare.specs.declared.built_in.BuiltInFunction.{BuiltInFunction}
use Rattle.pli_type_rules.specs.declared.beginning.Beginning.{Beginning}
use Rattle.pli_type_tree.specs.Templates.{Template}
use Rattle.pli_type_tree.specs.TypedTree.{Callee, Global, Root, TypedReference}

-- a variable that leads to BASED ones: a POINTER; or an OFFSET, with the area that its declaration names,
-- seen from where it is used
pub data LocatorVariable : Type 0 where
  OfPointer : (reference : TypedReference) → LocatorVariable
  OfOffset : (reference : TypedReference) (area : Beginning) → LocatorVariable

-- where the storage of a variable is, seen from where its name is used: where it begins, and whether it is a
-- parameter; or, of the BASED variable of a number among those of a block, wherever a locator leads, which is
-- the one that BASED names where no other is written, if it names one
pub data NamedStorage : Type 0 where
  Begins : (root : Root) (is_parameter : Bool) → NamedStorage
  IsBased : (block number : ℕ) (implied : Option LocatorVariable) → NamedStorage

-- a variable of its own, or a member of one: where the variable's storage is, the type of the whole variable,
-- which is open where a `*` stands in a parameter, and the members on the way, each counted from 0; and the
-- area that OFFSET in its declaration names, seen from where its name is used
pub record NamedVariable : Type 0 where
  pub storage : NamedStorage
  pub whole : ParameterType
  pub path : List ℕ
  pub area : Option Beginning

-- a procedure: what a call of it calls, what its parameters are, what it gives if it is a function, and the
-- area that OFFSET in its RETURNS names, seen from where its name is used
pub record NamedProcedure : Type 0 where
  pub callee : Callee
  pub parameters : List ParameterType
  pub returned : Option Description
  pub area : Option Beginning

-- what a name means where it is used: a variable, a built-in function, a procedure, the label of a statement,
-- or what has no type
pub data NamedAs : Type 0 where
  AVariable : (variable : NamedVariable) → NamedAs
  AFunction : (function : BuiltInFunction) → NamedAs
  AProcedure : (procedure : NamedProcedure) → NamedAs
  ALabel : (statement : ℕ) → NamedAs
  Untyped : NamedAs

-- how many binary digits numbers have at most; what the BASED variables of a block are made from, in the
-- order of the text; the area that OFFSET names in the RETURNS of the function that is a block, seen from
-- here; and what the name at a token means: the first name of each reference between arrows, the name in CALL
-- and in ALLOCATE, and the label in GOTO
pub record Naming : Type 0 where
  pub greatest : ℕ
  pub based : (block : ℕ) → List Template
  pub returned_area : (block : ℕ) → Option Beginning
  pub meaning : (at : ℕ) → NamedAs

-- a unit without faults of declarations: its tree; at which tokens stands the name of a BASED variable, for
-- which ALLOCATE has a temporary; what its names mean where these blocks stand around, the innermost first; of
-- each block what its parameters are, what it gives if it is that of a function, and what its AUTOMATIC
-- variables are made from; and the globals of all blocks
pub record NamedUnit : Type 0 where
  pub tree : ExternalProcedure
  pub is_based : (at : ℕ) → Bool
  pub naming : (blocks : List ℕ) → Naming
  pub parameters : (block : ℕ) → List ParameterType
  pub returned : (block : ℕ) → Option Description
  pub automatic : (block : ℕ) → List Template
  pub globals : List Global
