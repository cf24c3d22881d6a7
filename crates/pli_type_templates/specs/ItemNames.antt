-- Which item of DECLARE a name is of. An item is told by two numbers: that of the mark that declares it, and
-- its own among the items of the mark. What an item says, its names have in common.
use Rattle.std.specs.Prelude.{◌≡◌, ◌≤◌, ℕ, Option, Some, option_and_then, option_map, slice_get, List, []}
use Rattle.std.specs.Prelude.{map, length, Contains}
use Rattle.pli_base.specs.Declarations.{Item}
use Rattle.pli_base.specs.Statements.{ExternalProcedure}
use Rattle.pli_base.specs.declared.declaration.InitialValue.{InitialValue}
use Rattle.pli_base.specs.declared.syntax.Identifier.{Identifier}
use Rattle.pli_declare.specs.Faults.{described_scalar, parameter_of, parameters_in, returned_in}
use Rattle.pli_declare.specs.Initials.{values_in}
use Rattle.pli_declare_outline.specs.Outlines.{Mark, Declared, PlacedMark, outline_of}
use Rattle.pli_map.specs.Description.{Description}
use Rattle.pli_map.specs.ParameterTypes.{ParameterType}
use Rattle.pli_declare.specs.Symbols.{Symbol, SymbolKind, Variable, Entry}
use Rattle.pli_type_templates.specs.declared.item_number.ItemNumber.{ItemNumber}

-- the items that a mark declares
abbrev pub items_of : Mark → List Item
items_of (Declared items) = items
items_of mark = []

-- the item under these numbers, if there is one
abbrev pub item_at : List PlacedMark → ItemNumber → Option Item
item_at marks number =
    option_and_then (λ p. slice_get (items_of p.mark) number.item) (slice_get marks number.mark)

-- the name at this token is one of the item under these numbers
pub record IsNameOf (marks : List PlacedMark) (at : ℕ) (number : ItemNumber) (item : Item) : Type 0 where
  pub there : item_at marks number ≡ Some item
  pub identifier : Identifier
  pub named : Contains item.names identifier
  pub here : identifier.at ≡ at

-- the name at this token is one of some item with these initial values
pub record HasValues (marks : List PlacedMark) (at : ℕ) (values : List InitialValue) : Type 0 where
  pub number : ItemNumber
  pub item : Item
  pub name : IsNameOf marks at number item
  pub said : values ≡ values_in item.attributes

-- the name at this token is one of some item that is an entry with these parameters and this result
pub record HasEntry (marks : List PlacedMark) (at : ℕ) (parameters : List ParameterType)
    (returned : Option Description) : Type 0
  where
    pub number : ItemNumber
    pub item : Item
    pub name : IsNameOf marks at number item
    pub taken : parameters ≡ map parameter_of (parameters_in item.attributes)
    pub given : returned ≡ option_map described_scalar (returned_in item.attributes)

-- what is declared at this token is what its item says
abbrev pub IsOfItem : List PlacedMark → (at : ℕ) → SymbolKind → Type 0
IsOfItem marks at (Variable description class scope initial area) = HasValues marks at initial
IsOfItem marks at (Entry parameters returned area) = HasEntry marks at parameters returned
IsOfItem marks at kind = Unit {0}

-- so is each of these symbols
abbrev pub AreOfItems : List PlacedMark → Symbol → Type 0
AreOfItems marks s = IsOfItem marks s.identifier.at s.kind

-- no more regions than a vector may hold
abbrev pub HasFewRegions : ExternalProcedure → Type 0
HasFewRegions u = length (outline_of u).regions ≤ 1152921504606846976

-- no more marks than a vector may hold
abbrev pub HasFewMarks : ExternalProcedure → Type 0
HasFewMarks u = length (outline_of u).marks ≤ 1152921504606846976
