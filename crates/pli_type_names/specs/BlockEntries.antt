-- What is found once for each block of a unit, for the procedures among them.
use Rattle.std.specs.Prelude.{ℕ, Bool, ◌&&◌, Option, None, Some, List, []}
use Rattle.pli_map.specs.Description as described
use Rattle.pli_map.specs.Description.{Description}
use Rattle.pli_map.specs.ParameterTypes.{ParameterType, Stated}
use Rattle.pli_declare.specs.ResolvedUnits.{ResolvedUnit, ResolvedBlock}
use Rattle.pli_declare.specs.Symbols.{SymbolKind, Variable, OpenParameter, Procedure}
use Rattle.pli_declare.specs.declared.symbol.SymbolKey.{SymbolKey}
use Rattle.pli_type_rules.specs.NamedUnits.{gives_stored, is_procedure, parameters_of, returned_of}
use Rattle.pli_type_rules.specs.NamedUnits.{returned_area_of}

-- whether it is a procedure whose value, if it gives one, a variable could hold; the block round it; what its
-- parameters are, and what it gives; and the area that OFFSET in its RETURNS names
pub record BlockEntry : Type 0 where
  pub is_named : Bool
  pub outer : Option ℕ
  pub parameters : List ParameterType
  pub returned : Option Description
  pub area : Option SymbolKey

-- what is found for a block
abbrev pub entry_at : ResolvedUnit → (number : ℕ) → ResolvedBlock → BlockEntry
entry_at r number b = record {
  is_named = is_procedure b.kind && gives_stored 63 (returned_of r number);
  outer = b.outer;
  parameters = parameters_of r number;
  returned = returned_of r number;
  area = returned_area_of r number;
}

-- what a variable of its own is, or a parameter in which a `*` stands
abbrev pub type_with : SymbolKind → ParameterType
type_with (Variable description class scope initial area) = Stated description
type_with (OpenParameter type slot area) = type
type_with other = Stated described.Pointer

-- what a procedure gives
abbrev pub returned_with : SymbolKind → Option Description
returned_with (Procedure block returned area) = returned
returned_with other = None

-- the area that OFFSET in its RETURNS names
abbrev pub area_with : SymbolKind → Option SymbolKey
area_with (Procedure block returned area) = area
area_with other = None

-- the parameters of an entry that may not be there
abbrev pub parameters_in : Option BlockEntry → List ParameterType
parameters_in None = []
parameters_in (Some e) = e.parameters

-- what it gives
abbrev pub returned_in : Option BlockEntry → Option Description
returned_in None = None
returned_in (Some e) = e.returned

-- the area that OFFSET in its RETURNS names
abbrev pub area_of : Option BlockEntry → Option SymbolKey
area_of None = None
area_of (Some e) = e.area
