-- Templates (own): what a variable is made from, as a unit writes it.
use Rattle.std.specs.Prelude.{ℕ, List, []}
use Rattle.pli_map.specs.Description.{Description}
use Rattle.pli_value.specs.Value.{Value}

-- an initial value, and the byte of the variable on which the scalar begins that has it
pub record InitialScalar : Type 0 where
  pub offset : ℕ
  pub value : Value

-- a description, and initial values in the order of the text
pub record Template : Type 0 where
  pub description : Description
  pub initial : List InitialScalar

-- a dummy argument is made from a template without initial values
abbrev pub dummy : Description → Template
dummy d = record { description = d; initial = [] }
