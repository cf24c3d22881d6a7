-- Variables (own): what their generations begin with.
use Rattle.std.specs.Prelude.{ℕ, Option, List}
use Rattle.pli_map.specs.Description.{Description}
use Rattle.pli_value.specs.Value.{Value}

-- a variable: its description, and the values with which its scalars begin
pub record Variable : Type 0 where
  pub description : Description
  pub initial : List Value

-- a static one: by what units know it, if they share it
pub record GlobalVariable (K : Type 0) : Type 0 where
  pub external : Option K
  pub variable : Variable

-- how many bytes of variables may live at once (own)
abbrev pub byte_limit : ℕ
byte_limit = 16777216
