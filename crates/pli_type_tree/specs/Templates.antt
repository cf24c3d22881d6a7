-- Templates (own): what a variable is made from. Initial values stand as they are written, also where they
-- equal the value with which their scalar would begin without them.
use Rattle.std.specs.Prelude.{List, [], ◌∷◌}
use Rattle.pli_map.specs.ScalarPlaces.{scalars_at, with_value_on}
use Rattle.pli_map.specs.PlacedParts.{PlacedPart}
use Rattle.pli_value.specs.Value.{Value}
use Rattle.pli_map.specs.Values.{first_values}
use Rattle.pli_map.specs.Variables.{Variable}
pub use Rattle.pli_program.specs.Templates.{InitialScalar, Template}

-- the values of these scalars, with initial values in the place of those of theirs, one after another
abbrev pub with_initial : List PlacedPart → List InitialScalar → List Value → List Value
with_initial ss [] vs = vs
with_initial ss (i ∷ is) vs = with_initial ss is (with_value_on i.offset i.value ss vs)

-- a variable as a template has it: each scalar begins with its initial value, or with the one of its type
abbrev pub variable_of : Template → Variable
variable_of t = record {
  description = t.description;
  initial = with_initial (scalars_at t.description) t.initial (first_values t.description);
}
