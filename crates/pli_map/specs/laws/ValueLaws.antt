-- Which values scalars begin with.
use Rattle.std.specs.Prelude.{IsTrue}
use Rattle.pli_map.specs.Description.{Description}
use Rattle.pli_map.specs.Scalars.{scalars_of}
use Rattle.pli_map.specs.Values.{are_held, first_values}

-- each scalar of each description begins with a value that it may hold
abbrev pub FirstValuesAreHeld : Type 0
FirstValuesAreHeld = (d : Description) → IsTrue (are_held (scalars_of d) (first_values d))
