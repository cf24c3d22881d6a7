-- Bytes with which variables begin.
use Rattle.std.specs.Prelude.{◌≡◌, ℕ, List, length}
use Rattle.pli_bytes.specs.Contents.{values_of}
use Rattle.pli_map.specs.Sizes.{size_of}
use Rattle.pli_type_tree.specs.Templates.{Template, variable_of}

-- bytes hold what a variable of a template begins with
pub record IsLaid (t : Template) (bytes : List ℕ) : Type 0 where
  pub size : length bytes ≡ size_of t.description
  pub values : values_of t.description bytes ≡ (variable_of t).initial
