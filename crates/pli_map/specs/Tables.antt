-- Tables of descriptions (own): each stands in a table once, and its number is its place, from 0 on.
use Rattle.std.specs.Prelude.{◌≡◌, ℕ, Some, List, [], ◌∷◌, ◌++◌, slice_get, if◌then◌else◌}
use Rattle.std.specs.List.{list_any, position_or_len}
use Rattle.pli_map.specs.Description.{Description}
use Rattle.pli_map.specs.Same.{same}

-- the number of a description: that of the equal one that stands there, else the next one
abbrev pub number_in : List Description → Description → ℕ
number_in table d = position_or_len (same d) table

-- with a description, which stands after the others where none is equal
abbrev pub with_description : List Description → Description → List Description
with_description table d = if list_any (same d) table then table else table ++ d ∷ []

-- no two are equal
abbrev pub AreDistinct : List Description → Type 0
AreDistinct table =
    (i j : ℕ) (d : Description) → slice_get table i ≡ Some d → slice_get table j ≡ Some d → i ≡ j
