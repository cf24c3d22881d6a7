-- What the order of names amounts to, whatever way it is come to.
use Rattle.std.specs.Prelude.{List}
use Rattle.std.specs.Cmp.Lexicographic.{slice_cmp}
use Rattle.std.specs.Ordering.{nat_cmp}
use Rattle.pli_sort.specs.laws.SortingLaws.{Sorts}
use Rattle.pli_link.specs.Link.{in_order, name_alone}
use Rattle.pli_link.specs.declared.units.LinkedName.{LinkedName}

-- the order of linking is a stable sort by name
abbrev pub NamesAreSorted : Type 0
NamesAreSorted = (names : List LinkedName) → Sorts name_alone (slice_cmp nat_cmp) names (in_order names)
