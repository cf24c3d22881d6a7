-- What the code of a unit is, by items and as it is emitted.
use Rattle.std.specs.Prelude.{◌≡◌}
use Rattle.pli_type_tree.specs.TypedTree.{TypedUnit}
use Rattle.pli_gen_emit.specs.Coding as by_items
use Rattle.pli_gen_emit.specs.Encoding as emitted

-- the code that is emitted is that of the items
abbrev pub CodesAlike : Type 0
CodesAlike = (u : TypedUnit) → by_items.code_of u ≡ emitted.code_of u
