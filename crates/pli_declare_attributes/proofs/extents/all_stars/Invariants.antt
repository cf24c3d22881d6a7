use Rattle.std.proofs.Common.{◌≡◌, drop}
use Rattle.std.specs.List.{list_all}
use Rattle.pli_declare.specs.Extents.{is_star}
use Rattle.pli_declare_attributes.proofs.extents.all_stars.Given as goal

abbrev pub invariant-loop-bounds : goal.invariant-loop-bounds
invariant-loop-bounds l = list_all is_star (drop l.bounds-index l.dimensions) ≡ list_all is_star l.dimensions
