use Rattle.std.proofs.Common.{◌≡◌, drop}
use Rattle.pli_declare.specs.Extents.{has_star}
use Rattle.pli_declare_attributes.proofs.extents.any_star.Given as goal

abbrev pub invariant-loop-bounds : goal.invariant-loop-bounds
invariant-loop-bounds l = has_star (drop l.bounds-index l.dimensions) ≡ has_star l.dimensions
