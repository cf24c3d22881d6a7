use Rattle.std.proofs.Common.{◌≡◌, drop}
use Rattle.std.specs.List.{list_all}
use Rattle.pli_declare.specs.Extents.{are_good}
use Rattle.pli_declare_attributes.proofs.extents.all_good.Given as goal

abbrev pub invariant-loop-bounds : goal.invariant-loop-bounds
invariant-loop-bounds l = list_all are_good (drop l.bounds-index l.dimensions) ≡ list_all are_good l.dimensions
