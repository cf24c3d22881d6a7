use Rattle.std.proofs.Common.{◌≡◌, true, take, drop}
use Rattle.std.specs.List.{list_all}
use Rattle.pli_declare.specs.Extents.{are_good, all_bounds}
use Rattle.pli_declare_attributes.proofs.extents.all_described.Given as goal

abbrev pub invariant-loop-bounds : goal.invariant-loop-bounds
invariant-loop-bounds l =
    record {
      done : l.all.items ≡ all_bounds (take l.bounds-index l.dimensions);
      good : list_all are_good (drop l.bounds-index l.dimensions) ≡ true;
    }
