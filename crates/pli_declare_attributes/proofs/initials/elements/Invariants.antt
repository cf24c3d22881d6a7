use Rattle.std.proofs.Common.{◌≡◌, ◌≤◌, ◌*◌, true, min, drop}
use Rattle.std.specs.List.{list_all}
use Rattle.pli_map.specs.Sizes.{count_of}
use Rattle.pli_declare.specs.Extents.{are_good, all_bounds}
use Rattle.pli_declare_attributes.proofs.initials.elements.Given as goal

-- the count so far times that of what is left is that of all, up to the limit
abbrev pub invariant-loop-bounds : goal.invariant-loop-bounds
invariant-loop-bounds l =
    record {
      whole : min (l.count * count_of (all_bounds (drop l.bounds-index l.dimensions))) 340282366920938463463374607431768211455 ≡ min (l.above * count_of (all_bounds l.dimensions)) 340282366920938463463374607431768211455;
      limit : l.count ≤ 340282366920938463463374607431768211455;
      good : list_all are_good (drop l.bounds-index l.dimensions) ≡ true;
    }
