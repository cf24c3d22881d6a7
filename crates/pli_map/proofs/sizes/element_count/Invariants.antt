use Rattle.std.proofs.Common.{◌≡◌, ◌≤◌, ◌*◌, min, drop}
use Rattle.pli_map.specs.Sizes.{count_of}
use Rattle.pli_map.proofs.sizes.element_count.Given as goal

-- the count so far times that of what is left is that of all, up to the limit
abbrev pub invariant-loop-bounds : goal.invariant-loop-bounds
invariant-loop-bounds l =
    record {
      whole : min (l.count * count_of (drop l.bounds-index l.dimensions)) 1000001 ≡ min (count_of l.dimensions) 1000001;
      limit : l.count ≤ 1000001;
    }
