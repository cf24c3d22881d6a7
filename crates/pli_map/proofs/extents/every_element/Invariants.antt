use Rattle.std.proofs.Common.{◌≡◌, ◌*◌, ◌≤◌, min, drop}
use Rattle.pli_map.specs.Sizes.{count_of}
use Rattle.pli_map.proofs.extents.every_element.Given as goal

-- the count so far times that of what is left is that of all, up to the limit
abbrev pub invariant-loop-bounds : goal.invariant-loop-bounds
invariant-loop-bounds l =
    record {
      whole : min (l.count * count_of (drop l.bounds-index l.dimensions)) 18446744073709551615 ≡ min (count_of l.dimensions) 18446744073709551615;
      limit : l.count ≤ 18446744073709551615;
    }
