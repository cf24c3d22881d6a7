use Rattle.std.proofs.Common.{◌≡◌, ◌≤◌, ◌+◌, ◌*◌, min, length, option_map}
use Rattle.std.specs.Iterator.Adapters.{zip_first, zip_second}
use Rattle.std.specs.Slice.Iter.{iter_rest}
use Rattle.pli_map.specs.Sizes.{count_of}
use Rattle.pli_map.specs.Parts.{index_of}
use Rattle.pli_map.proofs.parts.element_index.Given as goal

-- the number so far and that of the subscripts that are left make the number of all, up to the limit
abbrev pub invariant-loop-bounds : goal.invariant-loop-bounds
invariant-loop-bounds l =
    let left = iter_rest (zip_first l.bounds-iterator) in
    let given = iter_rest (zip_second l.bounds-iterator) in
    record {
      whole : option_map (λ k. min k 1000001) (index_of l.dimensions l.subscripts) ≡ option_map (λ k. min (l.index * count_of left + k) 1000001) (index_of left given);
      lengths : length left ≡ length given;
      limit : l.index ≤ 1000001;
    }
