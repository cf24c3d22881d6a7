use Rattle.std.proofs.Common.{◌*◌, ◌+◌, drop, sym, ap, ◌∙◌, arith}
use Rattle.std.proofs.lemmas.List.{at_drop_more}
use Rattle.pli_map.specs.Sizes.{count_of}
use Rattle.pli_map.proofs.Counts.{count_left}
use Rattle.pli_map.proofs.sizes.element_count.Goals as goal

pub loop-bounds-preserved : goal.loop-bounds-preserved
loop-bounds-preserved c =
    let l = c.loop-bounds in
    let step = at_drop_more count_of c.args.dimensions.now l.bounds-index _ c.loop-bounds-test.true in
    record {
      whole = count_left _ l.count c.from.result (count_of (drop (l.bounds-index + 1) c.args.dimensions.now)) _ _ c.min-count.ensures (step ∙ ap (λ n. n * count_of (drop (l.bounds-index + 1) c.args.dimensions.now)) (sym (c.from.ensures ∙ c.extent.ensures.value))) l.invariant.whole;
      limit = omega arith;
    }
