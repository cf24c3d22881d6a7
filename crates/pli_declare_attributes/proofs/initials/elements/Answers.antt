use Rattle.std.proofs.Common.{◌≡◌, ◌*◌, ◌+◌, ◌∙◌, ◌&&◌, Bool, true, false, None, drop, ap, sym, arith}
use Rattle.std.proofs.lemmas.List.{at_drop_more}
use Rattle.std.specs.List.{list_all}
use Rattle.pli_base.specs.declared.declaration.WrittenBounds.{WrittenBounds}
use Rattle.pli_base.specs.declared.declaration.WrittenBounds.TheVariants as limits
use Rattle.pli_map.specs.Sizes.{count_of, extent_of}
use Rattle.pli_declare.specs.Extents.{all_bounds, are_good}
use Rattle.pli_declare_attributes.proofs.CountLemmas.{count_left}
use Rattle.pli_declare_attributes.proofs.initials.elements.Goals as goal

second : (a b : Bool) → (a && b) ≡ true → b ≡ true
second true b h = h
second false b h = cc

abbrev none : WrittenBounds
none = limits.Stated None (record { negative = false; value = 0 })

pub loop-bounds-preserved : goal.loop-bounds-preserved
loop-bounds-preserved c =
    let l = c.loop-bounds in
    let others = count_of (all_bounds (drop (l.bounds-index + 1) c.args.dimensions.now)) in
    let step = at_drop_more (λ bs. count_of (all_bounds bs)) c.args.dimensions.now l.bounds-index none c.loop-bounds-test.true in
    let good = at_drop_more (list_all are_good) c.args.dimensions.now l.bounds-index none c.loop-bounds-test.true in
    let extent = c.from.ensures ∙ c.extent.ensures.value ∙ ap extent_of c.described.ensures in
    record {
      whole = count_left 340282366920938463463374607431768211455 _ l.count c.from.result others _ _ c.saturating_mul-count.ensures (step ∙ ap (λ n. n * others) (sym extent)) l.invariant.whole;
      limit = omega (arith, c.saturating_mul-count.ensures);
      good = second _ _ (sym good ∙ l.invariant.good);
    }
