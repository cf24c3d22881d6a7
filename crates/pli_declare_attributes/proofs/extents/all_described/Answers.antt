use Rattle.std.proofs.Common.{false, None}
use Rattle.pli_base.specs.declared.declaration.WrittenBounds.{WrittenBounds}
use Rattle.pli_base.specs.declared.declaration.WrittenBounds.TheVariants as limits
use Rattle.pli_declare_attributes.proofs.BoundsDescribed.{good_next, described_next}
use Rattle.pli_declare_attributes.proofs.extents.all_described.Goals as goal

-- bounds of no dimension
abbrev none : WrittenBounds
none = limits.Stated None (record { negative = false; value = 0 })

pub described-requires : goal.described-requires
described-requires c =
    let l = c.loop-bounds in
    (good_next c.args.dimensions.now l.bounds-index none c.loop-bounds-test.true l.invariant.good).0

pub loop-bounds-preserved : goal.loop-bounds-preserved
loop-bounds-preserved c =
    let l = c.loop-bounds in
    record {
      done = described_next c.args.dimensions.now l.bounds-index none l.all.items c.push.new.self.items c.described.result c.loop-bounds-test.true
          c.in_ok-push.ensures.items c.described.ensures l.invariant.done;
      good = (good_next c.args.dimensions.now l.bounds-index none c.loop-bounds-test.true l.invariant.good).1;
    }
