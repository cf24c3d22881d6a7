use Rattle.std.proofs.Common.{◌≡◌, arith, ap, length, ◌∙◌}
use Rattle.std.proofs.lemmas.List.{length-replicate}
use Rattle.pli_region.proofs.region.Region.new.Goals as goal

pub invariant_of-result : goal.invariant_of-result
invariant_of-result c =
    let all : c.loop-at.at ≡ c.args.len = omega (arith, c.loop-at-test.false, c.loop-at.auto.at-end) in
    record {
      count = ap length c.loop-at.invariant.0 ∙ length-replicate c.loop-at.at 0 ∙ all;
      small = c.ranges.len.fits;
      full = omega (arith, c.loop-at.invariant.1, all);
      place = c.loop-at.invariant.2;
      size = c.in-Some.ensures.lease.2;
      owner = c.in-Some.ensures.lease.0;
    }
