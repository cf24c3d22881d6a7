use Rattle.std.proofs.Common.{◌∙◌, ◌/◌, [], length, ap, subst, arith}
use Rattle.std.proofs.lemmas.List.{length-replicate}
use Rattle.pli_holes.specs.Holes.{Spells, hole_between}
use Rattle.pli_area.specs.views.AreaView.{blocks_from}
use Rattle.pli_area.proofs.HeldLemmas.{created}
use Rattle.pli_area.proofs.MarkLemmas.{no_blocks}
use Rattle.pli_area.proofs.area.Area.new.Goals as goal

pub invariant_of-result : goal.invariant_of-result
invariant_of-result c =
    let n = ap length c.in_ok-region.ensures ∙ length-replicate c.args.capacity 0 in
    created c.whole-chain.new.region c.in_ok-marks.marks c.args.capacity c.whole-chain.result.first (c.whole-chain.ensures.count ∙ n) c.requires (omega (arith, c.ranges.capacity.fits)) c.in_ok-marks.ensures
    (subst (λ n. Spells c.whole-chain.new.region c.whole-chain.result.first (hole_between 0 n [])) n c.whole-chain.ensures.spelled)

pub returns-clause-blocks : goal.returns-clause-blocks
returns-clause-blocks c = ap (blocks_from c.whole-chain.new.region 0) c.in_ok-marks.ensures ∙ no_blocks c.whole-chain.new.region 0 (c.args.capacity / 8)
