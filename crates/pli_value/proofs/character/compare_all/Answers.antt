use Rattle.std.proofs.Common.{◌<◌, max, length, arith}
use Rattle.std.specs.Ordering.{nat_cmp}
use Rattle.pli_value.proofs.OrderLemmas.{passed, stopped, ended}
use Rattle.pli_value.proofs.character.compare_all.Goals as goal

pub returns-in_default : goal.returns-in_default
returns-in_default c =
    let below : c.loop-place.place < max (length c.args.left.now) (length c.args.right.now) = omega arith in
    stopped 32 nat_cmp c.args.left.now c.args.right.now c.loop-place.place c.cmp.result _ below
    (cc) c.in_default.not-Equal c.loop-place.invariant

pub loop-place-preserved : goal.loop-place-preserved
loop-place-preserved c =
    let below : c.loop-place.place < max (length c.args.left.now) (length c.args.right.now) = omega arith in
    passed 32 nat_cmp c.args.left.now c.args.right.now c.loop-place.place _ below
    (cc) c.loop-place.invariant

pub returns : goal.returns
returns c = ended 32 nat_cmp c.args.left.now c.args.right.now c.loop-place.place _ (omega arith) c.loop-place.invariant
