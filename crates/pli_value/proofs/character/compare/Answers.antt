use Rattle.std.proofs.Common.{◌<◌, max, length, refl, arith, rules}
use Rattle.std.specs.Ordering.{nat_cmp}
use Rattle.pli_value.proofs.OrderLemmas.{stopped}
use Rattle.pli_value.proofs.character.compare.Goals as goal

pub returns-in_default : goal.returns-in_default
returns-in_default c =
    let some : 0 < length c.args.left.now = search (rules, c.if-is_empty.false) in
    let below : 0 < max (length c.args.left.now) (length c.args.right.now) = omega (arith, some) in
    stopped 32 nat_cmp c.args.left.now c.args.right.now 0 c.cmp.result _ below (cc) c.in_default.not-Equal refl
