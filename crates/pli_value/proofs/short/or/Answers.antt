use Rattle.std.proofs.Common.{◌≡◌, max, length, ◌∙◌, arith}
use Rattle.std.proofs.lemmas.Nat.{or_lt}
use Rattle.pli_value.specs.Short.{short_view}
use Rattle.pli_value.proofs.ShortLemmas.{counted, or_shown}
use Rattle.pli_value.proofs.short.or.Goals as goal

pub widened-requires : goal.widened-requires
widened-requires c = record { long = omega (arith, c.max-count.ensures); few = omega (arith, c.max-count.ensures, c.args.left.few, c.args.right.few) }

pub widened-requires-2 : goal.widened-requires-2
widened-requires-2 c = record { long = omega (arith, c.max-count.ensures); few = omega (arith, c.max-count.ensures, c.args.left.few, c.args.right.few) }

pub new-requires : goal.new-requires
new-requires c = record {
  few = omega (arith, c.max-count.ensures, c.args.left.few, c.args.right.few);
  small = or_lt c.max-count.result c.widened.result c.widened-2.result c.widened.ensures.small c.widened-2.ensures.small;
}

pub returns : goal.returns
returns c =
    let left = c.args.left in
    let right = c.args.right in
    let longest : c.max-count.result ≡ max (length (short_view left)) (length (short_view right)) =
    omega (arith, c.max-count.ensures, counted left.count left.number, counted right.count right.number) in
    c.new.ensures ∙ or_shown (short_view left) (short_view right) c.max-count.result c.widened.result c.widened-2.result longest c.widened.ensures.bits c.widened-2.ensures.bits
