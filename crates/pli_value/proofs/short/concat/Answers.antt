use Rattle.std.proofs.Common.{◌+◌, ◌≤◌, arith}
use Rattle.pli_value.specs.Short.{short_view}
use Rattle.pli_value.proofs.ShortLemmas.{counted, concat_small, concat_shown}
use Rattle.pli_value.proofs.short.concat.Goals as goal

pub new-requires : goal.new-requires
new-requires c =
    let few : c.args.left.count + c.args.right.count ≤ 63 = omega (arith, c.if-count-gt-SHORT_LIMIT.false) in
    record { few = few; small = concat_small c.args.left.count c.args.right.count c.args.left.number c.args.right.number c.args.left.small c.args.right.small few }

pub returns : goal.returns
returns c =
    let few : c.args.left.count + c.args.right.count ≤ 63 = omega (arith, c.if-count-gt-SHORT_LIMIT.false) in
    concat_shown c.args.left.count c.args.right.count c.args.left.number c.args.right.number c.args.left.small c.args.right.small few (short_view c.new.result) c.new.ensures

pub returns-then-count-gt-SHORT_LIMIT : goal.returns-then-count-gt-SHORT_LIMIT
returns-then-count-gt-SHORT_LIMIT c =
    let left = c.args.left in
    let right = c.args.right in
    omega (arith, c.if-count-gt-SHORT_LIMIT.true, counted left.count left.number, counted right.count right.number)
