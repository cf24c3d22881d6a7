use Rattle.std.proofs.Common.{◌<◌, ◌≤◌, ◌^◌, arith}
use Rattle.std.proofs.Math.Pow.{pow_mono}
use Rattle.std.proofs.lemmas.Bool.Decides.{nat_tests}
use Rattle.pli_declare_attributes.proofs.initials.within_precision.Goals as goal

pub returns-then-precision-ge64 : goal.returns-then-precision-ge64
returns-then-precision-ge64 c =
    let great : 2 ^ 64 ≤ 2 ^ c.args.precision = pow_mono c.if-precision-ge64.true in
    let small : c.args.value < 2 ^ c.args.precision = omega (arith, c.ranges.value.fits) in
    grind (arith, nat_tests, small)
