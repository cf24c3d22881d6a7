use Rattle.std.proofs.Common.{◌^◌, ◌≤◌, arith}
use Rattle.std.proofs.Math.Pow.{pow_mono}
use Rattle.pli_lex.proofs.number.binary_value.Goals as goal

pub overflow_add-value : goal.overflow_add-value
overflow_add-value c =
    let few : c.loop-digit.digit-index ≤ 62 = omega arith in
    let below : 2 ^ c.loop-digit.digit-index ≤ 2 ^ 62 = pow_mono few in
    omega (arith, c.loop-digit.invariant.below)
