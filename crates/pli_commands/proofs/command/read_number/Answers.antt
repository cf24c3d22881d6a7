use Rattle.std.proofs.Common.{◌≤◌, length, arith, lit<}
use Rattle.std.proofs.Math.Nat.{pow-le-pow_right}
use Rattle.pli_commands.proofs.command.read_number.Goals as goal

pub returns-clause-below : goal.returns-clause-below
returns-clause-below c =
    let within : length c.args.digits.now ≤ c.args.limit = omega arith in
    omega (arith, c.decimal_value.ensures.below, pow-le-pow_right {n = 10} (lit< tt) {i = length c.args.digits.now} {j = c.args.limit} within)
