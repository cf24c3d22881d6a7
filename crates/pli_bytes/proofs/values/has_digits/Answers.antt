use Rattle.std.proofs.Common.{◌^◌, ◌≤◌, ◌<◌, unsigned_abs, sym, ◌∙◌, arith}
use Rattle.std.proofs.lemmas.Bool.{le-leb, lt-ltb}
use Rattle.std.proofs.lemmas.Int.{ints}
use Rattle.std.proofs.Math.Nat.{pow-le-pow_right}
use Rattle.pli_bytes.proofs.values.has_digits.Goals as goal

pub returns-then-precision-ge64 : goal.returns-then-precision-ge64
returns-then-precision-ge64 c =
    let power : 2 ^ 64 ≤ 2 ^ c.args.precision = pow-le-pow_right {n = 2} (omega arith) c.if-precision-ge64.true in
    let small : unsigned_abs c.args.number < 2 ^ 64 = omega (arith, ints) in
    le-leb 64 c.args.precision c.if-precision-ge64.true ∙ sym (lt-ltb (unsigned_abs c.args.number) (2 ^ c.args.precision) (omega arith))
