use Rattle.std.proofs.Common.{◌-◌, ap, arith, pow_pos}
use Rattle.std.proofs.lemmas.Nat.{one_shl}
use Rattle.pli_value.proofs.short.ones.Goals as goal

pub overflow_sub-result : goal.overflow_sub-result
overflow_sub-result c = omega (arith, one_shl c.args.count 64 (omega (arith, c.requires)), pow_pos c.args.count)

pub returns : goal.returns
returns c = ap (λ x. x - 1) (one_shl c.args.count 64 (omega (arith, c.requires)))
