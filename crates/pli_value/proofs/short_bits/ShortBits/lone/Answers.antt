use Rattle.std.proofs.Common.{arith}
use Rattle.pli_value.proofs.ShortLemmas.{counted}
use Rattle.pli_value.proofs.short_bits.ShortBits.lone.Goals as goal

pub returns-then-self-ne1 : goal.returns-then-self-ne1
returns-then-self-ne1 c = λ is. omega (arith, counted c.args.self.count c.args.self.number, is, c.if-self-ne1.true)
