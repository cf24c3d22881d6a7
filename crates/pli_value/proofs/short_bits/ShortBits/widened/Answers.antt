use Rattle.pli_value.proofs.ShortLemmas.{widened_small, widened_bit}
use Rattle.pli_value.proofs.short_bits.ShortBits.widened.Goals as goal

pub returns-clause-small : goal.returns-clause-small
returns-clause-small c = widened_small c.args.self.count c.args.count c.args.self.number c.args.self.small c.requires.long c.requires.few

pub returns-clause-bits : goal.returns-clause-bits
returns-clause-bits c = λ k below. widened_bit c.args.self.count c.args.count c.args.self.number k c.args.self.small c.requires.long c.requires.few below
