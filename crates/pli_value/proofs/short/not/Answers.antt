use Rattle.std.proofs.Common.{◌∙◌}
use Rattle.pli_value.proofs.ShortLemmas.{not_small, not_shown}
use Rattle.pli_value.proofs.short.not.Goals as goal

pub ones-requires : goal.ones-requires
ones-requires c = c.args.bits.few

pub new-requires : goal.new-requires
new-requires c = record { few = c.args.bits.few; small = not_small c.args.bits.count c.args.bits.number c.ones.result c.args.bits.small c.ones.ensures }

pub returns : goal.returns
returns c = c.new.ensures ∙ not_shown c.args.bits.count c.args.bits.number c.ones.result c.ones.ensures
