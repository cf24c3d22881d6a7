use Rattle.std.proofs.Common.{◌∙◌}
use Rattle.pli_value.specs.Short.{short_view}
use Rattle.pli_value.proofs.ShortLemmas.{lengthened_shown}
use Rattle.pli_value.proofs.short_bits.ShortBits.lengthened.Goals as goal

pub returns : goal.returns
returns c = c.new.ensures ∙ lengthened_shown (short_view c.args.self) c.args.count c.widened.result c.widened.ensures.bits
