use Rattle.std.proofs.Common.{length, sym, ap, ◌∙◌}
use Rattle.pli_value.proofs.PackingLaws.{bits_counted}
use Rattle.pli_value.proofs.bit.Bits.length.Goals as goal

pub returns-clause-value : goal.returns-clause-value
returns-clause-value c = sym (bits_counted c.self.inside.count c.self.inside.bytes.items) ∙ ap length c.self.view_is
