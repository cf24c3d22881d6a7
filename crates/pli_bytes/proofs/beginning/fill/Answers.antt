use Rattle.pli_bytes.proofs.FirstsLaid.{part_filled}
use Rattle.pli_bytes.proofs.beginning.fill.Goals as goal

pub returns : goal.returns
returns c = part_filled c.args.at c.args.size c.args.byte c.args.bytes.now c.fill.new.self c.requires (c.fill.ensures.after (λ y e. e))
