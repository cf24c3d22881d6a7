use Rattle.pli_deck_read.proofs.CountReading.{counts_are_bytes}
use Rattle.pli_deck_read.proofs.reading.count_within.Goals as goal

pub returns : goal.returns
returns c = rw (counts_are_bytes c.args.low c.args.high c.args.bytes.now) c.byte_within.ensures
