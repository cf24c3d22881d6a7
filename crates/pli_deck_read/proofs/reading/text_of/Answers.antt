use Rattle.pli_deck_read.proofs.LoopLemmas.{text_read, text_short}
use Rattle.pli_deck_read.proofs.reading.text_of.Goals as goal

pub returns-then-bytes-count : goal.returns-then-bytes-count
returns-then-bytes-count c = text_short c.args.count c.args.bytes.now c.if-bytes-count.true

pub returns : goal.returns
returns c = rw (c.split_at.ensures.front, c.split_at.ensures.back) (text_read c.args.count c.args.bytes.now c.if-bytes-count.false)
