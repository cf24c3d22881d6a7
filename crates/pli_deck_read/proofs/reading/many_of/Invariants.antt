use Rattle.std.proofs.Common.{◌≡◌, ◌-◌, map}
use Rattle.pli_code.specs.Fields.{many}
use Rattle.pli_deck_read.proofs.LoopLemmas.{with_front}
use Rattle.pli_deck_read.proofs.reading.many_of.Given as goal

-- the values that were read, in front of those that are left, are all of them
abbrev pub invariant-loop : goal.invariant-loop
invariant-loop g l =
    let read = (g.R.ReadsOne.field l.reader).read in
    with_front (map g.R.ReadsOne.say l.values.items) (many read (l.count - l.counter) l.rest) ≡ many read l.count l.bytes
