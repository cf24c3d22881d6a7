use Rattle.pli_deck_read.proofs.described.precision_of.Goals as goal

pub returns : goal.returns
returns c =
    let read = rw c.greatest_precision.ensures.value at c.byte_within.ensures in
    read
