use Rattle.std.proofs.Common.{ap, ◌∙◌}
use Rattle.pli_code.specs.Fields.{held}
use Rattle.pli_deck_read.proofs.BitsReading.{bits_short, bits_read}
use Rattle.pli_deck_read.proofs.constants.bits_of.Goals as goal

pub returns-then-bytes-needed : goal.returns-then-bytes-needed
returns-then-bytes-needed c = bits_short c.args.count c.args.bytes.now c.if-bytes-needed.true

pub returns-then-are_same : goal.returns-then-are_same
returns-then-are_same c =
    bits_read c.args.count c.args.bytes.now c.split_at.result.0.now c.split_at.result.1.now c.bytes.result.now c.in_ok-bits.bits c.are_same.result c.if-bytes-needed.false
    c.split_at.ensures.front c.split_at.ensures.back c.in_ok-bits.ensures c.bytes.ensures.value c.bytes.ensures.packed c.are_same.ensures.bytes c.are_same.ensures.value
    ∙ ap (λ g. held g (c.in_ok-bits.bits, c.split_at.result.1.now)) c.if-are_same.true

pub returns : goal.returns
returns c =
    bits_read c.args.count c.args.bytes.now c.split_at.result.0.now c.split_at.result.1.now c.bytes.result.now c.in_ok-bits.bits c.are_same.result c.if-bytes-needed.false
    c.split_at.ensures.front c.split_at.ensures.back c.in_ok-bits.ensures c.bytes.ensures.value c.bytes.ensures.packed c.are_same.ensures.bytes c.are_same.ensures.value
    ∙ ap (λ g. held g (c.in_ok-bits.bits, c.split_at.result.1.now)) c.if-are_same.false
