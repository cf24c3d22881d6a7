use Rattle.std.proofs.Common.{◌≡◌, min, ap, ◌∙◌, arith}
use Rattle.byteorder.specs.Endian.{big_number}
use Rattle.pli_bytes.proofs.WrittenValues.{text_appended}
use Rattle.pli_bytes.proofs.putting.append_first.Goals as goal

pub returns-clause-put : goal.returns-clause-put
returns-clause-put c =
    let old = c.args.bytes.now in
    let before : c.min-before.result ≡ min (big_number 2 old) c.args.greatest =
    c.min-before.ensures ∙ ap (λ n. min n c.from-greatest.result) (c.from.ensures ∙ c.read_u16.ensures) ∙ ap (min (big_number 2 old)) c.from-greatest.ensures in
    text_appended c.args.greatest c.min-before.result c.args.more.now c.args.room old c.write_u16.new.buf c.write_front.new.bytes
    (omega arith) (omega arith) before (omega arith) c.write_u16.ensures c.write_front.ensures
