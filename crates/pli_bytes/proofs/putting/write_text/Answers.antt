use Rattle.std.proofs.Common.{arith}
use Rattle.pli_bytes.proofs.WrittenValues.{text_put}
use Rattle.pli_bytes.proofs.putting.write_text.Goals as goal

pub returns : goal.returns
returns c =
    text_put c.args.greatest c.args.text.now c.args.bytes.now c.write_u16.new.buf c.write_front.new.bytes c.requires.fits (omega arith) c.requires.within
    c.write_u16.ensures c.write_front.ensures
