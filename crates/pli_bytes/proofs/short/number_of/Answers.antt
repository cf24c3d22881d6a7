use Rattle.std.proofs.Common.{◌≡◌, sym, subst}
use Rattle.byteorder.specs.Endian.{big_number}
use Rattle.pli_bytes.proofs.ShortBytes.{one_byte}
use Rattle.pli_bytes.proofs.short.number_of.Goals as goal

pub returns-in-1 : goal.returns-in-1
returns-in-1 c = subst (λ n. c.from.result ≡ big_number n c.args.bytes.now) (sym c.in-1.is) (one_byte c.args.bytes.now c.from.result c.from.ensures)
