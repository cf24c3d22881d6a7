use Rattle.std.proofs.Common.{◌≡◌, arith}
use Rattle.pli_bytes.proofs.ShortBytes.{none_put, put_fits, short_put}
use Rattle.pli_bytes.proofs.short.put_short.Goals as goal

pub returns-then-size-eq0 : goal.returns-then-size-eq0
returns-then-size-eq0 c =
    let none : c.args.bits.count ≡ 0 = omega (arith, c.div_ceil-size.ensures, c.if-size-eq0.true) in
    none_put c.args.bits.count c.args.bits.number none c.args.bytes.now

pub put_number-requires-clause-fits : goal.put_number-requires-clause-fits
put_number-requires-clause-fits c = put_fits c.args.bits.count c.div_ceil-size.result c.args.bits.number c.div_ceil-size.ensures c.args.bits.few c.args.bits.small

pub returns : goal.returns
returns c =
    short_put c.args.bits.count c.div_ceil-size.result c.args.bits.number c.div_ceil-size.ensures c.args.bits.few c.args.bits.small c.args.bytes.now c.put_number.new.bytes
    c.requires c.put_number.ensures
