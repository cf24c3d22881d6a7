use Rattle.std.proofs.Common.{arith}
use Rattle.pli_store.proofs.PointerBytes.{numbers_put}
use Rattle.pli_store.proofs.pointers.put_numbers.Goals as goal

pub returns : goal.returns
returns c =
    numbers_put c.args.first c.args.second (omega arith) (omega arith) c.args.bytes.now c.write_u32.new.buf c.write_u32-2.new.buf
    c.requires c.write_u32.ensures c.write_u32-2.ensures
