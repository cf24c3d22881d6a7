use Rattle.std.proofs.Common.{arith}
use Rattle.pli_map.proofs.StoredNumbers.{written_16, written_32}
use Rattle.pli_bytes.proofs.stored.store_number.Goals as goal

pub returns-in-0-to-15 : goal.returns-in-0-to-15
returns-in-0-to-15 c = written_16 c.args.precision c.args.number c.args.bytes.now c.write_i16.new.buf (omega arith) c.ranges.number c.requires.held c.requires.size c.write_i16.ensures

pub returns-in-16-to-31 : goal.returns-in-16-to-31
returns-in-16-to-31 c = written_32 c.args.precision c.args.number c.args.bytes.now c.write_i32.new.buf (omega arith) (omega arith) c.ranges.number c.requires.held c.requires.size c.write_i32.ensures
