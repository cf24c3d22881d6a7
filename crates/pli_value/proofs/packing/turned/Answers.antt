use Rattle.std.proofs.Common.{◌-◌, arith}
use Rattle.pli_value.proofs.ByteLemmas.{turned_bit}
use Rattle.pli_value.proofs.packing.turned.Goals as goal

pub returns : goal.returns
returns c = λ i below. turned_bit c.args.byte (7 - i) c.ranges.byte.fits (omega arith)
