use Rattle.pli_area.proofs.BitLemmas.{low_bit, high_bit}
use Rattle.pli_area.proofs.marks.lowest_bits.Goals as goal

pub returns-clause-kept : goal.returns-clause-kept
returns-clause-kept c = λ bit lt. low_bit c.args.word c.args.bits bit c.requires lt

pub returns-clause-others : goal.returns-clause-others
returns-clause-others c = λ bit le. high_bit c.args.word c.args.bits bit c.requires le
