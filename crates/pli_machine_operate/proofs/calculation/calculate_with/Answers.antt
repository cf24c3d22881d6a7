use Rattle.pli_machine_operate.proofs.calculation.calculate_with.Goals as goal

pub returns-in-Bits : goal.returns-in-Bits
returns-in-Bits c = rw c.in-Bits.is (c.with_bits.ensures c.args.greatest)
