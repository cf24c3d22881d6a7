use Rattle.std.proofs.Common.{arith}
use Rattle.pli_machine_operate.proofs.IndexLemmas.{bit_index_within}
use Rattle.pli_machine_operate.proofs.calculation.of_bit_strings.Goals as goal

pub as_place-requires-clause-place : goal.as_place-requires-clause-place
as_place-requires-clause-place c =
    let within = bit_index_within c.args.left.now c.args.right.now in
    omega (arith, within, c.index.ensures, c.length.ensures.value)
