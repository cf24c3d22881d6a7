use Rattle.std.proofs.Common.{length, ap, arith}
use Rattle.pli_machine_operate.proofs.IndexLemmas.{index_within}
use Rattle.pli_machine_operate.proofs.calculation.of_texts.Goals as goal

pub as_place-requires-clause-place : goal.as_place-requires-clause-place
as_place-requires-clause-place c =
    let within = index_within c.deref-in-Index.result.now c.deref-in-Index-2.result.now in
    omega (arith, within, c.index.ensures, ap length c.deref-in-Index.ensures.value, c.len.ensures)
