use Rattle.std.proofs.Common.{ap, ◌∙◌, arith, pos, SFits, w64, rules}
use Rattle.std.proofs.lemmas.Int.{to_z-of_z}
use Rattle.pli_operation.specs.Operations as calculate
use Rattle.pli_value.specs.Value as plain
use Rattle.pli_machine_operate.proofs.IndexLemmas.{index_within}
use Rattle.pli_machine_operate.proofs.texts.text_index.Goals as goal

pub place_number-requires-clause-place : goal.place_number-requires-clause-place
place_number-requires-clause-place c =
    let within = index_within c.args.text.now c.args.sought.now in
    omega (arith, within, c.index.ensures)

pub returns : goal.returns
returns c =
    let x = c.place_number.result in
    let fits : SFits w64 x = search rules in
    rw (to_z-of_z w64 x fits) (ap (λ n. calculate.Calculates (plain.Number n)) (c.place_number.ensures ∙ ap pos c.index.ensures))
