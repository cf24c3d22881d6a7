use Rattle.std.specs.Prelude.{◌+◌, ◌<◌, length, map, drop}
use Rattle.std.proofs.Common.{rules, arith}
use Rattle.std.proofs.lemmas.Result.{err_from_is_err_and}
use Rattle.pli_commands.specs.answers.Answering.{joined}
use Rattle.pli_commands.proofs.BytesWaiting.{has_put_more, breaks_in, joined_from}
use Rattle.pli_commands.proofs.batch.Batch.add_parts.Goals as goal

pub loop-part-preserved : goal.loop-part-preserved
loop-part-preserved g c =
    let i = c.loop-part.part-index in
    let parts = c.args.parts.now in
    let within : i < length parts = omega arith in
    record {
      passed = has_put_more _ _ _ _ c.loop-part.self _ _ (joined (map (λ p. p.now) (drop (i + 1) parts))) c.loop-part.invariant.passed (joined_from (λ p. p.now) parts i _ within) c.add.new.self c.in_ok-add.ensures.passed;
      mark = search rules;
    }

pub returns-in_err-add-clause-passed : goal.returns-in_err-add-clause-passed
returns-in_err-add-clause-passed g c =
    let p = err_from_is_err_and c.from_residual.result c.from_residual.ensures.1 in
    let i = c.loop-part.part-index in
    let parts = c.args.parts.now in
    let within : i < length parts = omega arith in
    rw p.1 (breaks_in _ _ _ _ c.loop-part.self _ _ (joined (map (λ p. p.now) (drop (i + 1) parts))) c.loop-part.invariant.passed (joined_from (λ p. p.now) parts i _ within) c.in_err-add.ensures.passed)
