use Rattle.std.specs.Prelude.{◌<◌, length}
use Rattle.std.proofs.Common.{rules, arith}
use Rattle.std.proofs.lemmas.Result.{err_from_is_err_and}
use Rattle.pli_commands.proofs.PartsPut.{more_written, some_written}
use Rattle.pli_commands.proofs.answer.put_parts.Goals as goal

pub loop-part-preserved : goal.loop-part-preserved
loop-part-preserved g c =
    let within : c.loop-part.part-index < length c.args.parts.now = omega arith in
    record {
      written = more_written (λ p. p.now) c.args.parts.now c.loop-part.part-index _ _ _ _ within c.loop-part.invariant.written c.in_ok-put_all.ensures.written;
      mark = search rules;
    }

pub returns-in_err-put_all-clause-written : goal.returns-in_err-put_all-clause-written
returns-in_err-put_all-clause-written g c =
    let p = err_from_is_err_and c.from_residual.result c.from_residual.ensures.1 in
    let within : c.loop-part.part-index < length c.args.parts.now = omega arith in
    rw p.1 (some_written (λ p. p.now) c.args.parts.now c.loop-part.part-index _ _ _ _ within c.loop-part.invariant.written c.in_err-put_all.ensures.written)
