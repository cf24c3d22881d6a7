use Rattle.std.proofs.lemmas.Result.{err_from_is_err_and}
use Rattle.pli_bench.proofs.CommandsObeyed.{end_first, end_later, end_broken}
use Rattle.pli_bench.proofs.bench.put_end.Goals as goal

pub returns-then-ran-eq1-clause-written : goal.returns-then-ran-eq1-clause-written
returns-then-ran-eq1-clause-written g c = end_first _ _ c.args.ran.column c.args.ran.ending _ c.if-ran-eq1.true c.put_ending.ensures.written

pub returns-in_err-put_parts-clause-written : goal.returns-in_err-put_parts-clause-written
returns-in_err-put_parts-clause-written g c =
    let p = err_from_is_err_and c.from_residual.result c.from_residual.ensures.1 in
    rw p.1 (end_broken _ _ c.args.ran.column c.args.ran.ending c.if-ran-eq1.false c.in_err-put_parts.ensures.written)

pub returns-clause-written : goal.returns-clause-written
returns-clause-written g c = end_later _ _ _ c.args.ran.column c.args.ran.ending _ c.if-ran-eq1.false c.in_ok-put_parts.ensures.written c.put_ending-2.ensures.written
