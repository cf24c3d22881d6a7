use Rattle.std.proofs.lemmas.Result.{err_from_is_err_and}
use Rattle.pli_base.specs.laws.DeviceLaws.{AppendsPrefix-more}
use Rattle.pli_commands.specs.Dumps.{hex_from}
use Rattle.pli_commands.specs.AnswerLines.{okay}
use Rattle.pli_commands.proofs.PartAfterPart.{writes_then}
use Rattle.pli_commands.proofs.dumping.put_dump.Goals as goal

pub returns-in_err-put_hex-clause-written : goal.returns-in_err-put_hex-clause-written
returns-in_err-put_hex-clause-written g c =
    let p = err_from_is_err_and c.from_residual.result c.from_residual.ensures.1 in
    rw p.1 (AppendsPrefix-more _ _ (hex_from 0 c.args.bytes.now) okay c.in_err-put_hex.ensures.written)

pub returns-clause-written : goal.returns-clause-written
returns-clause-written g c = writes_then _ _ _ (hex_from 0 c.args.bytes.now) okay _ c.in_ok-put_hex.ensures.written c.put_parts.ensures.written
