use Rattle.std.proofs.Common.{length, ap, arith, length-drop}
use Rattle.pli_bytes.proofs.PutFront.{appended_after, rest_from_is, too_long_after}
use Rattle.pli_bytes.proofs.putting.append_at.Goals as goal

pub returns-clause-put : goal.returns-clause-put
returns-clause-put c =
    appended_after c.append_first.result c.args.greatest c.args.offset c.args.more.now c.args.room c.args.bytes.now c.append_first.new.bytes c.append_first.ensures.put

pub returns-clause-refused : goal.returns-clause-refused
returns-clause-refused c = λ e within.
    let bytes = c.args.bytes.now in
    let offset = c.args.offset in
    too_long_after c.args.greatest offset c.args.more.now c.args.room bytes
    (c.append_first.ensures.refused e (omega (arith, within, ap length (rest_from_is offset bytes), length-drop offset bytes)))
