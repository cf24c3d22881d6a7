use Rattle.std.proofs.Common.{ap, ◌∙◌, set, arith}
use Rattle.pli_bytes.proofs.FittedTexts.{one_written}
use Rattle.pli_bytes.proofs.putting.write_front.Goals as goal

pub returns-then-front-eq1 : goal.returns-then-front-eq1
returns-then-front-eq1 c = one_written c.args.front.now c.args.bytes.now c.if-front-eq1.true (omega (arith, c.requires, c.if-front-eq1.true))
