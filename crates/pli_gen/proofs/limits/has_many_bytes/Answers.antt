use Rattle.std.proofs.Common.{arith}
use Rattle.pli_gen.proofs.LimitLemmas.{many_bytes}
use Rattle.pli_gen.proofs.limits.has_many_bytes.Goals as goal

pub returns-then-bytes-gt-INITIAL_LIMIT : goal.returns-then-bytes-gt-INITIAL_LIMIT
returns-then-bytes-gt-INITIAL_LIMIT c =
    many_bytes c.as_slice-template-items.result.now c.loop-template.template-index c.template-item.result c.loop-template.bytes c.template_bytes-bytes.result _
    (omega arith) c.template-item.is c.template_bytes-bytes.ensures c.if-bytes-gt-INITIAL_LIMIT.true c.loop-template.invariant.all
