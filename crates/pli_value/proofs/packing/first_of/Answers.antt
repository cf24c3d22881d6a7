use Rattle.std.proofs.Common.{◌-◌, arith}
use Rattle.pli_value.proofs.ByteLemmas.{first_kept, others_blank}
use Rattle.pli_value.proofs.packing.first_of.Goals as goal

pub returns-clause-kept : goal.returns-clause-kept
returns-clause-kept c = λ i below within. first_kept c.args.byte (8 - c.min-kept.result) i below (omega (arith, c.min-kept.ensures))

pub returns-clause-blank : goal.returns-clause-blank
returns-clause-blank c = λ i below over. others_blank c.args.byte (8 - c.min-kept.result) i below (omega (arith, c.min-kept.ensures))
