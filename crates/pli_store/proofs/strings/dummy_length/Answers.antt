use Rattle.std.proofs.Common.{arith}
use Rattle.pli_store.proofs.StringLemmas.{length_of_dummy}
use Rattle.pli_store.proofs.strings.dummy_length.Goals as goal

pub returns : goal.returns
returns c = length_of_dummy c.args.elements c.max.result c.max.ensures (omega (arith, c.if-elements.false))
