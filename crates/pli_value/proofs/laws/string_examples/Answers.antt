use Rattle.std.proofs.Common.{refl}
use Rattle.std.specs.Fmt.{digits}
use Rattle.pli_value.proofs.laws.string_examples.Goals as goal

pub returns-clause-converted : goal.returns-clause-converted
unfolding digits
returns-clause-converted c = (refl, refl, refl)
