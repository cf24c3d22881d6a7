use Rattle.pli_value.proofs.RemainderLaws.{remainder_is_least}
use Rattle.pli_value.proofs.laws.remainders_are_least.Goals as goal

pub returns : goal.returns
returns c = remainder_is_least
