use Rattle.pli_meaning.proofs.MembersDoAsMeant.{one_meaning}
use Rattle.pli_meaning.proofs.laws.one_meaning.Goals as goal

pub returns : goal.returns
returns c = one_meaning
