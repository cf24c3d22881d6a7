use Rattle.pli_resolve.proofs.UsesMean.{uses_have_meanings}
use Rattle.pli_resolve.proofs.laws.uses_have_meanings.Goals as goal

pub returns : goal.returns
returns c = uses_have_meanings
