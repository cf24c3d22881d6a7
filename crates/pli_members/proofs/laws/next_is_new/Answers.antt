use Rattle.pli_members.proofs.RunLaws.{next_is_new}
use Rattle.pli_members.proofs.laws.next_is_new.Goals as goal

pub returns : goal.returns
returns c = next_is_new
