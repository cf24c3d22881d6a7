use Rattle.pli_members.proofs.RunLaws.{deletion_takes}
use Rattle.pli_members.proofs.laws.deletion_takes.Goals as goal

pub returns : goal.returns
returns c = deletion_takes
