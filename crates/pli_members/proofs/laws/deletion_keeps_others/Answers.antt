use Rattle.pli_members.proofs.RunLaws.{deletion_keeps_others}
use Rattle.pli_members.proofs.laws.deletion_keeps_others.Goals as goal

pub returns : goal.returns
returns c = deletion_keeps_others
