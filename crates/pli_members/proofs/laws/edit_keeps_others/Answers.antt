use Rattle.pli_members.proofs.RunLaws.{edit_keeps_others}
use Rattle.pli_members.proofs.laws.edit_keeps_others.Goals as goal

pub returns : goal.returns
returns c = edit_keeps_others
