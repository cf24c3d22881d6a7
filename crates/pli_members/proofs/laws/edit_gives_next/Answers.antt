use Rattle.pli_members.proofs.RunLaws.{edit_gives_next}
use Rattle.pli_members.proofs.laws.edit_gives_next.Goals as goal

pub returns : goal.returns
returns c = edit_gives_next
