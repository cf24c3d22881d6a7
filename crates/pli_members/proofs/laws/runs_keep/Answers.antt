use Rattle.pli_members.proofs.RunsKept.{runs_keep}
use Rattle.pli_members.proofs.laws.runs_keep.Goals as goal

pub returns : goal.returns
returns c = runs_keep
