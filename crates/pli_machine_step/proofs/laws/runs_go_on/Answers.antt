use Rattle.pli_machine_step.proofs.RunsGrow.{runs_go_on}
use Rattle.pli_machine_step.proofs.laws.runs_go_on.Goals as goal

pub returns : goal.returns
returns c = runs_go_on
