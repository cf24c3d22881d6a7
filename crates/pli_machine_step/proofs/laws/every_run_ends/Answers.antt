use Rattle.pli_machine_step.proofs.RunsEnd.{every_run_ends}
use Rattle.pli_machine_step.proofs.laws.every_run_ends.Goals as goal

pub returns : goal.returns
returns c = every_run_ends
