use Rattle.pli_machine_step.proofs.OutcomesAreOne.{one_outcome}
use Rattle.pli_machine_step.proofs.laws.one_outcome.Goals as goal

pub returns : goal.returns
returns c = one_outcome
