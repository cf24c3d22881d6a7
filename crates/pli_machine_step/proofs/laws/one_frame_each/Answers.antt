use Rattle.pli_machine_step.proofs.RunsGrow.{one_frame_each}
use Rattle.pli_machine_step.proofs.laws.one_frame_each.Goals as goal

pub returns : goal.returns
returns c = one_frame_each
