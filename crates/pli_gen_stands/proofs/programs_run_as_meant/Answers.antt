use Rattle.pli_gen_stands.proofs.ProgramsRun.{programs_run}
use Rattle.pli_gen_stands.proofs.programs_run_as_meant.Goals as goal

pub returns : goal.returns
returns c = programs_run
