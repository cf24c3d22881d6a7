use Rattle.pli_gen_stands.proofs.ProgramsRun.{code_stands}
use Rattle.pli_gen_stands.proofs.code_stands.Goals as goal

pub returns : goal.returns
returns c = code_stands
