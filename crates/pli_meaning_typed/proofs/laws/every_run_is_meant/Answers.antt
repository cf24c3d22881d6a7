use Rattle.pli_meaning_typed.proofs.ProgramsMean as law
use Rattle.pli_meaning_typed.proofs.laws.every_run_is_meant.Goals as goal

pub returns : goal.returns
returns c = law.always_meant
