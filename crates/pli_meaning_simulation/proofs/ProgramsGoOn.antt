-- Growth: with a step more a program goes on, as its code does.
use Rattle.std.specs.Prelude.{◌+◌}
use Rattle.pli_machine_step.proofs.RunsGrow.{runs_go_on}
use Rattle.pli_meaning_simulation.specs.laws.Laws.{Growth}
use Rattle.pli_meaning_simulation.proofs.ProgramsSimulate.{simulation}

pub growth : Growth
growth t p stand n before after first second = runs_go_on p n before after (simulation t p stand n before first) (simulation t p stand (n + 1) after second)
