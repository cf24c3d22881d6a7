use Rattle.pli_meaning_simulation.proofs.ProgramsSimulate.{simulation, no_fault}
use Rattle.pli_meaning_simulation.proofs.laws.simulates.Goals as goal

pub returns-clause-programs : goal.returns-clause-programs
returns-clause-programs c = simulation

pub returns-clause-no_fault : goal.returns-clause-no_fault
returns-clause-no_fault c = no_fault
