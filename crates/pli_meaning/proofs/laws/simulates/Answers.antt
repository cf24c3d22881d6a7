use Rattle.pli_meaning.proofs.ProgramsSimulate.{simulation}
use Rattle.pli_meaning.proofs.MembersDoAsMeant.{members_simulate}
use Rattle.pli_meaning.proofs.laws.simulates.Goals as goal

pub returns-clause-members : goal.returns-clause-members
returns-clause-members c = members_simulate

pub returns-clause-programs : goal.returns-clause-programs
returns-clause-programs c = simulation
