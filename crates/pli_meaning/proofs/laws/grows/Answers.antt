use Rattle.pli_meaning.proofs.ProgramsGrow.{growth}
use Rattle.pli_meaning.proofs.MembersDoAsMeant.{members_grow}
use Rattle.pli_meaning.proofs.laws.grows.Goals as goal

pub returns-clause-members : goal.returns-clause-members
returns-clause-members c = members_grow

pub returns-clause-programs : goal.returns-clause-programs
returns-clause-programs c = growth
