use Rattle.pli_resolve.proofs.MembersAreParts.{members_are_parts}
use Rattle.pli_resolve.proofs.laws.members_are_parts.Goals as goal

pub returns : goal.returns
returns c = members_are_parts
