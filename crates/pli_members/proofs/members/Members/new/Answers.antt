use Rattle.pli_members.proofs.StaysKept.{kept_empty}
use Rattle.pli_members.proofs.members.Members.new.Goals as goal

-- no members
pub invariant_of-result : goal.invariant_of-result
invariant_of-result c = rw c.new.ensures.items (kept_empty c.args.first c.ranges.first.fits)
