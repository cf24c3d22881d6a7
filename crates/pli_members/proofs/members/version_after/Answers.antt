use Rattle.pli_members.proofs.StaysKept.{next_version-raised}
use Rattle.pli_members.proofs.members.version_after.Goals as goal

pub returns-clause-after : goal.returns-clause-after
returns-clause-after c = next_version-raised c.args.version c.checked_add.result c.ranges.version.fits c.checked_add.ensures
