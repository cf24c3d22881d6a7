use Rattle.pli_ledger.proofs.FitsThroughBuilds.{after_fits, builds_keep_fits}
use Rattle.pli_ledger.proofs.laws.builds_keep_fits.Goals as goal

pub returns-clause-builds : goal.returns-clause-builds
returns-clause-builds c = builds_keep_fits

pub returns-clause-after : goal.returns-clause-after
returns-clause-after c = after_fits
