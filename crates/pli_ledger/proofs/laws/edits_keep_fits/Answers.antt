use Rattle.pli_ledger.proofs.FitsThroughEdits.{nothing_fits, additions_keep_fits, changes_keep_fits, deletions_keep_fits}
use Rattle.pli_ledger.proofs.laws.edits_keep_fits.Goals as goal

pub returns-clause-nothing : goal.returns-clause-nothing
returns-clause-nothing c = nothing_fits

pub returns-clause-additions : goal.returns-clause-additions
returns-clause-additions c = additions_keep_fits c.edit_gives_next.ensures c.edit_keeps_others.ensures

pub returns-clause-changes : goal.returns-clause-changes
returns-clause-changes c = changes_keep_fits c.edit_gives_next.ensures c.edit_keeps_others.ensures

pub returns-clause-deletions : goal.returns-clause-deletions
returns-clause-deletions c = deletions_keep_fits c.deletion_takes.ensures c.deletion_keeps_others.ensures
