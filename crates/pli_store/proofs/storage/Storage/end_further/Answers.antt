use Rattle.std.proofs.Common.{sym}
use Rattle.pli_store.specs.views.StorageView.{storage_view}
use Rattle.pli_store.proofs.EndingLemmas.{none_ended}
use Rattle.pli_store.proofs.storage.Storage.end_further.Goals as goal

pub returns-in_default-clause-storage : goal.returns-in_default-clause-storage
returns-in_default-clause-storage c = sym (none_ended (storage_view c.args.self.now) c.args.self.now.made c.args.number c.args.self.now.rising c.in_default.ensures)
