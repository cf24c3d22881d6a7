use Rattle.pli_store.specs.views.StorageView.{place_view, storage_view}
use Rattle.pli_store.proofs.PartAnswers.{leads_to_none}
use Rattle.pli_store.proofs.storage.Storage.put_far_pointer.Goals as goal

pub returns-in-Err-clause-refused : goal.returns-in-Err-clause-refused
returns-in-Err-clause-refused c = λ e held. leads_to_none (storage_view c.args.self.now) (place_view c.args.place) c.in-Err._fault c.in-Err.ensures
