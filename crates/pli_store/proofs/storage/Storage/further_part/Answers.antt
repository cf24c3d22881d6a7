use Rattle.pli_store.specs.views.StorageView.{place_view, storage_view}
use Rattle.pli_store.proofs.PartAnswers.{leads_or_not}
use Rattle.pli_store.proofs.storage.Storage.further_part.Goals as goal

pub returns : goal.returns
returns c = rw c.ok.ensures.value (leads_or_not (storage_view c.args.self.now) (place_view c.args.place) c.part.result c.part.ensures)
