use Rattle.pli_store.specs.views.StorageView.{place_view, storage_view}
use Rattle.pli_store.proofs.PartAnswers.{leads_to_none}
use Rattle.pli_store.proofs.ReadParts.{text_read}
use Rattle.pli_store.proofs.storage.Storage.far_text.Goals as goal

pub returns-in-Ok : goal.returns-in-Ok
returns-in-Ok c = λ w.
    text_read c.args.self.now (place_view c.args.place) c.in-Ok.part c.in-Ok.ensures c.index.result.now c.index.ensures c.deref.result.now c.deref.ensures.value
    c.text_at.result c.text_at.ensures w

pub returns-in-Err : goal.returns-in-Err
returns-in-Err c = λ w are. leads_to_none (storage_view c.args.self.now) (place_view c.args.place) c.in-Err._fault c.in-Err.ensures
