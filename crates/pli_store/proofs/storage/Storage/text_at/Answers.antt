use Rattle.pli_store.specs.views.StorageView.{place_view}
use Rattle.pli_store.proofs.ReadParts.{text_read}
use Rattle.pli_store.proofs.storage.Storage.text_at.Goals as goal

pub returns-in-Some : goal.returns-in-Some
returns-in-Some c = λ w.
    text_read c.args.self.now (place_view c.args.place) c.in-Some.part c.in-Some.ensures c.index.result.now c.index.ensures c.deref.result.now c.deref.ensures.value
    c.text_at.result c.text_at.ensures w
