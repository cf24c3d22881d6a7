use Rattle.std.proofs.Common.{refl, arith}
use Rattle.pli_map.specs.Description.{Pointer}
use Rattle.pli_value.specs.Value.{Located}
use Rattle.pli_store.specs.views.StorageView.{place_view, storage_view}
use Rattle.pli_store.proofs.PartAnswers.{leads_to_none}
use Rattle.pli_store.proofs.ReadParts.{scalar_read}
use Rattle.pli_store.proofs.storage.Storage.far_pointer.Goals as goal

pub returns-in-Ok : goal.returns-in-Ok
returns-in-Ok c = λ w.
    scalar_read c.args.self.now (place_view c.args.place) c.in-Ok.part c.in-Ok.ensures c.index.result.now c.index.ensures c.deref.result.now c.deref.ensures.value
    Pointer c.requires refl c.pointer_at.result Located (λ within short. absurd (omega (arith, within, short))) (λ l holds. holds w) c.pointer_at.ensures

pub returns-in-Err : goal.returns-in-Err
returns-in-Err c = λ w. leads_to_none (storage_view c.args.self.now) (place_view c.args.place) c.in-Err._fault c.in-Err.ensures
