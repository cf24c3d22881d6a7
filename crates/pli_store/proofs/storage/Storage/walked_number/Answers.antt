use Rattle.std.proofs.Common.{refl, arith}
use Rattle.pli_map.specs.Description.{FixedBinary}
use Rattle.pli_value.specs.Value.{Number}
use Rattle.pli_store.specs.views.StorageView.{place_view, storage_view}
use Rattle.pli_store.proofs.PartAnswers.{leads_to_none}
use Rattle.pli_store.proofs.ReadParts.{scalar_read}
use Rattle.pli_store.proofs.storage.Storage.walked_number.Goals as goal

pub returns-in-Ok : goal.returns-in-Ok
returns-in-Ok c = λ w.
    scalar_read c.args.self.now (place_view c.args.place) c.in-Ok.part c.in-Ok.ensures c.index.result.now c.index.ensures c.deref.result.now c.deref.ensures.value
    (FixedBinary c.args.precision) c.requires refl c.number_at.result Number (λ within short. absurd (omega (arith, within, short))) (λ x holds. holds w) c.number_at.ensures

pub returns-in-Err : goal.returns-in-Err
returns-in-Err c = λ w. leads_to_none (storage_view c.args.self.now) (place_view c.args.place) c.in-Err._fault c.in-Err.ensures
