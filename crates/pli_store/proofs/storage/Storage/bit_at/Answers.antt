use Rattle.std.proofs.Common.{[], ◌∷◌, refl, arith}
use Rattle.pli_map.specs.Description.{Bit}
use Rattle.pli_value.specs.Value.{Bits}
use Rattle.pli_store.specs.views.StorageView.{place_view, storage_view}
use Rattle.pli_store.proofs.PartAnswers.{leads_to_none}
use Rattle.pli_store.proofs.ReadParts.{scalar_read}
use Rattle.pli_store.proofs.storage.Storage.bit_at.Goals as goal

pub returns-in-Ok : goal.returns-in-Ok
returns-in-Ok c = λ w.
    scalar_read c.args.self.now (place_view c.args.place) c.in-Ok.part c.in-Ok.ensures c.index.result.now c.index.ensures c.deref.result.now c.deref.ensures.value
    (Bit 1) (c.if-not-is_one_bit.ensures.0 refl) refl c.bit_at.result (λ b. Bits (b ∷ [])) (λ within short. absurd (omega (arith, within, short))) (λ b holds. holds w)
    c.bit_at.ensures

pub returns-in-Err : goal.returns-in-Err
returns-in-Err c = λ w is. leads_to_none (storage_view c.args.self.now) (place_view c.args.place) c.in-Err._fault c.in-Err.ensures
