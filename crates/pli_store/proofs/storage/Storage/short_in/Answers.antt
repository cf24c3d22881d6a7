use Rattle.std.proofs.Common.{refl, arith}
use Rattle.pli_map.specs.Description.{Bit}
use Rattle.pli_value.specs.Short.{short_view}
use Rattle.pli_value.specs.Value.{Bits}
use Rattle.pli_store.specs.views.StorageView.{place_view}
use Rattle.pli_store.proofs.ReadParts.{scalar_read}
use Rattle.pli_store.proofs.storage.Storage.short_in.Goals as goal

pub returns-in-Some : goal.returns-in-Some
returns-in-Some c = λ w.
    scalar_read c.args.self.now (place_view c.args.place) c.in-Some.part c.in-Some.ensures c.index.result.now c.index.ensures c.deref.result.now c.deref.ensures.value
    (Bit c.args.count) c.requires.length refl c.short_at.result (λ s. Bits (short_view s)) (λ within short. absurd (omega (arith, within, short))) (λ s holds. holds w) c.short_at.ensures
