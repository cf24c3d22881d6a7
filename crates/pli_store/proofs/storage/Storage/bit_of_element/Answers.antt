use Rattle.std.proofs.Common.{[], ◌∷◌, refl, arith}
use Rattle.pli_map.specs.Description.{Bit}
use Rattle.pli_value.specs.Value.{Bits}
use Rattle.pli_store.specs.views.StorageView.{place_view}
use Rattle.pli_store.proofs.ReadParts.{if_found, scalar_read}
use Rattle.pli_store.proofs.storage.Storage.bit_of_element.Goals as goal

pub returns-in-Some : goal.returns-in-Some
returns-in-Some c = λ w.
    if_found c.bit_at.result _
    (scalar_read c.args.self.now (place_view c.args.place) c.in-Some.part c.in-Some.ensures c.index.result.now c.index.ensures c.deref.result.now c.deref.ensures.value
    (Bit 1) (c.if-not-is_one_bit.ensures.0 refl) refl c.bit_at.result (λ b. Bits (b ∷ [])) (λ within short. absurd (omega (arith, within, short))) (λ b holds. holds w)
    c.bit_at.ensures)
