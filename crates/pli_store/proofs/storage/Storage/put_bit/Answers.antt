use Rattle.std.proofs.Common.{[], ◌∷◌, map, true≢false, refl, sym, ◌∙◌, subst}
use Rattle.pli_map.specs.Description.{Bit}
use Rattle.pli_value.specs.Value.{Bits}
use Rattle.pli_store.specs.answers.Found.{PartStands}
use Rattle.pli_store.specs.views.GenerationView.{generation_view}
use Rattle.pli_store.specs.views.StorageView.{place_view, storage_view}
use Rattle.pli_store.proofs.HeldScalars.{bits_of_held}
use Rattle.pli_store.proofs.PartAnswers.{kept_or_same, leads_to_none}
use Rattle.pli_store.proofs.PutAnswers.{value_is_put}
use Rattle.pli_store.proofs.storage.Storage.put_bit.Goals as goal

pub put_bit-requires : goal.put_bit-requires
put_bit-requires c = subst (PartStands (storage_view c.args.self.now) c.in-Ok.part) (c.if-not-is_one_bit.ensures.0 refl) c.in-Ok.ensures.there

pub invariant_of-self : goal.invariant_of-self
invariant_of-self c =
    let kept = kept_or_same (storage_view c.args.self.now) (map generation_view c.put_bit.new.generations.items) c.in-Ok.part
    c.args.self.now.made c.args.self.now.rising c.put_bit.result (Bit 1) (Bits (c.args.bit ∷ []) ∷ []) c.put_bit.ensures.put in
    record { counted = c.args.self.now.counted ∙ sym kept.counted; limited = c.args.self.now.limited; rising = kept.rising }

pub returns-then-not-is_one_bit-clause-refused : goal.returns-then-not-is_one_bit-clause-refused
returns-then-not-is_one_bit-clause-refused c = λ e held.
    absurd (true≢false (sym (c.if-not-is_one_bit.ensures.1 (bits_of_held (place_view c.args.place).description (c.args.bit ∷ []) held))))

pub returns-in-Ok-clause-put : goal.returns-in-Ok-clause-put
returns-in-Ok-clause-put c =
    value_is_put c.args.self.now _ (place_view c.args.place) c.in-Ok.part (Bit 1) (c.if-not-is_one_bit.ensures.0 refl) refl c.in-Ok.ensures
    c.put_bit.result (Bits (c.args.bit ∷ [])) refl c.put_bit.ensures.put

pub returns-in-Err-clause-refused : goal.returns-in-Err-clause-refused
returns-in-Err-clause-refused c = λ e held. leads_to_none (storage_view c.args.self.now) (place_view c.args.place) c.in-Err._fault c.in-Err.ensures
