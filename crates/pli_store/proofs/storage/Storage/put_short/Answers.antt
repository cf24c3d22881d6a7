use Rattle.std.proofs.Common.{[], ◌∷◌, map, true≢false, refl, sym, ap, ◌∙◌, subst, eq-eqb}
use Rattle.pli_map.specs.Description.{Bit}
use Rattle.pli_value.specs.Short.{short_view}
use Rattle.pli_value.specs.Value.{Bits}
use Rattle.pli_value.proofs.ShortLemmas.{counted}
use Rattle.pli_store.specs.answers.Found.{PartStands}
use Rattle.pli_store.specs.views.GenerationView.{generation_view}
use Rattle.pli_store.specs.views.StorageView.{place_view, storage_view}
use Rattle.pli_store.proofs.HeldScalars.{bits_of_held}
use Rattle.pli_store.proofs.PartAnswers.{kept_or_same}
use Rattle.pli_store.proofs.PutAnswers.{value_is_put}
use Rattle.pli_store.proofs.storage.Storage.put_short.Goals as goal

pub put_short-requires : goal.put_short-requires
put_short-requires c = subst (PartStands (storage_view c.args.self.now) c.in-Some.part) (c.if-not-is_of_bits.ensures.0 refl) c.in-Some.ensures.there

pub invariant_of-self : goal.invariant_of-self
invariant_of-self c =
    let kept = kept_or_same (storage_view c.args.self.now) (map generation_view c.put_short.new.generations.items) c.in-Some.part
    c.args.self.now.made c.args.self.now.rising c.put_short.result (Bit c.args.bits.count) (Bits (short_view c.args.bits) ∷ []) c.put_short.ensures.put in
    record { counted = c.args.self.now.counted ∙ sym kept.counted; limited = c.args.self.now.limited; rising = kept.rising }

pub returns-in-Some-clause-put : goal.returns-in-Some-clause-put
returns-in-Some-clause-put c =
    value_is_put c.args.self.now _ (place_view c.args.place) c.in-Some.part (Bit c.args.bits.count) (c.if-not-is_of_bits.ensures.0 refl) refl c.in-Some.ensures
    c.put_short.result (Bits (short_view c.args.bits)) (eq-eqb _ _ (counted c.args.bits.count c.args.bits.number)) c.put_short.ensures.put

pub returns-then-not-is_of_bits-clause-refused : goal.returns-then-not-is_of_bits-clause-refused
returns-then-not-is_of_bits-clause-refused c = λ e held.
    absurd (true≢false (sym (c.if-not-is_of_bits.ensures.1
    (bits_of_held (place_view c.args.place).description (short_view c.args.bits) held ∙ ap Bit (counted c.args.bits.count c.args.bits.number)))))

pub returns-in-Some-clause-refused : goal.returns-in-Some-clause-refused
returns-in-Some-clause-refused c = λ e held. absurd (true≢false (sym c.put_short.ensures.room ∙ e))
