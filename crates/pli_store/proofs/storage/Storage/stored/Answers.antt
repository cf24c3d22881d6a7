use Rattle.std.proofs.Common.{[], ◌∷◌, map, sym, ◌∙◌}
use Rattle.std.proofs.lemmas.Result.{err_from_is_err_and}
use Rattle.pli_map.specs.views.DescriptionView.{description_view}
use Rattle.pli_value.specs.Value.{value_view}
use Rattle.pli_store.specs.views.GenerationView.{generation_view}
use Rattle.pli_store.specs.views.StorageView.{place_view, storage_view, with_storage}
use Rattle.pli_store.proofs.PartAnswers.{stored_failed, stored_misfit, stored_done, kept_put}
use Rattle.pli_store.proofs.storage.Storage.stored.Goals as goal

pub returns-in_err-part-clause-answer : goal.returns-in_err-part-clause-answer
returns-in_err-part-clause-answer c = λ w.
    let p = err_from_is_err_and c.from_residual.result c.from_residual.ensures.1 in
    rw (p.1, p.2) (stored_failed {T = Unit {0}} (λ x. tt) (place_view c.args.place) (value_view c.args.value) (with_storage c.args.self.now w) (with_storage c.args.self.now w) c.if-place-ne0.false c.in_err-part.field-0.0 c.in_err-part.ensures)

pub returns-then-not-holds-clause-answer : goal.returns-then-not-holds-clause-answer
returns-then-not-holds-clause-answer c = λ w.
    stored_misfit (place_view c.args.place) (with_storage c.args.self.now w) c.in_ok-part.part c.in_ok-part.ensures (value_view c.args.value) (sym c.if-not-holds.ensures)

pub invariant_of-self : goal.invariant_of-self
invariant_of-self c =
    let kept = kept_put (storage_view c.args.self.now) (map generation_view c.put_value.new.generations.items) c.in_ok-part.part
    c.args.self.now.made c.args.self.now.rising (description_view c.args.place.description.now) (value_view c.args.value ∷ []) c.put_value.ensures in
    record { counted = c.args.self.now.counted ∙ sym kept.counted; limited = c.args.self.now.limited; rising = kept.rising }

pub returns-clause-answer : goal.returns-clause-answer
returns-clause-answer c = λ w.
    stored_done (place_view c.args.place) (with_storage c.args.self.now w) c.in_ok-part.part c.in_ok-part.ensures
    (map generation_view c.put_value.new.generations.items) c.args.self.now.made c.args.self.now.rising (value_view c.args.value) (sym c.if-not-holds.ensures) c.put_value.ensures
