use Rattle.std.proofs.Common.{[], ◌∷◌, map, refl, sym, ◌∙◌}
use Rattle.pli_bytes.specs.Changes.{text_fitted}
use Rattle.pli_map.specs.views.DescriptionView.{description_view}
use Rattle.pli_value.specs.Value.{Characters}
use Rattle.pli_store.specs.views.GenerationView.{generation_view}
use Rattle.pli_store.specs.views.StorageView.{place_view, storage_view}
use Rattle.pli_store.proofs.PartAnswers.{kept_or_same}
use Rattle.pli_store.proofs.PutAnswers.{value_is_put_where}
use Rattle.pli_store.proofs.storage.Storage.put_text_in.Goals as goal

pub put_text-requires : goal.put_text-requires
put_text-requires c = c.requires.there

pub invariant_of-self : goal.invariant_of-self
invariant_of-self c =
    let d = description_view c.args.place.description.now in
    let kept = kept_or_same (storage_view c.args.self.now) (map generation_view c.put_text.new.generations.items) c.args.part
    c.args.self.now.made c.args.self.now.rising c.put_text.result d (Characters (text_fitted d c.args.text.now) ∷ []) c.put_text.ensures.put in
    record { counted = c.args.self.now.counted ∙ sym kept.counted; limited = c.args.self.now.limited; rising = kept.rising }

pub returns-clause-put : goal.returns-clause-put
returns-clause-put c =
    let d = description_view c.args.place.description.now in
    value_is_put_where c.args.self.now _ (place_view c.args.place) c.args.part d refl refl c.requires
    c.put_text.result (Characters (text_fitted d c.args.text.now)) c.put_text.ensures.held c.put_text.ensures.put
