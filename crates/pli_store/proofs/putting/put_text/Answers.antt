use Rattle.pli_bytes.specs.Changes.{text_fitted}
use Rattle.pli_map.specs.views.DescriptionView.{description_view}
use Rattle.pli_value.specs.Value.{Characters}
use Rattle.pli_store.proofs.HeldScalars.{scalar_of_held}
use Rattle.pli_store.proofs.PutsSaid.{put_or_same_where}
use Rattle.pli_store.proofs.putting.put_text.Goals as goal

pub returns-clause-put : goal.returns-clause-put
returns-clause-put c =
    let d = description_view c.args.description.now in
    let v = Characters (text_fitted d c.args.text.now) in
    put_or_same_where c.args.generations.now.items c.args.part d c.requires c.index_mut-generation.result.now
    c.index_mut-generation.ensures.value c.deref_mut.result.now c.put_text_at.new.bytes c.deref_mut.ensures.value
    c.put_text_at.auto.bytes _ _ _ _ _ _ c.put_text_at.result v (λ e. scalar_of_held d v (c.put_text_at.ensures.held e)) c.put_text_at.ensures.put
