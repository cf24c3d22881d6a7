use Rattle.std.proofs.Common.{[], ◌∷◌, map, refl, sym, ◌∙◌, subst}
use Rattle.pli_map.specs.Description.{Pointer}
use Rattle.pli_value.specs.Value.{Located}
use Rattle.pli_store.specs.answers.Found.{PartStands}
use Rattle.pli_store.specs.views.GenerationView.{generation_view}
use Rattle.pli_store.specs.views.StorageView.{storage_view}
use Rattle.pli_store.proofs.KnownLemmas.{put_by}
use Rattle.pli_store.proofs.PartAnswers.{kept_or_same}
use Rattle.pli_store.proofs.PutAnswers.{value_is_put_where}
use Rattle.pli_store.proofs.storage.Storage.put_pointer_there.Goals as goal

pub put_pointer-requires : goal.put_pointer-requires
put_pointer-requires c =
    let s = c.requires.stands in
    subst (PartStands (storage_view c.args.self.now) c.args.stands) (s.described ∙ c.requires.pointer) s.there.there

pub invariant_of-self : goal.invariant_of-self
invariant_of-self c =
    let kept = kept_or_same (storage_view c.args.self.now) (map generation_view c.put_pointer.new.generations.items) c.args.stands
    c.args.self.now.made c.args.self.now.rising c.put_pointer.result Pointer (Located c.args.pointer ∷ []) c.put_pointer.ensures.put in
    record { counted = c.args.self.now.counted ∙ sym kept.counted; limited = c.args.self.now.limited; rising = kept.rising }

pub returns : goal.returns
returns c =
    let s = c.requires.stands in
    put_by c.put_pointer.result c.args.self.now _ c.args._locator c.args._part.now c.args.stands s (Located c.args.pointer)
    (value_is_put_where c.args.self.now _ s.part c.args.stands Pointer (s.described ∙ c.requires.pointer) refl s.there
    c.put_pointer.result (Located c.args.pointer) c.put_pointer.ensures.held.0 c.put_pointer.ensures.put)
