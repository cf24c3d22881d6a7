use Rattle.std.proofs.Common.{true, [], ◌∷◌, map, refl, sym, ◌∙◌, subst, SFits, w64, rules}
use Rattle.std.proofs.lemmas.Int.{to_z-of_z}
use Rattle.pli_map.specs.Description.{FixedBinary}
use Rattle.pli_value.specs.Value.{Number}
use Rattle.pli_store.specs.answers.Found.{PartStands}
use Rattle.pli_store.specs.views.GenerationView.{generation_view}
use Rattle.pli_store.specs.views.StorageView.{storage_view}
use Rattle.pli_store.proofs.KnownLemmas.{put_by}
use Rattle.pli_store.proofs.LoneLemmas.{stored_in}
use Rattle.pli_store.proofs.PartAnswers.{kept_put}
use Rattle.pli_store.proofs.storage.Storage.put_number_there.Goals as goal

pub put_number-requires-clause-stands : goal.put_number-requires-clause-stands
put_number-requires-clause-stands c =
    let s = c.requires.stands in
    subst (PartStands (storage_view c.args.self.now) c.args.stands) (s.described ∙ c.requires.number) s.there.there

pub invariant_of-self : goal.invariant_of-self
invariant_of-self c =
    let fits : SFits w64 c.args.number = search rules in
    let whole = to_z-of_z w64 c.args.number fits in
    let kept = kept_put (storage_view c.args.self.now) (map generation_view c.put_number.new.generations.items) c.args.stands
    c.args.self.now.made c.args.self.now.rising (FixedBinary c.args.precision) (Number c.args.number ∷ []) (rw whole at c.put_number.ensures) in
    record { counted = c.args.self.now.counted ∙ sym kept.counted; limited = c.args.self.now.limited; rising = kept.rising }

pub returns : goal.returns
returns c =
    let fits : SFits w64 c.args.number = search rules in
    let whole = to_z-of_z w64 c.args.number fits in
    let s = c.requires.stands in
    put_by true c.args.self.now _ c.args._locator c.args._part.now c.args.stands s (Number c.args.number)
    (stored_in c.args.self.now (map generation_view c.put_number.new.generations.items) c.args.self.now.made s.part c.args.stands
    (FixedBinary c.args.precision) (s.described ∙ c.requires.number) s.there (Number c.args.number) (rw whole at c.put_number.ensures) refl c.requires.held)
