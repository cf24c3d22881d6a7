use Rattle.std.proofs.Common.{◌≡◌, [], ◌∷◌, length, sym, ap, ◌∙◌, subst}
use Rattle.std.specs.Vec.{with_items}
use Rattle.std.proofs.lemmas.List.{with_items_is}
use Rattle.pli_bytes.specs.Contents.{values_of}
use Rattle.pli_map.specs.Scalars.{scalars_of}
use Rattle.pli_map.specs.Sizes.{size_of}
use Rattle.pli_map.specs.Values.{are_held}
use Rattle.pli_map.specs.views.DescriptionView.{description_view}
use Rattle.pli_value.specs.Value.{value_view}
use Rattle.pli_world.specs.Storage.{Dummy}
use Rattle.pli_world.specs.World.{made_of}
use Rattle.pli_store.specs.answers.Answered.{Answered}
use Rattle.pli_store.specs.views.StorageView.{place_view, with_storage}
use Rattle.pli_store.proofs.MakingLemmas.{dummy_misfit, dummy_made, dummy_without_room, dummy_held, dummy_values}
use Rattle.pli_store.proofs.storage.Storage.make_dummy.Goals as goal

pub returns-then-not-holds-clause-made : goal.returns-then-not-holds-clause-made
returns-then-not-holds-clause-made c = λ w. dummy_misfit (description_view c.args.description.now) (value_view c.args.value) (with_storage c.args.self.now w) (sym c.if-not-holds.ensures)

pub returns-in_default-clause-made : goal.returns-in_default-clause-made
returns-in_default-clause-made c = λ w.
    let v = value_view c.args.value in
    dummy_without_room (description_view c.args.description.now) v (with_storage c.args.self.now w) (sym c.if-not-holds.ensures) (c.in_default.ensures w Dummy (v ∷ []))

pub returns-clause-made : goal.returns-clause-made
returns-clause-made c = λ w.
    let d = description_view c.args.description.now in
    let v = value_view c.args.value in
    let fits = sym c.if-not-holds.ensures in
    let bytes = c.in_ok-bytes.bytes in
    let new = c.put_value_at.new.bytes in
    let size : length c.deref_mut.result.now ≡ size_of d = ap length c.deref_mut.ensures.value ∙ c.in_ok-bytes.ensures ∙ c.in-Some.ensures.0 in
    let holds_it = dummy_values d v c.deref_mut.result.now new fits size c.put_value_at.ensures in
    let values : values_of d (with_items bytes new).items ≡ v ∷ [] = ap (values_of d) (with_items_is bytes new (holds_it.1 ∙ c.deref_mut.ensures.len)) ∙ holds_it.0 in
    let before = with_storage c.args.self.now w in
    let after = with_storage c.add.new.self w in
    let answer = c.add.ensures.answer w (ap (are_held (scalars_of d)) values ∙ dummy_held d v fits) in
    dummy_made place_view d v c.add.result before after fits
    (subst (λ vs. Answered place_view c.add.result before after (made_of d Dummy vs before)) values answer)
