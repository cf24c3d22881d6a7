use Rattle.std.proofs.Common.{◌≡◌, ◌∷◌, [], ◌++◌, Some, MatchResult, sym, ap, ◌∙◌, subst}
use Rattle.pli_map.specs.views.DescriptionView.{description_view}
use Rattle.pli_value.specs.Value.{value_view}
use Rattle.pli_world.specs.Storage.{Place}
use Rattle.pli_world.specs.Strings.{dummy_with}
use Rattle.pli_world.specs.World.{Answer, Yields, in_newest}
use Rattle.pli_store.specs.answers.Answered.{Answered}
use Rattle.pli_store.specs.views.StorageView.{place_view, with_storage}
use Rattle.pli_store.proofs.StringLemmas.{string_dummy_is, no_string_dummy}
use Rattle.pli_store.proofs.storage.Storage.push_string.Goals as goal

pub of-description-requires-clause-some : goal.of-description-requires-clause-some
of-description-requires-clause-some c = c.in-Ok.ensures.some

pub of-description-requires-clause-few : goal.of-description-requires-clause-few
of-description-requires-clause-few c = c.in-Ok.ensures.few

pub returns-in-Ok-clause-made : goal.returns-in-Ok-clause-made
returns-in-Ok-clause-made c = λ w.
    let before = with_storage c.args.self.now w in
    let after = with_storage c.make_dummy.new.self w in
    let r = c.make_dummy.result in
    let x = value_view c.in-Ok.made.value in
    let is = string_dummy_is c.args.form (value_view c.args.value) x (description_view c.of-description.result.now) before
    (c.in-Ok.ensures.is ∙ ap (λ d. Some (dummy_with d x)) (sym c.of-description.ensures)) in
    subst
    (λ (a : Answer Place). MatchResult r
    (λ place. a ≡ Yields (place_view place) (in_newest (λ b. record b { pending = b.pending ++ place.generation ∷ [] }) after))
    (λ _. Answered place_view r before after a))
    (sym is)
    (c.make_dummy.ensures.made w)

pub returns-in-Err-clause-made : goal.returns-in-Err-clause-made
returns-in-Err-clause-made c = λ w.
    let before = with_storage c.args.self.now w in
    no_string_dummy place_view c.args.form (value_view c.args.value) c.in-Err.fault before before c.in-Err.ensures
