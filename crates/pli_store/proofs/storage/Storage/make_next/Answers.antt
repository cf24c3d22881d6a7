use Rattle.std.proofs.Common.{◌≡◌, length, min, ap, ◌∙◌, subst}
use Rattle.pli_bytes.specs.Contents.{values_of}
use Rattle.pli_map.specs.Scalars.{scalars_of}
use Rattle.pli_map.specs.Values.{are_held}
use Rattle.pli_map.specs.views.DescriptionView.{description_view}
use Rattle.pli_world.specs.Storage.{whole}
use Rattle.pli_world.specs.World.{made_of}
use Rattle.pli_store.specs.answers.Answered.{Answered}
use Rattle.pli_store.specs.views.GenerationView.{made_view}
use Rattle.pli_store.specs.views.StorageView.{with_storage}
use Rattle.pli_store.proofs.storage.Storage.make_next.Goals as goal

pub returns-then-not-has_room_for-clause-answer : goal.returns-then-not-has_room_for-clause-answer
returns-then-not-has_room_for-clause-answer c = λ w vs begins.
    c.if-not-has_room_for.ensures (description_view c.args.description.now) (ap (λ n. min n 4294967296) c.requires) w (made_view c.args.made) vs

pub add_next-requires-clause-size : goal.add_next-requires-clause-size
add_next-requires-clause-size c = ap length c.in_ok-own.ensures ∙ c.requires

pub returns-clause-answer : goal.returns-clause-answer
returns-clause-answer c = λ w vs begins.
    let d = description_view c.args.description.now in
    let values : values_of d c.in_ok-own.own.items ≡ vs = ap (values_of d) c.in_ok-own.ensures ∙ begins.0 in
    let before = with_storage c.args.self.now w in
    let after = with_storage c.add_next.new.self w in
    subst (λ us. Answered (λ _. whole c.args.self.now.made d) c.add_next.result before after (made_of d (made_view c.args.made) us before)) values
    (c.add_next.ensures.answer w (ap (are_held (scalars_of d)) values ∙ begins.1))
