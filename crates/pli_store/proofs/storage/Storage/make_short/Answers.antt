use Rattle.std.proofs.Common.{◌≡◌, length, min, true≢false, sym, ap, ◌∙◌, subst}
use Rattle.pli_bytes.specs.Contents.{values_of}
use Rattle.pli_map.specs.Scalars.{scalars_of}
use Rattle.pli_map.specs.Values.{are_held}
use Rattle.pli_map.specs.views.DescriptionView.{description_view}
use Rattle.pli_world.specs.Storage.{whole}
use Rattle.pli_world.specs.World.{Yields, made_of}
use Rattle.pli_store.specs.views.GenerationView.{made_view}
use Rattle.pli_store.specs.views.StorageView.{with_storage}
use Rattle.pli_store.proofs.storage.Storage.make_short.Goals as goal

pub add_of-requires-clause-there : goal.add_of-requires-clause-there
add_of-requires-clause-there c = sym c.requires.plain

pub add_of-requires-clause-capacity : goal.add_of-requires-clause-capacity
add_of-requires-clause-capacity c = λ is. absurd (true≢false (sym is ∙ c.requires.plain))

pub add_of-requires-clause-room : goal.add_of-requires-clause-room
add_of-requires-clause-room c =
    c.if-not-has_room_for.ensures (description_view c.args.kind.now.description.now)
    (ap (λ n. min n 4294967296) (c.from.ensures ∙ sym c.requires.size))

pub add_of-requires-clause-size : goal.add_of-requires-clause-size
add_of-requires-clause-size c = ap length c.in-Some.ensures ∙ c.requires.bytes ∙ sym c.requires.size

pub returns-clause-made : goal.returns-clause-made
returns-clause-made c = λ done w vs begins.
    let d = description_view c.args.kind.now.description.now in
    let values : values_of d c.in-Some.own.items ≡ vs = ap (values_of d) c.in-Some.ensures ∙ begins.0 in
    let before = with_storage c.args.self.now w in
    let after = with_storage c.add_of.new.self w in
    subst (λ us. made_of d (made_view c.args.made) us before ≡ Yields (whole c.args.self.now.made d) after) values
    (c.add_of.ensures w (ap (are_held (scalars_of d)) values ∙ begins.1))
