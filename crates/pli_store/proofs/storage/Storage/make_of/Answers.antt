use Rattle.std.proofs.Common.{◌≡◌, ◌+◌, ◌≤◌, List, length, map, min, sym, ap, subst, ◌∙◌}
use Rattle.pli_bytes.specs.Contents.{values_of}
use Rattle.pli_map.specs.Scalars.{scalars_of}
use Rattle.pli_map.specs.Sizes.{size_of}
use Rattle.pli_map.specs.Values.{are_held}
use Rattle.pli_map.specs.Variables.{byte_limit}
use Rattle.pli_map.specs.views.DescriptionView.{description_view}
use Rattle.pli_world.specs.Storage as plain
use Rattle.pli_world.specs.Storage.{live_bytes, whole}
use Rattle.pli_world.specs.World.{World, Yields, made_of}
use Rattle.pli_store.specs.views.GenerationView.{generation_view, made_view}
use Rattle.pli_store.specs.views.StorageView.{with_storage}
use Rattle.pli_store.proofs.storage.Storage.make_of.Goals as goal

pub returns-then-not-has_room_for-clause-answer : goal.returns-then-not-has_room_for-clause-answer
returns-then-not-has_room_for-clause-answer c = λ w vs begins.
    c.if-not-has_room_for.ensures (description_view c.args.kind.now.description.now) (ap (λ n. min n 4294967296) c.requires) w (made_view c.args.made) vs

pub add_of-requires-clause-room : goal.add_of-requires-clause-room
add_of-requires-clause-room c =
    let d = description_view c.args.kind.now.description.now in
    let room = c.if-not-has_room_for.ensures d (ap (λ n. min n 4294967296) c.requires) in
    (room.0, subst (λ gs. live_bytes (map generation_view gs) + size_of d ≤ byte_limit) (sym c.reserve_one.ensures.items) room.1)

pub add_of-requires-clause-size : goal.add_of-requires-clause-size
add_of-requires-clause-size c = ap length c.in_ok-own.ensures ∙ c.requires

pub returns-clause-answer : goal.returns-clause-answer
returns-clause-answer c = λ w vs begins.
    let d = description_view c.args.kind.now.description.now in
    let made = c.args.self.now.made in
    let values : values_of d c.in_ok-own.own.items ≡ vs = ap (values_of d) c.in_ok-own.ensures ∙ begins.0 in
    let after = with_storage c.add_of.new.self w in
    let world : List plain.Generation → World = λ gs. record w { storage = gs; made = made } in
    subst (λ us. made_of d (made_view c.args.made) us (with_storage c.args.self.now w) ≡ Yields (whole made d) after) values
    (subst (λ gs. made_of d (made_view c.args.made) (values_of d c.in_ok-own.own.items) (world (map generation_view gs)) ≡ Yields (whole made d) after)
    c.reserve_one.ensures.items (c.add_of.ensures w (ap (are_held (scalars_of d)) values ∙ begins.1)))
