use Rattle.std.proofs.Common.{map}
use Rattle.pli_bytes.specs.Contents.{scalars_at}
use Rattle.pli_map.specs.Values.{first_values}
use Rattle.pli_map.specs.views.DescriptionView.{description_view}
use Rattle.pli_store.specs.views.GenerationView.{made_view}
use Rattle.pli_store.specs.views.StorageView.{place_view}
use Rattle.pli_store.proofs.SameStorages.{answered_after, unchanged_after}
use Rattle.pli_world.specs.World.{made_of}
use Rattle.pli_type_tree.specs.Templates.{Template, with_initial, variable_of}
use Rattle.pli_type_tree.specs.views.TemplateView.{initial_view}
use Rattle.pli_stacks.proofs.InitialValues.{initial_held}
use Rattle.pli_stacks.proofs.RoomFor.{room_bounds, no_room}
use Rattle.pli_stacks.proofs.initial.make_anew.Goals as goal

pub first_bytes-requires-clause-limit : goal.first_bytes-requires-clause-limit
first_bytes-requires-clause-limit c =
    room_bounds c.has_room.result c.args.storage.now (description_view c.args.description.now)
    c.if-not-has_room.false c.has_room.ensures

pub returns-then-not-has_room-clause-answer : goal.returns-then-not-has_room-clause-answer
returns-then-not-has_room-clause-answer c = λ w.
    let d = description_view c.args.description.now in
    no_room c.has_room.result c.args.storage.now d (made_view c.args.made)
    (with_initial (scalars_at d) (map initial_view c.args.scalars.now) (first_values d)) w
    c.if-not-has_room.true c.has_room.ensures

pub returns-clause-answer : goal.returns-clause-answer
returns-clause-answer c = λ w.
    let t : Template = record {
      description = description_view c.args.description.now;
      initial = map initial_view c.args.scalars.now;
    } in
    answered_after c.make.result c.args.storage.now c.first_bytes.new.storage c.make.new.self c.in_ok-initial.ensures.same
    place_view (made_of t.description (made_view c.args.made) (variable_of t).initial) w
    (c.make.ensures.answer w (variable_of t).initial (c.in_ok-initial.ensures.laid.values, initial_held t))

pub returns-clause-err : goal.returns-clause-err
returns-clause-err c =
    unchanged_after c.make.result c.args.storage.now c.first_bytes.new.storage c.make.new.self c.in_ok-initial.ensures.same c.make.ensures.err
