use Rattle.std.proofs.Common.{map, refl}
use Rattle.pli_area_blocks.proofs.Options.{said_of_err}
use Rattle.pli_map.specs.views.DescriptionView.{description_view}
use Rattle.pli_store.specs.views.StorageView.{place_view}
use Rattle.pli_store.proofs.SameStorages.{answered_after, unchanged_after}
use Rattle.pli_world.specs.Areas.{allocated_in}
use Rattle.pli_type_tree.specs.Templates.{Template, variable_of}
use Rattle.pli_type_tree.specs.views.TemplateView.{initial_view}
use Rattle.pli_stacks.proofs.InitialValues.{initial_held}
use Rattle.pli_locators.proofs.locating.allocate_anew_in.Goals as goal

pub returns-then-size-gt-BLOCK_BYTES-clause-answer : goal.returns-then-size-gt-BLOCK_BYTES-clause-answer
returns-then-size-gt-BLOCK_BYTES-clause-answer c = λ w.
    let t : Template = record {
      description = description_view c.args.description.now;
      initial = map initial_view c.args.scalars.now;
    } in
    c.refuse_in.ensures w (variable_of t).initial (initial_held t)

pub returns-then-size-gt-BLOCK_BYTES-clause-err : goal.returns-then-size-gt-BLOCK_BYTES-clause-err
returns-then-size-gt-BLOCK_BYTES-clause-err c = said_of_err c.refuse_in.result (record { storage = refl; made = refl })

pub returns-clause-answer : goal.returns-clause-answer
returns-clause-answer c = λ w.
    let t : Template = record {
      description = description_view c.args.description.now;
      initial = map initial_view c.args.scalars.now;
    } in
    answered_after c.allocate_in.result c.args.storage.now c.first_bytes.new.storage c.allocate_in.new.self c.in_ok-initial.ensures.same
    (λ l. l) (allocated_in (place_view c.args.area) (variable_of t)) w
    (c.allocate_in.ensures.answer w (variable_of t).initial (c.in_ok-initial.ensures.laid.values, initial_held t))

pub returns-clause-err : goal.returns-clause-err
returns-clause-err c =
    unchanged_after c.allocate_in.result c.args.storage.now c.first_bytes.new.storage c.allocate_in.new.self c.in_ok-initial.ensures.same
    c.allocate_in.ensures.err
