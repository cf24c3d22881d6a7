use Rattle.std.proofs.Common.{map, ap}
use Rattle.pli_map.specs.views.DescriptionView.{description_view}
use Rattle.pli_type_tree.specs.Templates.{variable_of}
use Rattle.pli_type_tree.specs.views.TemplateView.{initial_view}
use Rattle.pli_world.specs.Storage.{Static, Place}
use Rattle.pli_world.specs.World.{Standing, Lies, World, Answer, Yields, further, made_of}
use Rattle.pli_store.specs.views.StorageView.{place_view}
use Rattle.pli_machine_loading.specs.answers.MadeGlobals.{world_at}
use Rattle.pli_machine_activations.proofs.MadeVariables.{answer_ends, further_ends}
use Rattle.pli_store.proofs.SameStorages.{same_storage}
use Rattle.pli_machine_loading.proofs.linking.make_static.Goals as goal

-- what is made lies where it was made
abbrev lies : Place → World → Answer Standing
lies p w = Yields (Lies p) w

pub returns-in-Ok-clause-made : goal.returns-in-Ok-clause-made
returns-in-Ok-clause-made c = λ statics. ap (λ a. further a lies) (c.in-Ok.ensures.answer (world_at c.args.shared.now statics))

pub returns-in-Err-clause-made : goal.returns-in-Err-clause-made
returns-in-Err-clause-made c = λ statics.
    let w = world_at c.args.shared.now statics in
    let old = c.args.shared.now.storage in
    let new = c.make_initial.new.storage in
    let v = variable_of (record {
      description = description_view c.args.description.now;
      initial = map initial_view c.args.scalars.now;
    }) in
    further_ends c.in-Err.fault (made_of v.description Static v.initial w) lies _
    (answer_ends place_view c.in-Err.fault (made_of v.description Static v.initial w) w _ _
    (c.in-Err.ensures.answer w) (same_storage old new w c.in-Err.ensures.err))
