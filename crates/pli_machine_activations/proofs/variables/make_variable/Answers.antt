use Rattle.std.proofs.Common.{◌∷◌, map, sym, ap, ◌∙◌}
use Rattle.pli_map.specs.views.DescriptionView.{description_view}
use Rattle.pli_type_tree.specs.Templates.{variable_of}
use Rattle.pli_type_tree.specs.views.TemplateView.{initial_view}
use Rattle.pli_world.specs.Storage.{Automatic}
use Rattle.pli_world.specs.World.{made_of, made_all, further, in_newest, with_slot}
use Rattle.pli_store.specs.views.StorageView.{place_view, with_storage}
use Rattle.pli_machine_activations.specs.views.MachineView.{activations_of, world_of}
use Rattle.pli_machine_activations.proofs.MadeVariables.{answer_ends, further_ends}
use Rattle.pli_store.proofs.SameStorages.{same_storage}
use Rattle.pli_machine_activations.proofs.variables.make_variable.Goals as goal

pub returns-in_ok-add_slot-in-Ok-clause-made : goal.returns-in_ok-add_slot-in-Ok-clause-made
returns-in_ok-add_slot-in-Ok-clause-made c = λ more image put.
    let m = c.args.machine.now in
    ap (λ a. further a (λ p w. made_all more (in_newest (with_slot p) w))) (c.in-Ok.ensures.answer (world_of image m put))
    ∙ ap (λ a. made_all more (record (with_storage c.make_initial.new.storage (world_of image m put)) { activations = a ∷ activations_of m.waiting.items }))
    (sym c.in_ok-add_slot-in-Ok.ensures.slot)

pub returns-in-Err-clause-made : goal.returns-in-Err-clause-made
returns-in-Err-clause-made c = λ more image put.
    let m = c.args.machine.now in
    let w = world_of image m put in
    let v = variable_of (record {
      description = description_view c.args.description.now;
      initial = map initial_view c.args.scalars.now;
    }) in
    further_ends c.in-Err.fault (made_of v.description Automatic v.initial w)
    (λ p w. made_all more (in_newest (with_slot p) w)) _
    (answer_ends place_view c.in-Err.fault (made_of v.description Automatic v.initial w) w _ _
    (c.in-Err.ensures.answer w) (same_storage m.storage c.make_initial.new.storage w c.in-Err.ensures.err))
