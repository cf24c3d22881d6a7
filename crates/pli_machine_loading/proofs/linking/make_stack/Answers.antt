use Rattle.std.proofs.Common.{map, sym, ap, ◌∙◌}
use Rattle.pli_map.specs.views.DescriptionView.{description_view}
use Rattle.pli_type_tree.specs.Templates.{variable_of}
use Rattle.pli_type_tree.specs.views.TemplateView.{initial_view}
use Rattle.pli_world.specs.World.{Stacked, Yields, with_new_stack}
use Rattle.pli_machine_loading.specs.answers.MadeGlobals.{world_at}
use Rattle.pli_machine_loading.proofs.linking.make_stack.Goals as goal

pub returns-clause-made : goal.returns-clause-made
returns-clause-made c = λ statics.
    let w = world_at c.args.shared.now statics in
    let v = variable_of (record {
      description = description_view c.args.description.now;
      initial = map initial_view c.args.scalars.now;
    }) in
    ap (λ n. Yields (Stacked n) (with_new_stack v w)) (sym c.in_ok-stack.ensures.number)
    ∙ ap (λ xs. Yields (Stacked c.in_ok-stack.stack) (record w { stacks = xs })) (sym c.in_ok-stack.ensures.added)
