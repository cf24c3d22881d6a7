use Rattle.std.proofs.Common.{map, sym, subst}
use Rattle.pli_map.specs.views.DescriptionView.{description_view}
use Rattle.pli_type_tree.specs.Templates.{variable_of}
use Rattle.pli_type_tree.specs.views.TemplateView.{initial_view}
use Rattle.pli_machine_loading.specs.answers.MadeGlobals.{MadeAs}
use Rattle.pli_machine_loading.proofs.linking.make_kind.Goals as goal

pub returns-in-Static-clause-made : goal.returns-in-Static-clause-made
returns-in-Static-clause-made c = λ statics.
    let v = variable_of (record {
      description = description_view c.args.description.now;
      initial = map initial_view c.args.scalars.now;
    }) in
    subst (λ kind. MadeAs kind v c.args.shared.now c.make_static.new.shared statics c.make_static.result) (sym c.in-Static.is)
    (c.make_static.ensures.made statics)

pub returns-in-Controlled-clause-made : goal.returns-in-Controlled-clause-made
returns-in-Controlled-clause-made c = λ statics.
    let v = variable_of (record {
      description = description_view c.args.description.now;
      initial = map initial_view c.args.scalars.now;
    }) in
    subst (λ kind. MadeAs kind v c.args.shared.now c.make_stack.new.shared statics c.make_stack.result) (sym c.in-Controlled.is)
    (c.make_stack.ensures.made statics)
