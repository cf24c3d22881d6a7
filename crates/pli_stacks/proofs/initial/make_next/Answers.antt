use Rattle.std.proofs.Common.{map}
use Rattle.pli_map.specs.views.DescriptionView.{description_view}
use Rattle.pli_type_tree.specs.Templates.{Template, variable_of}
use Rattle.pli_type_tree.specs.views.TemplateView.{initial_view}
use Rattle.pli_stacks.proofs.InitialValues.{initial_held}
use Rattle.pli_stacks.proofs.initial.make_next.Goals as goal

pub make_of-requires : goal.make_of-requires
make_of-requires c = (rw c.in-Some.is at c.requires).size

pub returns-in-Some-clause-answer : goal.returns-in-Some-clause-answer
returns-in-Some-clause-answer c = λ w.
    let t : Template = record {
      description = description_view c.args.kind.now.description.now;
      initial = map initial_view c.args.scalars.now;
    } in
    c.make_of.ensures.answer w (variable_of t).initial ((rw c.in-Some.is at c.requires).values, initial_held t)
