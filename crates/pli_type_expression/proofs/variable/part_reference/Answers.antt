use Rattle.std.proofs.Common.{ap, ◌∙◌}
use Rattle.pli_map.specs.views.DescriptionView.{description_view}
use Rattle.pli_type_tree.specs.TypedTree.{Part}
use Rattle.pli_type_tree.specs.laws.TypedTreeLaws.{part_made}
use Rattle.pli_type_tree.specs.views.TypedView.{root_view, subscripts_view}
use Rattle.pli_type_expression.proofs.variable.part_reference.Goals as goal

pub returns : goal.returns
returns c =
    part_made c.into_inner.result c.args.offset c.args.description c.args.subscripts
    ∙ ap (λ r. Part (root_view r) c.args.offset (description_view c.args.description) (subscripts_view c.args.subscripts.items)) c.into_inner.ensures
