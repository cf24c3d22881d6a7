use Rattle.std.proofs.Common.{map, ap, ◌∙◌}
use Rattle.pli_bytes.specs.Contents.{scalars_at}
use Rattle.pli_map.specs.views.DescriptionView.{description_view}
use Rattle.pli_type_tree.specs.Templates.{with_initial}
use Rattle.pli_type_tree.specs.views.TemplateView.{initial_view}
use Rattle.pli_stacks.proofs.initial.lay_initial.Goals as goal

pub returns : goal.returns
returns c = record {
  size = c.put_all.ensures.size ∙ c.lay_first.ensures.size ∙ c.requires.size;
  values =
      c.put_all.ensures.put
      ∙ ap (with_initial (scalars_at (description_view c.args.description.now)) (map initial_view c.args.scalars.now)) c.lay_first.ensures.laid;
}
