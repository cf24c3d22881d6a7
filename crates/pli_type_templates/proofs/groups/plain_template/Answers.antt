use Rattle.std.proofs.Common.{List, map, ap, sym, ◌∙◌}
use Rattle.pli_map.specs.Description.{Description}
use Rattle.pli_map.specs.views.DescriptionView.{description_view}
use Rattle.pli_type_tree.specs.Templates.{InitialScalar, Template}
use Rattle.pli_type_tree.specs.views.TemplateView.{initial_view}
use Rattle.pli_type_templates.proofs.groups.plain_template.Goals as goal

pub returns : goal.returns
returns c =
    let d = description_view c.args.made.now.description.now in
    let made : Description → List InitialScalar → Template = λ x is. record { description = x; initial = is } in
    ap (λ x. made x (map initial_view c.new-initial.result.items)) c.in_ok-description.ensures
    ∙ ap (λ xs. made d (map initial_view xs)) c.new-initial.ensures.items
    ∙ ap (made d) (sym c.requires)
