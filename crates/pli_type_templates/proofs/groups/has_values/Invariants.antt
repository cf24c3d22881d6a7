use Rattle.std.proofs.Common.{◌≡◌, drop}
use Rattle.std.specs.List.{flat_map}
use Rattle.pli_map.specs.views.DescriptionView.{description_view}
use Rattle.pli_type_rules.specs.InitialScalars.{initial_scalars}
use Rattle.pli_type_templates.specs.views.ItemView.{items_view}
use Rattle.pli_type_templates.proofs.groups.has_values.Given as goal

-- the members so far give nothing
abbrev pub invariant-loop-member : goal.invariant-loop-member
invariant-loop-member l =
    let d = description_view l.made.description.now in
    flat_map (initial_scalars d) (items_view (drop l.member-index l.members)) ≡ flat_map (initial_scalars d) (items_view l.members)
