use Rattle.std.proofs.Common.{◌≡◌, ◌++◌, drop, map}
use Rattle.pli_type_tree.specs.views.TemplateView.{initial_view}
use Rattle.pli_type_templates.proofs.unit_templates.template_copy.Given as goal

-- the initial values so far, with those that are left
abbrev pub invariant-loop-scalar : goal.invariant-loop-scalar
invariant-loop-scalar l =
    map initial_view l.scalars.items ++ map initial_view (drop l.scalar-index l.template.initial.items)
    ≡ map initial_view l.template.initial.items
