use Rattle.std.proofs.Common.{◌≡◌, drop, slice_get}
use Rattle.pli_type_tree.specs.views.TemplateView.{groups_view}
use Rattle.pli_type_templates.proofs.unit_templates.template_in.Given as goal

-- the one that is left to count is the one of the number
abbrev pub invariant-loop-group : goal.invariant-loop-group
invariant-loop-group l =
    slice_get (groups_view (drop l.group-index l.groups)) l.left ≡ slice_get (groups_view l.groups) l.number
