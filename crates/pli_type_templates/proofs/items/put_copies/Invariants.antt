use Rattle.std.proofs.Common.{◌≡◌, ◌++◌, drop, map}
use Rattle.pli_type_tree.specs.views.TemplateView.{initial_view}
use Rattle.pli_type_templates.specs.Items.{all_with}
use Rattle.pli_type_templates.proofs.items.put_copies.Given as goal
use Rattle.pli_value.specs.Value.{value_view}

-- the copies so far and those for the bytes that are left are those of all
abbrev pub invariant-loop-offset : goal.invariant-loop-offset
invariant-loop-offset l =
    map initial_view l.scalars.items ++ all_with (value_view l.value) (drop l.offset-index l.offsets)
    ≡ map initial_view l.fn.scalars.items ++ all_with (value_view l.value) l.offsets
