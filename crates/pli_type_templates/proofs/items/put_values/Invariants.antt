use Rattle.std.proofs.Common.{◌≡◌, ◌≤◌, ◌++◌, drop, length, map}
use Rattle.pli_map.specs.views.DescriptionView.{description_view}
use Rattle.pli_type_rules.specs.InitialScalars.{each_with, values_written}
use Rattle.pli_type_templates.specs.Plans.{placed_as}
use Rattle.pli_type_templates.proofs.items.put_values.Given as goal
use Rattle.pli_type_tree.specs.views.TemplateView.{initial_view}

-- the values so far, and what is left of values and of bytes, are those of all
abbrev pub invariant-loop-written : goal.invariant-loop-written
invariant-loop-written l = record {
  whole : map initial_view l.scalars.items
      ++ each_with (placed_as (description_view l.description) (drop l.used l.offsets)) (values_written (drop l.written-index l.values))
      ≡ map initial_view l.fn.scalars.items ++ each_with (placed_as (description_view l.description) l.offsets) (values_written l.values);
  within : l.used ≤ length l.offsets;
}
