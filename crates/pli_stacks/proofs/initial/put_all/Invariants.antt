use Rattle.std.proofs.Common.{◌≡◌, drop, length, map}
use Rattle.pli_bytes.specs.Contents.{scalars_at, values_of}
use Rattle.pli_map.specs.views.DescriptionView.{description_view}
use Rattle.pli_type_tree.specs.Templates.{with_initial}
use Rattle.pli_type_tree.specs.views.TemplateView.{initial_view}
use Rattle.pli_stacks.proofs.initial.put_all.Given as goal

-- the initial values that are left make of the values so far what all make of the first ones
abbrev pub invariant-loop-scalar : goal.invariant-loop-scalar
invariant-loop-scalar l =
    let d = description_view l.description in
    record {
      put : with_initial (scalars_at d) (map initial_view (drop l.scalar-index l.scalars)) (values_of d l.bytes)
          ≡ with_initial (scalars_at d) (map initial_view l.scalars) (values_of d l.initial.bytes);
      size : length l.bytes ≡ length l.initial.bytes;
    }
