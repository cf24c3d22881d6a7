use Rattle.std.proofs.Common.{◌≡◌, ◌<◌, ◌*◌, ◌++◌, drop, map}
use Rattle.pli_map.specs.Sizes.{count_of, stride_of}
use Rattle.pli_map.specs.views.DescriptionView.{description_view}
use Rattle.pli_type_rules.specs.References.{strides_of}
use Rattle.pli_type_tree.specs.views.TypedView.{stride_view}
use Rattle.pli_type_names.proofs.part.push_strides.Given as goal

-- the strides so far with those of the dimensions that are left, of whose elements these are the bytes
abbrev pub invariant-loop-dimension : goal.invariant-loop-dimension
invariant-loop-dimension l = record {
  elements : 0 < count_of (drop l.dimension-index l.bounds);
  bytes : l.left ≡ count_of (drop l.dimension-index l.bounds) * stride_of (description_view l.element);
  strides : map stride_view l.strides.items ++ strides_of (drop l.dimension-index l.bounds) (description_view l.element)
      ≡ map stride_view l.fn.strides.items ++ strides_of l.bounds (description_view l.element);
}
