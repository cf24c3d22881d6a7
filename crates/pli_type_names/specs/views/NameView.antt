-- What parts of variables say, apart from where they lie in memory.
use Rattle.std.specs.Prelude.{map}
use Rattle.pli_map.specs.views.DescriptionView.{description_view}
use Rattle.pli_type_rules.specs.References as plain
use Rattle.pli_type_tree.specs.views.TypedView.{stride_view}
use Rattle.pli_type_names.specs.declared.part.StridedPart.{StridedPart}

-- a part of a variable
abbrev pub part_view : StridedPart → plain.StridedPart
part_view p = record {
  offset = p.offset;
  description = description_view p.description.now;
  strides = map stride_view p.strides.items;
}
