-- What a type of the program says, apart from where it lies in memory.
use Rattle.std.specs.Prelude.{List, map, option_map}
use Rattle.pli_map.specs.ParameterTypes as tree
use Rattle.pli_map.specs.ParameterTypes.{types_of}
use Rattle.pli_map.specs.views.DescriptionView.{description_view}
use Rattle.pli_map.specs.declared.parameter.ParameterType.{ParameterType}
use Rattle.pli_map.specs.declared.parameter.ParameterType.TheOpen.{ParameterType-F}
use Rattle.pli_map.specs.declared.parameter.ParameterType.TheFolds.{fold-ParameterType}
use Rattle.pli_map.specs.declared.parameter.ArrayRef.{ArrayRef}
use Rattle.pli_map.specs.declared.parameter.TypeRef.{TypeRef}
use Rattle.pli_map.specs.declared.parameter.TypeRef.TheVariants.{Stated, Open}

-- one level, with what each type inside says in its place
abbrev pub level_view : ParameterType-F tree.ParameterType → tree.ParameterType
level_view (ParameterType-F.Stated description) = tree.Stated (description_view description)
level_view (ParameterType-F.AnyString form) = tree.AnyString form
level_view (ParameterType-F.AnyArray dimensions element) = tree.AnyArray dimensions element.value
level_view (ParameterType-F.ArrayOf bounds element) = tree.ArrayOf bounds.items element.value
level_view (ParameterType-F.StructureOf members) = tree.StructureOf (types_of members.items)

-- what a type says
abbrev pub type_view : ParameterType → tree.ParameterType
type_view = fold-ParameterType tree.ParameterType level_view

-- what the types of members say
abbrev pub types_view : List ParameterType → tree.ParameterTypes
types_view ts = types_of (map type_view ts)

-- what a type says that is lent
abbrev pub type_seen : TypeRef → tree.ParameterType
type_seen (Stated description) = tree.Stated (description_view description.now)
type_seen (Open type) = type_view type.now

-- an array that is lent
abbrev pub array_seen : ArrayRef → tree.ArrayParts
array_seen a = record {
  dimensions = a.dimensions;
  bounds = option_map (λ bounds. bounds.now) a.bounds;
  element = type_seen a.element;
}
