-- What a tree of the program says, apart from where it lies in memory.
use Rattle.std.specs.Prelude.{map, option_map}
use Rattle.pli_base.specs.Declarations as tree
use Rattle.pli_base.specs.declared.declaration.SimpleAttribute.{SimpleAttribute}
use Rattle.pli_base.specs.declared.declaration.SimpleAttribute.TheVariants.{Fixed, Binary, Character, Bit}
use Rattle.pli_base.specs.declared.declaration.SimpleAttribute.TheVariants.{Varying, Pointer, Offset, Area}
use Rattle.pli_base.specs.declared.declaration.SimpleAttribute.TheVariants.{Based, Controlled, Static}
use Rattle.pli_base.specs.declared.declaration.SimpleAttribute.TheVariants.{Automatic, External, Internal}
use Rattle.pli_base.specs.declared.declaration.SimpleAttribute.TheVariants.{Builtin, Initial}
use Rattle.pli_base.specs.declared.declaration.DescribedAttribute.{DescribedAttribute}
use Rattle.pli_base.specs.declared.declaration.DescribedAttribute.TheVariants as described
use Rattle.pli_base.specs.declared.declaration.ParameterDescription.{ParameterDescription}
use Rattle.pli_base.specs.declared.declaration.Attribute.{Attribute}
use Rattle.pli_base.specs.declared.declaration.Attribute.TheVariants as attributes
use Rattle.pli_base.specs.declared.declaration.Item.{Item}

-- an attribute other than ENTRY and RETURNS
abbrev pub simple_view : SimpleAttribute → tree.SimpleAttribute
simple_view (Fixed n) = tree.Fixed n
simple_view (Binary n) = tree.Binary n
simple_view (Character n) = tree.Character n
simple_view (Bit n) = tree.Bit n
simple_view Varying = tree.Varying
simple_view Pointer = tree.Pointer
simple_view (Offset n) = tree.Offset n
simple_view (Area n) = tree.Area n
simple_view (Based names) = tree.Based (option_map (λ v. v.items) names)
simple_view Controlled = tree.Controlled
simple_view Static = tree.Static
simple_view Automatic = tree.Automatic
simple_view External = tree.External
simple_view Internal = tree.Internal
simple_view Builtin = tree.Builtin
simple_view (Initial values) = tree.Initial values.items

-- an attribute of a parameter in ENTRY, or of a result
abbrev pub described_view : DescribedAttribute → tree.DescribedAttribute
described_view (described.Simple a) = tree.Plain (simple_view a)
described_view described.Entry = tree.AnyEntry
described_view described.Returns = tree.AnyReturns

-- a parameter in ENTRY: its dimensions and attributes
abbrev pub parameter_view : ParameterDescription → tree.ParameterDescription
parameter_view d =
    record { dimensions = d.dimensions.items; attributes = map described_view d.attributes.items }

-- an attribute of a declared item
abbrev pub attribute_view : Attribute → tree.Attribute
attribute_view (attributes.Simple a) = tree.Simple (simple_view a)
attribute_view (attributes.Entry parameters) =
    tree.Entry (option_map (λ v. map parameter_view v.items) parameters)
attribute_view (attributes.Returns result) = tree.Returns (map described_view result.items)

-- an item of DECLARE
abbrev pub item_view : Item → tree.Item
item_view i =
    record {
      level = i.level;
      names = i.names.items;
      dimensions = i.dimensions.items;
      attributes = map attribute_view i.attributes.items;
    }
