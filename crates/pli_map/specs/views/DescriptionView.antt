-- What a description of the program says, apart from where it lies in memory.
use Rattle.std.specs.Prelude.{List, map}
use Rattle.pli_map.specs.Description as tree
use Rattle.pli_map.specs.declared.description.Description.{Description}
use Rattle.pli_map.specs.declared.description.Description.TheOpen.{Description-F}
use Rattle.pli_map.specs.declared.description.Description.TheFolds.{fold-Description}
pub use Rattle.pli_map.specs.views.MembersView.{members_of}

-- one level, with what each description inside says in its place
abbrev pub level_view : Description-F tree.Description → tree.Description
level_view (Description-F.FixedBinary p) = tree.FixedBinary p
level_view (Description-F.Character n) = tree.Character n
level_view (Description-F.Varying n) = tree.Varying n
level_view (Description-F.Bit n) = tree.Bit n
level_view Description-F.Pointer = tree.Pointer
level_view Description-F.Offset = tree.Offset
level_view (Description-F.Area n) = tree.area n
level_view (Description-F.Array bounds element) = tree.Array bounds.items element.value
level_view (Description-F.Structure members) = tree.Structure (members_of members.items)

-- AREA(9) and AREA(16) say the same
abbrev pub description_view : Description → tree.Description
description_view = fold-Description tree.Description level_view

-- what the members of a structure say
abbrev pub members_view : List Description → tree.Members
members_view ds = members_of (map description_view ds)
