-- What a change of the program says.
use Rattle.pli_members.specs.Members as members
use Rattle.pli_members.specs.declared.lines.Change.{Change}
use Rattle.pli_members.specs.declared.lines.Change.TheVariants.{Insert, Replace, Remove}

-- the change, with its text as a list of bytes
abbrev pub change_view : Change → members.Change
change_view (Insert after text) = members.Insert after text.now
change_view (Replace number text) = members.Replace number text.now
change_view (Remove first last) = members.Remove first last
