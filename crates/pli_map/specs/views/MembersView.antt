-- A list of descriptions as members.
use Rattle.std.specs.Prelude.{List, [], ◌∷◌}
use Rattle.pli_map.specs.Description as tree

-- a list of descriptions as the members of a structure
abbrev pub members_of : List tree.Description → tree.Members
members_of [] = tree.NoMembers
members_of (d ∷ ds) = tree.MemberThen d (members_of ds)
