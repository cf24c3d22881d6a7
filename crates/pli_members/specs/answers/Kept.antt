-- What is true of every store.
use Rattle.std.specs.Prelude.{◌≡◌, ℕ, ◌^◌, ◌<◌, ◌≤◌, true, List, length, Some}
use Rattle.std.specs.List.{All, list_all}
use Rattle.std.specs.List.Sorted.{IsStrictlySortedBy}
use Rattle.std.specs.Map.{values_of}
use Rattle.pli_base.specs.Name.{Name}
use Rattle.pli_members.specs.Members.{Store, Member, names_of, name_order, version_of}
use Rattle.pli_members.specs.Refusals.{may_stand}

-- at most 120 bytes, each of which may stand in a line
pub record IsLine (text : List ℕ) : Type 0 where
  pub short : length text ≤ 120
  pub clean : list_all may_stand text ≡ true

-- at most 9,999 lines, and a version that was given before the next
pub record IsKeptMember (next : ℕ) (m : Member) : Type 0 where
  pub few : length m.lines ≤ 9999
  pub lines : All IsLine m.lines
  pub given : m.version < next

-- the names rise; there are at most 999 members, no two of one version; a version is left or all were given
pub record IsKept (s : Store) : Type 0 where
  pub ordered : IsStrictlySortedBy name_order (names_of s)
  pub few : length s.entries ≤ 999
  pub members : All (IsKeptMember s.next) (values_of s.entries)
  pub apart : (a b : Name) (version : ℕ)
      → version_of s a ≡ Some version → version_of s b ≡ Some version → a ≡ b
  pub bounded : s.next ≤ 2 ^ 64
