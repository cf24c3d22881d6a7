-- Where a search for a name ends.
use Rattle.std.specs.Prelude.{◌≡◌, ℕ, ◌+◌, ◌^◌, ◌<◌, ◌≤◌, length, insert, remove, slice_get, slice_set, Some}
use Rattle.std.specs.Prelude.{None}
use Rattle.std.specs.Map.{remove_entry}
use Rattle.std.specs.BTreeMap.{insert_entry}
use Rattle.pli_base.specs.Name.{Name}
use Rattle.pli_members.specs.views.Fields.{next_version}
use Rattle.pli_members.specs.declared.members.NextVersion.{NextVersion}
use Rattle.pli_members.specs.Refusals.{refusal_of_lines}
use Rattle.pli_members.specs.Members.{Member, Store, Change, is_named, name_order, member_of}

-- the member of the name stands at this place, so that edits at the place are edits of the name
pub record IsPlace (s : Store) (name : Name) (at : ℕ) : Type 0 where
  pub member : Member
  pub stands : slice_get s.entries at ≡ Some (name, member)
  pub found : member_of s name ≡ Some member
  pub writes : (m : Member) → slice_set s.entries at (name, m) ≡ insert_entry name_order s.entries name m
  pub takes : remove s.entries at ≡ remove_entry (is_named name) s.entries

-- the name has no member, and a member put at this place is put under the name
pub record IsGap (s : Store) (name : Name) (at : ℕ) : Type 0 where
  pub in_range : at ≤ length s.entries
  pub absent : member_of s name ≡ None
  pub puts : (m : Member) → insert s.entries at (name, m) ≡ insert_entry name_order s.entries name m

-- the version that an edit of the store gives, and the one that comes after it
pub record IsStep (s : Store) (step : NextVersion) : Type 0 where
  pub current : s.next ≡ step.version
  pub fits : step.version < 2 ^ 64
  pub after : next_version step.next ≡ step.version + 1

-- the lines of the member at the place may be changed so, under the version
pub record CanChange (s : Store) (name : Name) (change : Change) (at : ℕ) (step : NextVersion) : Type 0 where
  pub place : IsPlace s name at
  pub clear : refusal_of_lines change place.member.lines ≡ None
  pub left : IsStep s step
