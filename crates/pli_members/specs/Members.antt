-- The members of a workbench: a finite map from names to members, with versions (own).
use Rattle.std.specs.Prelude.{ℕ, ◌+◌, ◌-◌, Bool, List, [], ◌++◌, take, drop, slice_set, Option, None, Some}
use Rattle.std.specs.Prelude.{insert}
use Rattle.std.specs.Option.{option_map}
use Rattle.std.specs.Ordering.{nat_cmp}
use Rattle.std.specs.declared.cmp.Ordering.{Ordering}
use Rattle.std.specs.Cmp.Lexicographic.{slice_cmp}
use Rattle.std.specs.Map.{keys_of, lookup, remove_entry}
use Rattle.std.specs.BTreeMap.{is_at, insert_entry}
use Rattle.pli_base.specs.Name.{Name}
use Rattle.pli_members.specs.declared.kind.MemberKind.{MemberKind}

-- a kind, the lines, each a list of bytes, and the version that the last edit gave
pub record Member : Type 0 where
  pub kind : MemberKind
  pub lines : List (List ℕ)
  pub version : ℕ

-- the members in the order of their names, and the version that the next edit gives; 2^64 is none
pub record Store : Type 0 where
  pub entries : List (Name × Member)
  pub next : ℕ

-- names are ordered as texts
abbrev pub name_order : Name → Name → Ordering
name_order = slice_cmp nat_cmp

-- whether the second name is the first
abbrev pub is_named : Name → Name → Bool
is_named name = is_at (name_order name)

-- the names, in order
abbrev pub names_of : Store → List Name
names_of s = keys_of s.entries

-- the member of a name
abbrev pub member_of : Store → Name → Option Member
member_of s name = lookup (is_named name) s.entries

-- the kind of the member of a name
abbrev pub kind_of : Store → Name → Option MemberKind
kind_of s name = option_map (λ m. m.kind) (member_of s name)

-- the lines of the member of a name
abbrev pub lines_of : Store → Name → Option (List (List ℕ))
lines_of s name = option_map (λ m. m.lines) (member_of s name)

-- the version of the member of a name
abbrev pub version_of : Store → Name → Option ℕ
version_of s name = option_map (λ m. m.version) (member_of s name)

-- no members
abbrev pub empty_store : ℕ → Store
empty_store first = record { entries = []; next = first }

-- the store where the name has this kind and these lines, under the next version
abbrev pub with_member : Store → Name → MemberKind → List (List ℕ) → Store
with_member s name kind lines =
    record {
      entries =
          insert_entry name_order s.entries name (record { kind = kind; lines = lines; version = s.next });
      next = s.next + 1;
    }

-- a member without lines comes to the store
abbrev pub added : Store → Name → MemberKind → Store
added s name kind = with_member s name kind []

-- the member of the name leaves the store
abbrev pub deleted : Store → Name → Store
deleted s name = record { entries = remove_entry (is_named name) s.entries; next = s.next }

-- a change of a member's lines, which are counted from 1
pub data Change : Type 0 where
  -- a line is put after line `after`, first where that is 0
  Insert : (after : ℕ) (text : List ℕ) → Change
  -- a line has another text
  Replace : (number : ℕ) (text : List ℕ) → Change
  -- the lines from the first to the last are taken away
  Remove : (first last : ℕ) → Change

-- the lines after a change
abbrev pub changed_lines : Change → List (List ℕ) → List (List ℕ)
changed_lines (Insert after text) lines = insert lines after text
changed_lines (Replace number text) lines = slice_set lines (number - 1) text
changed_lines (Remove first last) lines = take (first - 1) lines ++ drop last lines

-- the member, if there is one, has its lines changed
abbrev pub with_lines : Store → Name → Change → Option Member → Store
with_lines s name change None = s
with_lines s name change (Some m) = with_member s name m.kind (changed_lines change m.lines)

-- the lines of the member of the name are changed
abbrev pub with_change : Store → Name → Change → Store
with_change s name change = with_lines s name change (member_of s name)

-- a line is put after line `after` of the member, first where that is 0
abbrev pub with_line : Store → Name → ℕ → List ℕ → Store
with_line s name after text = with_change s name (Insert after text)

-- a line of the member has another text
abbrev pub with_line_replaced : Store → Name → ℕ → List ℕ → Store
with_line_replaced s name number text = with_change s name (Replace number text)

-- the lines from the first to the last are taken away from the member
abbrev pub without_lines : Store → Name → ℕ → ℕ → Store
without_lines s name first last = with_change s name (Remove first last)
