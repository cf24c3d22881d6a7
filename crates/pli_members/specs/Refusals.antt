-- Which edits are refused, and what a refusal says (own).
use Rattle.std.specs.Prelude.{ℕ, ◌^◌, Bool, not, ◌||◌, ◌&&◌, nat_eq, nat_lt, nat_le, List, ◌∷◌, ◌++◌, length}
use Rattle.std.specs.Prelude.{Option, None, Some, is_some, Result, Ok, Err, codes, if◌then◌else◌}
use Rattle.std.specs.List.{list_all}
use Rattle.pli_base.specs.Name.{Name}
use Rattle.pli_members.specs.Members.{Store, Member, Change, Insert, Replace, Remove, member_of}
use Rattle.pli_members.specs.declared.refusal.Refusal.{Refusal}
use Rattle.pli_members.specs.declared.refusal.Refusal.TheVariants.{NameTaken, NoSuchMember, NoSuchLine}
use Rattle.pli_members.specs.declared.refusal.Refusal.TheVariants.{LineTooLong, BadByte, TooManyLines}
use Rattle.pli_members.specs.declared.refusal.Refusal.TheVariants.{TooManyMembers, VersionsExhausted}
use Rattle.pli_members.specs.declared.refusal.EditError.{EditError}
use Rattle.pli_members.specs.declared.refusal.EditError.TheVariants.{Refused, OutOfMemory}

-- a tab, or 32 to 126
abbrev pub may_stand : ℕ → Bool
may_stand b = nat_eq b 9 || (nat_le 32 b && nat_le b 126)

-- version 2^64 - 1 was given
abbrev pub is_exhausted : Store → Bool
is_exhausted s = nat_le (2 ^ 64) s.next

-- the refusal of an addition
abbrev pub refusal_of_add : Store → Name → Option Refusal
refusal_of_add s name =
    if is_some (member_of s name) then Some NameTaken
    else (if nat_le 999 (length s.entries) then Some TooManyMembers
    else (if is_exhausted s then Some VersionsExhausted
    else None))

-- the refusal of a deletion
abbrev pub refusal_of_delete : Store → Name → Option Refusal
refusal_of_delete s name = if is_some (member_of s name) then None else Some NoSuchMember

-- the refusal of a line's text
abbrev pub refusal_of_text : List ℕ → Option Refusal
refusal_of_text text =
    if nat_lt 120 (length text) then Some LineTooLong
    else (if not (list_all may_stand text) then Some BadByte
    else None)

-- this refusal, or else the one of lines among which there is no room
abbrev pub or_full : List (List ℕ) → Option Refusal → Option Refusal
or_full lines (Some r) = Some r
or_full lines None = if nat_le 9999 (length lines) then Some TooManyLines else None

-- the refusal of a change of these lines
abbrev pub refusal_of_lines : Change → List (List ℕ) → Option Refusal
refusal_of_lines (Insert after text) lines =
    if nat_le after (length lines) then or_full lines (refusal_of_text text) else Some NoSuchLine
refusal_of_lines (Replace number text) lines =
    if nat_le 1 number && nat_le number (length lines) then refusal_of_text text else Some NoSuchLine
refusal_of_lines (Remove first last) lines =
    if nat_le 1 first && nat_le first last && nat_le last (length lines) then None else Some NoSuchLine

-- this refusal, or else the one of a store without a version left
abbrev pub or_exhausted : Store → Option Refusal → Option Refusal
or_exhausted s (Some r) = Some r
or_exhausted s None = if is_exhausted s then Some VersionsExhausted else None

-- the refusal of a change of this member
abbrev pub refusal_in_member : Store → Change → Option Member → Option Refusal
refusal_in_member s change None = Some NoSuchMember
refusal_in_member s change (Some m) = or_exhausted s (refusal_of_lines change m.lines)

-- the refusal of a change of the member of the name
abbrev pub refusal_of_change : Store → Name → Change → Option Refusal
refusal_of_change s name change = refusal_in_member s change (member_of s name)

-- the refusal of an insertion
abbrev pub refusal_of_insert : Store → Name → ℕ → List ℕ → Option Refusal
refusal_of_insert s name after text = refusal_of_change s name (Insert after text)

-- the refusal of a replacement
abbrev pub refusal_of_replace : Store → Name → ℕ → List ℕ → Option Refusal
refusal_of_replace s name number text = refusal_of_change s name (Replace number text)

-- the refusal of a removal
abbrev pub refusal_of_remove : Store → Name → ℕ → ℕ → Option Refusal
refusal_of_remove s name first last = refusal_of_change s name (Remove first last)

-- the refusal that an answer has
abbrev pub refusal_in : {T : Type 0} → Result T EditError → Option Refusal
refusal_in (Ok _) = None
refusal_in (Err (Refused r)) = Some r
refusal_in (Err OutOfMemory) = None

-- the table: of each refusal its label and its text
abbrev pub refusal_entry : Refusal → List ℕ × List ℕ
refusal_entry NameTaken = (codes "M1", codes "NAME TAKEN")
refusal_entry NoSuchMember = (codes "M2", codes "NO SUCH MEMBER")
refusal_entry NoSuchLine = (codes "M3", codes "NO SUCH LINE")
refusal_entry LineTooLong = (codes "M4", codes "LINE TOO LONG")
refusal_entry BadByte = (codes "M5", codes "BAD BYTE")
refusal_entry TooManyLines = (codes "M6", codes "TOO MANY LINES")
refusal_entry TooManyMembers = (codes "M7", codes "TOO MANY MEMBERS")
refusal_entry VersionsExhausted = (codes "M8", codes "VERSIONS EXHAUSTED")

-- its label
abbrev pub refusal_label : Refusal → List ℕ
refusal_label r = (refusal_entry r).0

-- its text
abbrev pub refusal_text : Refusal → List ℕ
refusal_text r = (refusal_entry r).1

-- a refusal as it is shown: its label, a blank and its text
abbrev pub refusal_shown : Refusal → List ℕ
refusal_shown r = refusal_label r ++ 32 ∷ refusal_text r
