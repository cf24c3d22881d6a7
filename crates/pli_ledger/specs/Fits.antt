-- What a ledger keeps is true of members that stood once (own): there is a finite map from versions to name,
-- kind and lines, which is stored nowhere, and each expansion that is kept is that of the members that it
-- has.
use Rattle.std.specs.Prelude.{◌≡◌, ℕ, ◌<◌, Some, List, Contains}
use Rattle.std.specs.Ordering.{nat_cmp}
use Rattle.std.specs.FinMap.{FinMap, get}
use Rattle.pli_base.specs.Name.{Name}
use Rattle.pli_include.specs.Expanded.{Expanded, expansion_of, outcome_of}
use Rattle.pli_include.specs.LookedIn.{looked_in}
use Rattle.pli_members.specs.Members.{Store, Member, member_of}
use Rattle.pli_members.specs.declared.kind.MemberKind.{MemberKind}
use Rattle.pli_ledger.specs.Kept.{Units, kept_of}

-- a member as it stood under a version
pub record Seen : Type 0 where
  pub name : Name
  pub kind : MemberKind
  pub lines : List (List ℕ)

-- the member of a name, as it is seen
abbrev pub seen : Name → Member → Seen
seen name m = record { name = name; kind = m.kind; lines = m.lines }

-- what stood under each version
abbrev pub View : Type 0
View = FinMap nat_cmp Seen

-- the view has the member of a name under its version
abbrev pub Knows : View → Name → Member → Type 0
Knows view name m = get view m.version ≡ Some (seen name m)

-- an expansion of a unit is that of members that stood once, which the view knows as far as it has looked
pub record Recalled (view : View) (unit : Name) (e : Expanded) : Type 0 where
  pub then : Store
  pub is : e ≡ expansion_of then unit
  pub known :
      (name : Name) (m : Member) → Contains (looked_in (outcome_of then.entries unit)) name
      → member_of then name ≡ Some m → Knows view name m

-- what is kept fits the members: each expansion is recalled, all by one view, of which every version is below
-- the members' next; and a member that stands under a version of the view is the one there
pub record Fits (units : Units) (s : Store) : Type 0 where
  pub view : View
  pub kept : (unit : Name) (e : Expanded) → (kept_of units unit).expansion ≡ Some e → Recalled view unit e
  pub below : (version : ℕ) (x : Seen) → get view version ≡ Some x → version < s.next
  pub standing :
      (name : Name) (m : Member) (x : Seen) → member_of s name ≡ Some m → get view m.version ≡ Some x
      → x ≡ seen name m
