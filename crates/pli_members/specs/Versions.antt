-- No version is given twice, and an edit changes its member alone (own).
use Rattle.std.specs.Prelude.{◌≡◌, ◌≢◌, ℕ, List, [], ◌∷◌, None, Some, Contains}
use Rattle.pli_base.specs.Name.{Name}
use Rattle.pli_members.specs.Members.{Store, Change, added, deleted, with_change, with_member, member_of}
use Rattle.pli_members.specs.Members.{version_of}
use Rattle.pli_members.specs.answers.Kept.{IsKept}
use Rattle.pli_members.specs.Refusals.{refusal_of_add, refusal_of_delete, refusal_of_change}
use Rattle.pli_members.specs.declared.kind.MemberKind.{MemberKind}

-- accepted edits lead from one store to another, and gave these versions, the last one first
pub data Run (start : Store) : List ℕ → Store → Type 0 where
  begun : Run start [] start
  adding : (given : List ℕ) (s : Store) (name : Name) (kind : MemberKind)
      → Run start given s → refusal_of_add s name ≡ None → Run start (s.next ∷ given) (added s name kind)
  deleting : (given : List ℕ) (s : Store) (name : Name)
      → Run start given s → refusal_of_delete s name ≡ None → Run start given (deleted s name)
  changing : (given : List ℕ) (s : Store) (name : Name) (change : Change)
      → Run start given s → refusal_of_change s name change ≡ None
      → Run start (s.next ∷ given) (with_change s name change)

-- the next version was not given before
abbrev pub NextIsNew : Type 0
NextIsNew = (start s : Store) (given : List ℕ) → Run start given s → Contains given s.next → ⊥

-- a member that is edited has the version that was the next
abbrev pub EditGivesNext : Type 0
EditGivesNext =
    (s : Store) (name : Name) (kind : MemberKind) (lines : List (List ℕ))
    → version_of (with_member s name kind lines) name ≡ Some s.next

-- an edit of one member leaves the others
abbrev pub EditKeepsOthers : Type 0
EditKeepsOthers =
    (s : Store) (name : Name) (kind : MemberKind) (lines : List (List ℕ)) (other : Name) → other ≢ name
    → member_of (with_member s name kind lines) other ≡ member_of s other

-- a deletion takes its member
abbrev pub DeletionTakes : Type 0
DeletionTakes = (s : Store) (name : Name) → IsKept s → member_of (deleted s name) name ≡ None

-- and leaves the others
abbrev pub DeletionKeepsOthers : Type 0
DeletionKeepsOthers =
    (s : Store) (name other : Name) → other ≢ name → member_of (deleted s name) other ≡ member_of s other

-- accepted edits keep what is true of every store
abbrev pub RunsKeep : Type 0
RunsKeep = (start s : Store) (given : List ℕ) → Run start given s → IsKept start → IsKept s
