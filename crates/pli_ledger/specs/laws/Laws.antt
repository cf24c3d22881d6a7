-- Laws of ledgers (own): what is kept fits the members through edits and builds.
use Rattle.std.specs.Prelude.{◌≡◌, true, Some}
use Rattle.pli_base.specs.Name.{Name}
use Rattle.pli_include.specs.Expanded.{Expanded, expansion_of}
use Rattle.pli_include.specs.Expanded.{holds}
use Rattle.pli_members.specs.Members.{Store, Change, added, deleted, with_change}
use Rattle.pli_members.specs.answers.Kept.{IsKept}
use Rattle.pli_members.specs.declared.kind.MemberKind.{MemberKind}
use Rattle.pli_ledger.specs.Fits.{Fits}
use Rattle.pli_ledger.specs.Kept.{Units, empty_ledger, kept_of}
use Rattle.pli_ledger.specs.Refused.{IsBetween}
use Rattle.pli_ledger.specs.Work.{after}

-- where nothing is kept it fits any members
abbrev pub NothingFits : Type 0
NothingFits = (s : Store) → Fits empty_ledger.units s

-- what fits before a member is added fits after it
abbrev pub AdditionsKeepFits : Type 0
AdditionsKeepFits =
    (units : Units) (s : Store) (name : Name) (kind : MemberKind) → Fits units s
    → Fits units (added s name kind)

-- the same of a change of a member's lines
abbrev pub ChangesKeepFits : Type 0
ChangesKeepFits =
    (units : Units) (s : Store) (name : Name) (change : Change) → Fits units s
    → Fits units (with_change s name change)

-- and of a deletion
abbrev pub DeletionsKeepFits : Type 0
DeletionsKeepFits =
    (units : Units) (s : Store) (name : Name) → IsKept s → Fits units s → Fits units (deleted s name)

-- an expansion that is kept and whose trace holds is that of the members
abbrev pub WhatHoldsIsFresh : Type 0
WhatHoldsIsFresh =
    (units : Units) (s : Store) (unit : Name) (e : Expanded) → Fits units s
    → (kept_of units unit).expansion ≡ Some e → holds s e.trace ≡ true → e ≡ expansion_of s unit

-- what lies between what fits and what a build leaves fits
abbrev pub BuildsKeepFits : Type 0
BuildsKeepFits =
    (before new : Units) (s : Store) → IsKept s → Fits before s → IsBetween before s new → Fits new s

-- so what a build leaves does
abbrev pub AfterFits : Type 0
AfterFits = (units : Units) (s : Store) → IsKept s → Fits units s → Fits (after units s) s
