-- What a build leaves that ran out of memory (own): each thing as before or as after the build,
-- and what was done before it was refused is kept.
use Rattle.std.specs.Prelude.{◌≡◌, ℕ, ◌+◌, ◌<◌, ◌^◌, ◌⊎◌, ◌&&◌, not}
use Rattle.std.specs.List.{count_by}
use Rattle.pli_base.specs.Name.{Name}
use Rattle.pli_members.specs.Members.{Store}
use Rattle.pli_meaning.specs.Scratch.{sources}
use Rattle.pli_ledger.specs.Kept.{Units, Ledger, kept_of}
use Rattle.pli_ledger.specs.Work.{is_due, is_stale, after}

-- a count rises by so much, where it stays below 2^64
abbrev pub Rises : (before rise later : ℕ) → Type 0
Rises before rise later = before + rise < 2 ^ 64 → later ≡ before + rise

-- each expansion and each result is as before or as after a build
pub record IsBetween (before : Units) (s : Store) (new : Units) : Type 0 where
  pub expansion :
      (name : Name) → ((kept_of new name).expansion ≡ (kept_of before name).expansion)
      ⊎ ((kept_of new name).expansion ≡ (kept_of (after before s) name).expansion)
  pub compiled :
      (name : Name) → ((kept_of new name).compiled ≡ (kept_of before name).compiled)
      ⊎ ((kept_of new name).compiled ≡ (kept_of (after before s) name).compiled)

-- how many units were due before and are no longer
abbrev pub expanded_count : (before new : Units) → Store → ℕ
expanded_count before new s =
    count_by (λ name. is_due before s name && not (is_due new s name)) (sources s.entries)

-- how many were stale before and are no longer
abbrev pub compiled_count : (before new : Units) → Store → ℕ
compiled_count before new s =
    count_by (λ name. is_stale before s name && not (is_stale new s name)) (sources s.entries)

-- what a refused build leaves of a ledger
pub record IsRefused (s : Store) (before new : Ledger) : Type 0 where
  pub units : IsBetween before.units s new.units
  pub expanded : new.expanded ≡ before.expanded
  pub compiled : new.compiled ≡ before.compiled
