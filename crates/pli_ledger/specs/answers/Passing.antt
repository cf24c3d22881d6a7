-- How far a pass over units has come.
use Rattle.std.specs.Prelude.{◌≡◌, ℕ, ◌≤◌, Bool, ◌++◌, map, take, drop, length}
use Rattle.std.specs.List.{count_by}
use Rattle.pli_base.specs.Name.{Name}
use Rattle.pli_ledger.specs.Kept.{Kept, Units}
use Rattle.pli_ledger.specs.Refused.{Rises}

-- the first n units are done, and a count has risen by those of them that needed it
pub record PassedUpTo (done : Name × Kept → Name × Kept) (needs : Name × Kept → Bool) (n : ℕ)
    (old new : Units)
    (before later : ℕ) : Type 0 where
  pub within : n ≤ length old
  pub units : new ≡ map done (take n old) ++ drop n old
  pub count : Rises before (count_by needs (take n old)) later

-- some are
abbrev pub Passes : (done : Name × Kept → Name × Kept) → (needs : Name × Kept → Bool) → (old new : Units)
    → (before later : ℕ) → Type 0
Passes done needs old new before later = (n : ℕ) × PassedUpTo done needs n old new before later
