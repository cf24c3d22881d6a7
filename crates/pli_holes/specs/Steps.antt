-- What the steps of taking and giving back do: where a walk stops, and which words are written.
use Rattle.std.specs.Prelude.{◌≡◌, ◌+◌, ◌<◌, ◌≤◌, ◌⊎◌, ◌++◌, ℕ, Option, Some, None, List, [], ◌∷◌}
use Rattle.std.specs.Prelude.{length, slice_index}
use Rattle.pli_region.specs.Words.{word_at}
use Rattle.pli_holes.specs.declared.hole.Hole.{Hole}
use Rattle.pli_holes.specs.Holes.{Leads, LieWithin, shortened, touching, beyond}

-- ---- where a walk stops

-- the last of a hole and those after it
abbrev pub last_from : Hole → List Hole → Hole
last_from h [] = h
last_from h (g ∷ gs) = last_from g gs

-- the last of these holes, if there is one
abbrev pub last_of : List Hole → Option Hole
last_of [] = None
last_of (h ∷ hs) = Some (last_from h hs)

-- each of these holes begins before a place and has fewer bytes than this
abbrev pub ArePassed : (until room : ℕ) → List Hole → Type 0
ArePassed until room [] = Unit {0}
ArePassed until room (h ∷ hs) = (h.start < until) × (h.room < room) × ArePassed until room hs

-- the first of these holes, if there is one, begins no earlier or has as many
abbrev pub Stops : (until room : ℕ) → List Hole → Type 0
Stops until room [] = Unit {0}
Stops until room (h ∷ hs) = (until ≤ h.start) ⊎ (room ≤ h.room)

-- a walk has passed so many of these holes, `before` the last of them, and has come to a place
pub record HasPassed (word : ℕ → ℕ) (end first until room : ℕ) (holes : List Hole) (before : Option Hole)
    (at count : ℕ) : Type 0 where
  pub done : List Hole
  pub rest : List Hole
  pub split : holes ≡ done ++ rest
  pub path : Leads word first done at
  pub onward : Leads word at rest end
  pub lie_done : LieWithin 0 done at
  pub lie_rest : LieWithin at rest end
  pub passed : ArePassed until room done
  pub last : before ≡ last_of done
  pub counted : count ≡ length done

-- it has passed all that are to be passed
pub record HasStopped (word : ℕ → ℕ) (end first until room : ℕ) (holes : List Hole) (before : Option Hole)
    (at count : ℕ) : Type 0 where
  pub walk : HasPassed word end first until room holes before at count
  pub stops : Stops until room walk.rest

-- ---- what is written

-- bytes outside a stretch are as they were
pub record ChangesOnly (low high : ℕ) (old new : List ℕ) : Type 0 where
  pub count : length new ≡ length old
  pub kept : (place : ℕ) → (place < low) ⊎ (high ≤ place) → slice_index new place ≡ slice_index old place

-- the two words of a hole are written, and no other byte
pub record IsPut (old new : List ℕ) (hole : Hole) (onward : ℕ) : Type 0 where
  pub room : word_at new hole.start ≡ hole.room
  pub next : word_at new (hole.start + 4) ≡ onward
  pub changes : ChangesOnly hole.start (hole.start + 8) old new

-- the hole before leads to a place, or the chain begins there where there is none
abbrev pub IsLed : Option Hole → (to : ℕ) → (old : List ℕ) → (first : ℕ) → (new : List ℕ) → (first' : ℕ)
    → Type 0
IsLed None to old first new first' = (new ≡ old) × (first' ≡ to)
IsLed (Some h) to old first new first' =
    (word_at new (h.start + 4) ≡ to) × ChangesOnly (h.start + 4) (h.start + 8) old new × (first' ≡ first)

-- a hole at a place is shortened: what led on from it leads on from where what is left of it begins
pub record IsShortened (old new : List ℕ) (start room to : ℕ) : Type 0 where
  pub leads : (h : Hole) (hs : List Hole) → h.start ≡ start → Leads (word_at old) start (h ∷ hs) (length old)
      → LieWithin start (h ∷ hs) (length old) → Leads (word_at new) to (shortened room h hs) (length new)
  pub changes : (size : ℕ) → size ≡ word_at old start → ChangesOnly start (start + size) old new

-- the hole before, if there is one and it ends at a place
abbrev pub IsTouched : (before : Option Hole) → (place : ℕ) → Option Hole → Type 0
IsTouched before place None = (h : Hole) → before ≡ Some h → h.start + h.room ≡ place → ⊥
IsTouched before place (Some h) = (before ≡ Some h) × (h.start + h.room ≡ place)

-- how many bytes the hole at `next` has, if it begins at a place, else none, and where the next after that
-- begins
pub record IsTouching (bytes : List ℕ) (next place more onward : ℕ) : Type 0 where
  pub room : (hs : List Hole) → Leads (word_at bytes) next hs (length bytes)
      → LieWithin place hs (length bytes) → more ≡ touching place hs
  pub leads : (hs : List Hole) → Leads (word_at bytes) next hs (length bytes)
      → LieWithin place hs (length bytes) → Leads (word_at bytes) onward (beyond place hs) (length bytes)
