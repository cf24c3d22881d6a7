-- Chains of holes in a region: what words spell, and what taking and giving back make of it (own).
use Rattle.std.specs.Prelude.{◌≡◌, ◌+◌, ◌-◌, ◌%◌, ◌<◌, ◌≤◌, ◌⊎◌, ℕ, suc, nat_eq, nat_lt, nat_le}
use Rattle.std.specs.Prelude.{List, [], ◌∷◌, length, slice_index, if◌then◌else◌}
use Rattle.pli_region.specs.Words.{word_at}
use Rattle.pli_holes.specs.declared.hole.Hole.{Hole}
pub use Rattle.pli_holes.specs.Between.{hole_between}

-- ---- what a chain spells

-- words lead from a place through these holes to another: the first word of each is how many bytes it has,
-- the second is where the next begins, or the other place
abbrev pub Leads : (word : ℕ → ℕ) → (from : ℕ) → List Hole → (to : ℕ) → Type 0
Leads word from [] to = from ≡ to
Leads word from (h ∷ hs) to =
    (from ≡ h.start) × (word h.start ≡ h.room) × Leads word (word (h.start + 4)) hs to

-- holes lie one after another between two places, each with 8 bytes or a multiple of that
abbrev pub LieWithin : (from : ℕ) → List Hole → (to : ℕ) → Type 0
LieWithin from [] to = from ≤ to
LieWithin from (h ∷ hs) to =
    (from ≤ h.start) × (h.room % 8 ≡ 0) × (8 ≤ h.room) × LieWithin (h.start + h.room) hs to

-- the chain that begins at this place is these holes, which lie within the bytes: after the last it leads to
-- the end of the bytes
pub record Spells (bytes : List ℕ) (first : ℕ) (holes : List Hole) : Type 0 where
  pub leads : Leads (word_at bytes) first holes (length bytes)
  pub lie : LieWithin 0 holes (length bytes)

-- a chain begins at this place
pub record IsChain (bytes : List ℕ) (first : ℕ) : Type 0 where
  pub holes : List Hole
  pub spelled : Spells bytes first holes

-- ---- places beside holes

-- the byte at a place is in none of these holes
abbrev pub IsOutside : (place : ℕ) → List Hole → Type 0
IsOutside place [] = Unit {0}
IsOutside place (h ∷ hs) = ((place < h.start) ⊎ (h.start + h.room ≤ place)) × IsOutside place hs

-- so many bytes from a place on meet none of these holes
abbrev pub IsApart : (start room : ℕ) → List Hole → Type 0
IsApart start room [] = Unit {0}
IsApart start room (h ∷ hs) =
    ((start + room ≤ h.start) ⊎ (h.start + h.room ≤ start)) × IsApart start room hs

-- bytes that are in none of these holes are as they were
pub record ChangesWithin (holes : List Hole) (old new : List ℕ) : Type 0 where
  pub count : length new ≡ length old
  pub kept : (place : ℕ) → IsOutside place holes → slice_index new place ≡ slice_index old place

-- a chain begins at this place, and so many bytes from another place on, 8 or a multiple of that, meet none
-- of its holes
pub record IsInUse (bytes : List ℕ) (first start room : ℕ) : Type 0 where
  pub holes : List Hole
  pub spelled : Spells bytes first holes
  pub apart : IsApart start room holes
  pub within : start + room ≤ length bytes
  pub aligned : room % 8 ≡ 0
  pub some : 8 ≤ room

-- ---- what is taken

-- a hole without its first bytes, if any are left, before the others
abbrev pub shortened : (room : ℕ) → Hole → List Hole → List Hole
shortened room h hs =
    if nat_eq h.room room then hs else record { start = h.start + room; room = h.room - room } ∷ hs

-- the holes once so many bytes are taken from the front of the first that has them, if one has
abbrev pub taken : (room : ℕ) → List Hole → List Hole
taken room [] = []
taken room (h ∷ hs) = if nat_le room h.room then shortened room h hs else h ∷ taken room hs

-- how many holes are looked at before so many bytes are taken: those up to the first that has them, else all
abbrev pub looked_at : (room : ℕ) → List Hole → ℕ
looked_at room [] = 0
looked_at room (h ∷ hs) = if nat_le room h.room then 1 else suc (looked_at room hs)

-- ---- what is given back

-- how many bytes the first of these holes has, if it begins at this place, else none
abbrev pub touching : (place : ℕ) → List Hole → ℕ
touching place [] = 0
touching place (h ∷ hs) = if nat_eq place h.start then h.room else 0

-- the others, without the first if it begins there
abbrev pub beyond : (place : ℕ) → List Hole → List Hole
beyond place [] = []
beyond place (h ∷ hs) = if nat_eq place h.start then hs else h ∷ hs

-- so many bytes from a place on as a hole, joined to the first of these holes if they touch
abbrev pub grown : (start room : ℕ) → List Hole → Hole
grown start room hs = record { start = start; room = room + touching (start + room) hs }

-- the holes once so many bytes from a place on are given back: they are a hole, joined to those that they
-- touch
abbrev pub given : (start room : ℕ) → List Hole → List Hole
given start room [] = grown start room [] ∷ []
given start room (h ∷ hs) =
    if nat_lt start h.start
    then grown start room (h ∷ hs) ∷ beyond (start + room) (h ∷ hs)
    else
    (if nat_eq (h.start + h.room) start
    then grown h.start (h.room + room) hs ∷ beyond (h.start + (h.room + room)) hs
    else h ∷ given start room hs)

-- the hole that they are a part of then
abbrev pub hole_given : (start room : ℕ) → List Hole → Hole
hole_given start room [] = grown start room []
hole_given start room (h ∷ hs) =
    if nat_lt start h.start
    then grown start room (h ∷ hs)
    else
    (if nat_eq (h.start + h.room) start
    then grown h.start (h.room + room) hs
    else hole_given start room hs)
