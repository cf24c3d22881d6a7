-- What levels amount to: which item an item of a list belongs to, and which levels are bad.
use Rattle.std.specs.Prelude.{◌≡◌, ℕ, zero, suc, ◌<◌, ◌≤◌, ◌⊎◌, ◌↔◌, false, IsTrue, List, length, get_or}
use Rattle.std.specs.Prelude.{Option, None}
use Rattle.std.specs.Prelude.{Some}
use Rattle.pli_declare_scopes.specs.declared.level.ItemStanding.{ItemStanding}
use Rattle.pli_declare_scopes.specs.Levels.{level_of, standing, standings_of}

-- the level of the item of a number
abbrev pub level_at : List (Option ℕ) → ℕ → ℕ
level_at levels n = level_of (get_or levels n None)

-- how the item of a number stands
abbrev pub stands_at : List (Option ℕ) → ℕ → ItemStanding
stands_at levels n = get_or (standings_of levels) n (standing 1 None)

-- an item of a level over 1 is a member of another: of the nearest before it that has a lesser level
pub record Belongs (levels : List (Option ℕ)) (n owner : ℕ) : Type 0 where
  pub over_one : 1 < level_at levels n
  pub before : owner < n
  pub lesser : level_at levels owner < level_at levels n
  pub nearest : (k : ℕ) → owner < k → k < n → level_at levels n ≤ level_at levels k

-- no item before it has a lesser level
abbrev pub IsLeast : List (Option ℕ) → ℕ → Type 0
IsLeast levels n = (k : ℕ) → k < n → level_at levels n ≤ level_at levels k

-- it belongs to no item
abbrev pub HasNoOwner : List (Option ℕ) → ℕ → Type 0
HasNoOwner levels n = (level_at levels n ≤ 1) ⊎ IsLeast levels n

-- 0, over 255, or over 1 with no lesser level before it
abbrev pub IsBadLevel : List (Option ℕ) → ℕ → Type 0
IsBadLevel levels n =
    (level_at levels n ≡ 0) ⊎ (255 < level_at levels n) ⊎ ((1 < level_at levels n) × IsLeast levels n)

-- each item stands, and none besides
abbrev pub AllStand : Type 0
AllStand = (levels : List (Option ℕ)) → length (standings_of levels) ≡ length levels

-- the owner that is found is the item that it belongs to, both ways
abbrev pub OwnersAreNearest : Type 0
OwnersAreNearest =
    (levels : List (Option ℕ)) (n owner : ℕ) → n < length levels
    → ((stands_at levels n).owner ≡ Some owner) ↔ Belongs levels n owner

-- none is found exactly where there is none
abbrev pub OwnersAreMissed : Type 0
OwnersAreMissed =
    (levels : List (Option ℕ)) (n : ℕ) → n < length levels
    → ((stands_at levels n).owner ≡ None) ↔ HasNoOwner levels n

-- the levels that are found bad are bad, and no others
abbrev pub BadLevelsAreFound : Type 0
BadLevelsAreFound =
    (levels : List (Option ℕ)) (n : ℕ) → n < length levels
    → IsTrue (stands_at levels n).is_bad ↔ IsBadLevel levels n

-- where levels are not bad, the items of level 1 are those that belong to no item
abbrev pub LevelOneHasNoOwner : Type 0
LevelOneHasNoOwner =
    (levels : List (Option ℕ)) (n : ℕ) → n < length levels → (stands_at levels n).is_bad ≡ false
    → ((stands_at levels n).owner ≡ None) ↔ (level_at levels n ≡ 1)

-- an item belongs to another through so many levels
abbrev pub IsOwned : List (Option ℕ) → ℕ → (owner n : ℕ) → Type 0
IsOwned levels zero owner n = owner ≡ n
IsOwned levels (suc k) owner n =
    (next : ℕ) × ((stands_at levels n).owner ≡ Some next) × IsOwned levels k owner next

-- the items that an item belongs to, through one level or more, stand before it and have lesser levels: so
-- levels fall from each item of a chain of owners to the next
abbrev pub LevelsFall : Type 0
LevelsFall =
    (levels : List (Option ℕ)) (k n owner : ℕ) → n < length levels → IsOwned levels (suc k) owner n
    → (owner < n) × (level_at levels owner < level_at levels n)
