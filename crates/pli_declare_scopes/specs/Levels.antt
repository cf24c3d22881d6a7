-- Levels (X3.74): which item each declared item belongs to.
use Rattle.std.specs.Prelude.{ℕ, ◌+◌, Bool, ◌||◌, ◌&&◌, nat_eq, nat_lt, List, [], ◌∷◌, ◌++◌, map, Option}
use Rattle.std.specs.Prelude.{None, Some, if◌then◌else◌}
use Rattle.std.specs.Option.{is_none, unwrap_or}
use Rattle.pli_declare_scopes.specs.declared.level.Numbered.{Numbered}
use Rattle.pli_declare_scopes.specs.declared.level.ItemStanding.{ItemStanding}

-- an item without a level has level 1
abbrev pub level_of : Option ℕ → ℕ
level_of written = unwrap_or written 1

-- the last of some items that has a lesser level, or else the one found before
abbrev pub nearest_after : Option ℕ → ℕ → List Numbered → Option ℕ
nearest_after found level [] = found
nearest_after found level (i ∷ is) =
    nearest_after (if nat_lt i.level level then Some i.number else found) level is

-- the nearest item before with a lesser level
abbrev pub nearest : ℕ → List Numbered → Option ℕ
nearest level items = nearest_after None level items

-- an item of level 0 or 1 belongs to no item, any other to the nearest before it with a lesser level
abbrev pub owner_of : (level : ℕ) → (nearest : Option ℕ) → Option ℕ
owner_of level nearest = if nat_lt 1 level then nearest else None

-- a level is bad that is 0, over 255, or over 1 where no item before it has a lesser level
abbrev pub is_bad : (level : ℕ) → (nearest : Option ℕ) → Bool
is_bad level nearest = nat_eq level 0 || nat_lt 255 level || nat_lt 1 level && is_none nearest

-- where an item of this level stands, by its owner
abbrev pub standing : (level : ℕ) → (nearest : Option ℕ) → ItemStanding
standing level nearest = record { owner = owner_of level nearest; is_bad = is_bad level nearest }

-- how further items stand, the first of which has this number
abbrev pub standings_after : List Numbered → ℕ → List ℕ → List ItemStanding
standings_after before number [] = []
standings_after before number (l ∷ ls) =
    standing l (nearest l before)
    ∷ standings_after (before ++ record { number = number; level = l } ∷ []) (number + 1) ls

-- how the items of a list stand, numbered from 0
abbrev pub standings_of : List (Option ℕ) → List ItemStanding
standings_of levels = standings_after [] 0 (map level_of levels)
