-- Names and items that stand after the items that they are members of.
use Rattle.std.specs.Prelude.{ℕ, ◌<◌, List, [], map, length, get_or, None, IfSome}
use Rattle.pli_declare_scopes.specs.Levels.{standing}
use Rattle.pli_declare_scopes.specs.laws.RepeatLaws.{OwnersFirst}
use Rattle.pli_declare_scopes.specs.declared.level.ItemStanding.{ItemStanding}
use Rattle.pli_declare.specs.Tables.{Entry, written}

-- each name stands after the item that it is a member of
abbrev pub AreAfterOwners : List Entry → Type 0
AreAfterOwners entries = OwnersFirst (map written entries)

-- so does each name of each of some blocks
abbrev pub AllAfterOwners : List (List Entry) → Type 0
AllAfterOwners blocks = (n : ℕ) → n < length blocks → AreAfterOwners (get_or blocks n [])

-- each item of a DECLARE stands after the one that it is a member of
abbrev pub StandAfterOwners : List ItemStanding → Type 0
StandAfterOwners stands =
    (n : ℕ) → n < length stands → IfSome (get_or stands n (standing 1 None)).owner (λ o. o < n)
