-- Worked examples of levels and of references.
use Rattle.std.specs.Prelude.{◌≡◌, ℕ, Bool, true, false, [], ◌∷◌, Option, None, Some, codes}
use Rattle.pli_base.specs.Name.{Name}
use Rattle.pli_declare_scopes.specs.declared.level.ItemStanding.{ItemStanding}
use Rattle.pli_declare_scopes.specs.declared.block.Declared.{Declared}
use Rattle.pli_declare_scopes.specs.declared.found.ReferenceMeaning.TheVariants.{Item, Ambiguous, NotDeclared}
use Rattle.pli_declare_scopes.specs.declared.repeat.Written.{Written}
use Rattle.pli_declare_scopes.specs.declared.repeat.Verdict.TheVariants.{Counts, Twice, Beneath}
use Rattle.pli_declare_scopes.specs.Repeats.{verdicts_of}
use Rattle.pli_declare_scopes.specs.Levels.{standings_of}
use Rattle.pli_declare_scopes.specs.Scopes.{BlockItems, meant}

-- how an item stands that has this owner
abbrev pub at : Option ℕ → Bool → ItemStanding
at owner is_bad = record { owner = owner; is_bad = is_bad }

-- 1, 2, 3, 2, 5, 4, none: an item belongs to the nearest before it with a lesser level, and an item without a
-- level is a variable
abbrev pub MembersOfMembers : Type 0
MembersOfMembers = standings_of (Some 1 ∷ Some 2 ∷ Some 3 ∷ Some 2 ∷ Some 5 ∷ Some 4 ∷ None ∷ [])
    ≡ at None false ∷ at (Some 0) false ∷ at (Some 1) false ∷ at (Some 0) false ∷ at (Some 3) false
    ∷ at (Some 3) false ∷ at None false ∷ []

-- 0, 2: level 0 is bad, and what follows may belong to it
abbrev pub LevelZero : Type 0
LevelZero = standings_of (Some 0 ∷ Some 2 ∷ []) ≡ at None true ∷ at (Some 0) false ∷ []

-- 0, 1, 2, none: but none of level 1, written or not
abbrev pub LevelOneAfterZero : Type 0
LevelOneAfterZero =
    standings_of (Some 0 ∷ Some 1 ∷ Some 2 ∷ None ∷ []) ≡ at None true ∷ at None false ∷ at (Some 1) false
    ∷ at None false ∷ []

-- 2, 3, 2: the second 2 has no lesser level before it
abbrev pub NoLesserLevel : Type 0
NoLesserLevel =
    standings_of (Some 2 ∷ Some 3 ∷ Some 2 ∷ []) ≡ at None true ∷ at (Some 0) false ∷ at None true ∷ []

-- 1, 255, 256: a level over 255 is bad, and its item stays a member
abbrev pub LevelsOver255 : Type 0
LevelsOver255 =
    standings_of (Some 1 ∷ Some 255 ∷ Some 256 ∷ []) ≡ at None false ∷ at (Some 0) false ∷ at (Some 1) true
    ∷ []

-- an item that counts
abbrev pub item : Name → Option ℕ → Declared
item name owner = record { name = name; owner = owner; counts = true }

-- an item that does not count
abbrev pub uncounted : Name → Option ℕ → Declared
uncounted name owner = record { name = name; owner = owner; counts = false }

-- S has the members A and B, each with a member X; C is a variable
abbrev pub twins : BlockItems
twins =
    item (codes "S") None ∷ item (codes "A") (Some 0) ∷ item (codes "X") (Some 1) ∷ item (codes "B") (Some 0)
    ∷ item (codes "X") (Some 3) ∷ item (codes "C") None ∷ []

-- A.X and S.B.X are one each, X and S.X are two, and S.C is none
abbrev pub PartialQualification : Type 0
PartialQualification = (meant (twins ∷ []) (codes "A" ∷ codes "X" ∷ []) ≡ Item 2 0)
    × (meant (twins ∷ []) (codes "S" ∷ codes "B" ∷ codes "X" ∷ []) ≡ Item 4 0)
    × (meant (twins ∷ []) (codes "X" ∷ []) ≡ Ambiguous)
    × (meant (twins ∷ []) (codes "S" ∷ codes "X" ∷ []) ≡ Ambiguous)
    × (meant (twins ∷ []) (codes "S" ∷ codes "C" ∷ []) ≡ NotDeclared)
    × (meant (twins ∷ []) (codes "X" ∷ codes "A" ∷ []) ≡ NotDeclared)
    × (meant (twins ∷ []) (codes "D" ∷ []) ≡ NotDeclared)

-- S has a member T with a member X, and a member X of its own; T is a structure with a member X too
abbrev pub shades : BlockItems
shades =
    item (codes "S") None ∷ item (codes "T") (Some 0) ∷ item (codes "X") (Some 1) ∷ item (codes "X") (Some 0)
    ∷ item (codes "T") None ∷ item (codes "X") (Some 4) ∷ []

-- S.X is the member of S itself, T.X that of the structure T, and X is three
abbrev pub FullBeforePartial : Type 0
FullBeforePartial = (meant (shades ∷ []) (codes "S" ∷ codes "X" ∷ []) ≡ Item 3 0)
    × (meant (shades ∷ []) (codes "T" ∷ codes "X" ∷ []) ≡ Item 5 0)
    × (meant (shades ∷ []) (codes "S" ∷ codes "T" ∷ codes "X" ∷ []) ≡ Item 2 0)
    × (meant (shades ∷ []) (codes "X" ∷ []) ≡ Ambiguous)
    × (meant (shades ∷ []) (codes "T" ∷ []) ≡ Item 4 0)

-- a name belongs to the innermost block that declares it, and no search goes outwards from there
abbrev pub InnermostBlock : Type 0
InnermostBlock = let inner : BlockItems = item (codes "C") None ∷ item (codes "S") None ∷ [] in
    (meant (inner ∷ twins ∷ []) (codes "C" ∷ []) ≡ Item 0 0)
    × (meant (inner ∷ twins ∷ []) (codes "B" ∷ codes "X" ∷ []) ≡ Item 4 1)
    × (meant (inner ∷ twins ∷ []) (codes "S" ∷ codes "B" ∷ codes "X" ∷ []) ≡ NotDeclared)
    × (meant ([] ∷ inner ∷ twins ∷ []) (codes "S" ∷ []) ≡ Item 1 1)
    × (meant [] (codes "S" ∷ []) ≡ NotDeclared)

-- no reference means an item that does not count
abbrev pub ItemsThatCount : Type 0
ItemsThatCount =
    let block : BlockItems =
    item (codes "S") None ∷ item (codes "X") (Some 0) ∷ uncounted (codes "S") None
    ∷ uncounted (codes "Y") (Some 2) ∷ [] in
    (meant (block ∷ []) (codes "S" ∷ []) ≡ Item 0 0)
    × (meant (block ∷ []) (codes "Y" ∷ []) ≡ NotDeclared)
    × (meant (block ∷ (item (codes "Y") None ∷ []) ∷ []) (codes "Y" ∷ []) ≡ Item 0 1)

-- an item as it is written, for the rule on names that are declared twice
abbrev pub written : Name → Option ℕ → Written
written name owner = record { name = name; owner = owner }

-- of two variables, or two members of one structure, the second is declared twice; members of different
-- structures are not
abbrev pub SecondIsTwice : Type 0
SecondIsTwice =
    (verdicts_of (written (codes "A") None ∷ written (codes "B") None ∷ written (codes "A") None
    ∷ written (codes "A") None ∷ []) ≡ Counts ∷ Counts ∷ Twice ∷ Twice ∷ [])
    × (verdicts_of (written (codes "S") None ∷ written (codes "X") (Some 0) ∷ written (codes "T") (Some 0)
    ∷ written (codes "X") (Some 2) ∷ written (codes "X") (Some 0) ∷ written (codes "X") None ∷ [])
    ≡ Counts ∷ Counts ∷ Counts ∷ Counts ∷ Twice ∷ Counts ∷ [])

-- the members of a structure that does not count are not declared and are no faults, at whatever depth
abbrev pub MembersOfSecond : Type 0
MembersOfSecond =
    (verdicts_of (written (codes "S") None ∷ written (codes "S") None ∷ written (codes "X") (Some 1)
    ∷ written (codes "X") (Some 1) ∷ written (codes "Y") (Some 2) ∷ [])
    ≡ Counts ∷ Twice ∷ Beneath ∷ Beneath ∷ Beneath ∷ [])
    × (verdicts_of (written (codes "S") None ∷ written (codes "T") (Some 0) ∷ written (codes "T") (Some 0)
    ∷ written (codes "X") (Some 2) ∷ written (codes "X") (Some 2) ∷ [])
    ≡ Counts ∷ Counts ∷ Twice ∷ Beneath ∷ Beneath ∷ [])
