-- The hole between two places (own).
use Rattle.std.specs.Prelude.{◌-◌, ℕ, nat_lt}
use Rattle.std.specs.Prelude.{List, ◌∷◌, if◌then◌else◌}
use Rattle.pli_holes.specs.declared.hole.Hole.{Hole}

-- the hole between two places, if they differ, before the others
abbrev pub hole_between : (from to : ℕ) → List Hole → List Hole
hole_between from to holes =
    if nat_lt from to then record { start = from; room = to - from } ∷ holes else holes
