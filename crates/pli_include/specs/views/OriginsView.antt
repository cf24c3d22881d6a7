-- Where the tokens of an expansion stand, apart from how it is kept.
use Rattle.std.specs.Prelude.{◌<◌, ℕ, List, [], length, get_or}
use Rattle.pli_base.specs.Name.{Name}
use Rattle.pli_base.specs.declared.token.Origin.{Origin}
use Rattle.pli_base.specs.declared.token.Token.{Token}
use Rattle.pli_include.specs.declared.origins.Place.{Place}

-- the origin at a place, where the runs are of these members
abbrev pub origin_at : List Name → Place → Origin
origin_at members p = record { member = get_or members p.run []; line = p.line }

-- the place is of one of the runs
abbrev pub IsOfRun : List Name → Place → Type 0
IsOfRun members p = p.run < length members

-- the place of a token of this run
abbrev pub place_in : (run : ℕ) → Token → Place
place_in run t = record { run = run; line = t.line }
