-- The units of a build, in the order of their names, with what is kept of them.
use Rattle.std.specs.Prelude.{List, map}
use Rattle.pli_base.specs.Name.{Name}
use Rattle.pli_ledger.specs.Kept.{Kept, Units, kept_of}

-- what is kept of these names
abbrev pub aligned : Units → List Name → Units
aligned units names = map (λ name. (name, kept_of units name)) names

-- the name of a unit
abbrev pub unit_name : Name × Kept → Name
unit_name u = u.0
