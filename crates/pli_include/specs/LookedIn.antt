-- The names that an expansion has looked up.
use Rattle.std.specs.Prelude.{List, Ok, Err}
use Rattle.pli_base.specs.Name.{Name}
use Rattle.pli_include.specs.Expansion.{Outcome}

-- the names that were looked up
abbrev pub looked_in : Outcome → List Name
looked_in (Ok s) = s.looked
looked_in (Err stop) = stop.looked
