use Rattle.std.proofs.Common.{◌≡◌, take}
use Rattle.std.specs.List.{list_any}
use Rattle.pli_base.specs.Name.{Name}
use Rattle.pli_base.specs.Words.{same_name}
use Rattle.pli_declare_variables.proofs.places.set_of.Given as goal

abbrev pub invariant-loop-name : goal.invariant-loop-name
invariant-loop-name l = (name : Name) → list_any (same_name name) l.set.keys ≡ list_any (same_name name) (take l.name-index l.names)
