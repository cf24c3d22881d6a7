-- What the check of a unit answers, as callers see it.
use Rattle.std.specs.Prelude.{◌≡◌, List, Result, Ok, Err}
use Rattle.std.specs.Global.{Vec}
use Rattle.pli_base.specs.declared.token.Fault as fault
use Rattle.pli_type_tree.specs.TypedTree as plain
use Rattle.pli_type_tree.specs.declared.unit.TypedUnit.{TypedUnit}
use Rattle.pli_type_tree.specs.views.TypedView.{unit_view}
use Rattle.pli_base.specs.declared.failure.Failure.{Failure}
use Rattle.pli_base.specs.declared.failure.Failure.TheVariants.{Fault, OutOfMemory}

-- the typed unit, or its faults, unless memory ran out
abbrev pub Checks : Result TypedUnit (Failure (Vec fault.Fault)) → Result plain.TypedUnit (List fault.Fault)
    → Type 0
Checks (Ok u) checked = checked ≡ Ok (unit_view u)
Checks (Err (Fault faults)) checked = checked ≡ Err faults.items
Checks (Err OutOfMemory) checked = Unit {0}
