-- What the linker answers, as callers see it.
use Rattle.std.specs.Prelude.{◌≡◌, Result, Ok, Err, List, ◌++◌, map}
use Rattle.std.specs.Global.{Vec}
use Rattle.pli_link.specs.Link.{in_order, later, mains, none_among}
use Rattle.pli_link.specs.Units.{Compiled, procedure_of}
use Rattle.pli_code.specs.Modules.{Module}
use Rattle.pli_code.specs.views.CodeView.{lent_module_view}
use Rattle.pli_link.specs.declared.linked.Linked.{Linked}
use Rattle.pli_link.specs.declared.linking.LinkFault.{LinkFault}
use Rattle.pli_link.specs.declared.linking.LinkFault.TheVariants as faults
use Rattle.pli_base.specs.declared.failure.Failure.{Failure}
use Rattle.pli_base.specs.declared.failure.Failure.TheVariants.{Fault, OutOfMemory}
use Rattle.pli_link.specs.declared.linking.NameFault.{NameFault}
use Rattle.pli_link.specs.declared.linking.NameFault.TheVariants as names
use Rattle.pli_link.specs.declared.units.LinkedName.{LinkedName}

-- a fault of a name
abbrev pub fault_of : NameFault → LinkedName → LinkFault
fault_of names.TwoMainProcedures = faults.TwoMainProcedures
fault_of names.Unresolved = faults.Unresolved
fault_of names.DefinedTwice = faults.DefinedTwice
fault_of names.Mismatch = faults.Mismatch

-- the faults of main procedures
abbrev pub main_faults_of : List Compiled → List LinkFault
main_faults_of cs =
    none_among (mains cs) ++ map faults.TwoMainProcedures (in_order (map procedure_of (later (mains cs))))

-- the module, or all faults, unless memory runs out
abbrev pub Links : Result Linked (Failure (Vec LinkFault)) → Result Module (List LinkFault) → Type 0
Links (Ok m) given = given ≡ Ok (lent_module_view m.program)
Links (Err (Fault faults)) given = given ≡ Err faults.items
Links (Err OutOfMemory) given = Unit {0}
