use Rattle.std.proofs.Common.{◌≡◌, ◌++◌, map, drop}
use Rattle.pli_link.specs.answers.Linking.{fault_of}
use Rattle.pli_link.proofs.linking.add_faults.Given as goal

-- the faults so far, and those of the names that are left, are those of all
abbrev pub invariant-loop-name : goal.invariant-loop-name
invariant-loop-name l =
    l.faults.items ++ map (fault_of l.fault) (drop l.name-index l.names)
    ≡ l.initial.faults.items ++ map (fault_of l.fault) l.names
