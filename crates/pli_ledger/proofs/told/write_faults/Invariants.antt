use Rattle.std.specs.Prelude.{◌≡◌, ◌++◌, map, drop}
use Rattle.std.specs.List.{flat_map}
use Rattle.pli_meaning.specs.Scratch.{diagnostic_line, located}
use Rattle.pli_ledger.proofs.told.write_faults.Given as goal

-- what is appended and the diagnostics that are left are all of them
abbrev pub invariant-loop-fault : goal.invariant-loop-fault
invariant-loop-fault l =
    l.text.bytes.items ++ flat_map (diagnostic_line l.unit) (map (located l.unit l.origins) (drop l.fault-index l.faults))
    ≡ l.initial.text.bytes.items ++ flat_map (diagnostic_line l.unit) (map (located l.unit l.origins) l.faults)
