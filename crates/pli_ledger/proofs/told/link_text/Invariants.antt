use Rattle.std.specs.Prelude.{◌≡◌, ◌++◌, drop}
use Rattle.std.specs.List.{flat_map}
use Rattle.pli_meaning.specs.Scratch.{link_line}
use Rattle.pli_ledger.proofs.told.link_text.Given as goal

-- the lines so far, and those of the faults that are left, are those of all
abbrev pub invariant-loop-fault : goal.invariant-loop-fault
invariant-loop-fault l = l.text.bytes.items ++ flat_map link_line (drop l.fault-index l.faults) ≡ flat_map link_line l.faults
