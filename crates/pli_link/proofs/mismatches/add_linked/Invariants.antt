use Rattle.std.proofs.Common.{◌≡◌, ◌++◌}
use Rattle.pli_link.specs.Mismatches.{linked_in}
use Rattle.pli_link.proofs.mismatches.add_linked.Given as goal

-- the names so far, and those that are left, are all
abbrev pub invariant-loop-name : goal.invariant-loop-name
invariant-loop-name l =
    l.linked.items ++ linked_in l.unit l.name-iterator
    ≡ l.initial.linked.items ++ linked_in l.unit l.names.keys
