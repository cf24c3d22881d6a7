use Rattle.std.proofs.Common.{◌≡◌, ◌+◌, ◌++◌, drop}
use Rattle.pli_declare_faults.specs.answers.Walks.{name_faults}
use Rattle.pli_declare_faults.proofs.marks.tell_names.Given as goal

-- the faults so far in front of those of what is left
abbrev pub invariant-loop-name : goal.invariant-loop-name
invariant-loop-name l = record {
  number : l.number ≡ l.first + l.name-index;
  told : l.faults.items ++ name_faults l.codes l.number (drop l.name-index l.names) ≡ l.initial.faults.items ++ name_faults l.codes l.first l.names;
}
