use Rattle.std.proofs.Common.{◌≡◌, ◌++◌, map, drop}
use Rattle.pli_declare_faults.proofs.names_in_attributes.append_answer.Given as goal

-- the answers so far, and those for the names that are left
abbrev pub invariant-loop-name : goal.invariant-loop-name
invariant-loop-name l =
    l.answers.items ++ map (λ i. l.is_good) (drop l._name-index l.names) ≡ l.initial.answers.items ++ map (λ i. l.is_good) l.names
