use Rattle.std.proofs.Common.{◌≡◌, ◌++◌, map, drop}
use Rattle.pli_declare_faults.proofs.parameters.append_names.Given as goal

-- the names so far, and those that are left
abbrev pub invariant-loop-parameter : goal.invariant-loop-parameter
invariant-loop-parameter l = l.names.items ++ map (λ i. i.name) (drop l.parameter-index l.parameters) ≡ l.initial.names.items ++ map (λ i. i.name) l.parameters
