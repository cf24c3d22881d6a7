use Rattle.std.proofs.Common.{◌≡◌, ◌++◌, drop}
use Rattle.std.specs.List.{flat_map}
use Rattle.pli_declare_faults.specs.answers.Targets.{target_uses}
use Rattle.pli_declare_faults.proofs.names_in_attributes.append_uses.Given as goal

-- the uses so far, and those at the names that are left
abbrev pub invariant-loop-name : goal.invariant-loop-name
invariant-loop-name l =
    l.uses.items ++ flat_map (λ i. target_uses i.at l.target) (drop l.name-index l.names) ≡ l.initial.uses.items ++ flat_map (λ i. target_uses i.at l.target) l.names
