use Rattle.std.proofs.Common.{◌≡◌}
use Rattle.pli_declare_found.proofs.attributes.remember_descriptions.Given as goal

-- the tables say what they said
abbrev pub invariant-loop-description : goal.invariant-loop-description
invariant-loop-description l = l.tables.items ≡ l.initial.tables.items
