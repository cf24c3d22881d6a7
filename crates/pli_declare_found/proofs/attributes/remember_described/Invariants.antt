use Rattle.std.proofs.Common.{◌≡◌}
use Rattle.pli_declare_found.proofs.attributes.remember_described.Given as goal

-- the tables say what they said
abbrev pub invariant-loop-attribute : goal.invariant-loop-attribute
invariant-loop-attribute l = l.tables.items ≡ l.initial.tables.items
