use Rattle.std.proofs.Common.{◌≡◌}
use Rattle.pli_declare_found.proofs.attributes.remember_items.Given as goal

-- the tables say what they said
abbrev pub invariant-loop-item : goal.invariant-loop-item
invariant-loop-item l = l.tables.items ≡ l.initial.tables.items
