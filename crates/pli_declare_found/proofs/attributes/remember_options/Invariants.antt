use Rattle.std.proofs.Common.{◌≡◌}
use Rattle.pli_declare_found.proofs.attributes.remember_options.Given as goal

-- the tables say what they said
abbrev pub invariant-loop-option : goal.invariant-loop-option
invariant-loop-option l = l.tables.items ≡ l.initial.tables.items
