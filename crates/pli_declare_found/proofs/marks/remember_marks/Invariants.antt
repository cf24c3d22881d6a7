use Rattle.std.proofs.Common.{◌≡◌}
use Rattle.pli_declare_found.proofs.marks.remember_marks.Given as goal

-- the tables say what they said
abbrev pub invariant-loop-placed : goal.invariant-loop-placed
invariant-loop-placed l = l.tables.items ≡ l.initial.tables.items
