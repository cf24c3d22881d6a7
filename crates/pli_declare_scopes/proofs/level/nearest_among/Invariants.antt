use Rattle.std.proofs.Common.{◌≡◌, ℕ, ◌≤◌}
use Rattle.pli_declare_scopes.specs.Levels.{nearest}
use Rattle.pli_declare_scopes.proofs.level.nearest_among.Given as goal

abbrev pub invariant-loop-item : goal.invariant-loop-item
invariant-loop-item l = (m : ℕ) → m ≤ l.level → nearest m l.before.items ≡ nearest m l.initial.before.items

abbrev pub decreases-loop-item : goal.decreases-loop-item
decreases-loop-item l = goal.left-loop-item l
