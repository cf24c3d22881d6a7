use Rattle.std.proofs.Common.{◌≡◌, ◌++◌, map, drop}
use Rattle.pli_declare_scopes.specs.Levels.{level_of, standings_after, standings_of}
use Rattle.pli_declare_scopes.proofs.level.standings.Given as goal

abbrev pub invariant-loop-number : goal.invariant-loop-number
invariant-loop-number l = l.standings.items ++ standings_after l.before.items l.number (map level_of (drop l.number l.levels)) ≡ standings_of l.levels
