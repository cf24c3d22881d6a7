use Rattle.std.proofs.Common.{◌≡◌, drop}
use Rattle.std.specs.Prelude.{reverse}
use Rattle.pli_declare_scopes.specs.Scopes.{meant, meant_from}
use Rattle.pli_declare_scopes.proofs.scope.Scope.look_up.Given as goal

abbrev pub invariant-loop-out : goal.invariant-loop-out
invariant-loop-out l = meant_from l.out (drop l.out (reverse l.blocks)) l.names ≡ meant (reverse l.blocks) l.names
