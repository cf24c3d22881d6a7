use Rattle.std.proofs.Common.{◌≡◌, drop}
use Rattle.pli_map.specs.Digests.{digest_of_bounds}
use Rattle.pli_map.proofs.digest.digest_of_bounds.Given as goal

abbrev pub invariant-loop-dimension : goal.invariant-loop-dimension
invariant-loop-dimension l = digest_of_bounds l.whole (drop l.dimension-index l.bounds) ≡ digest_of_bounds l.initial.whole l.bounds
