use Rattle.std.proofs.Common.{◌≡◌, ◌*◌, drop}
use Rattle.pli_map.specs.Sizes.{count_of}
use Rattle.pli_type_templates.proofs.plan.count_of.Given as goal

-- the count so far times that of what is left is that of all
abbrev pub invariant-loop-dimension : goal.invariant-loop-dimension
invariant-loop-dimension l = l.count * count_of (drop l.dimension-index l.bounds) ≡ count_of l.bounds
