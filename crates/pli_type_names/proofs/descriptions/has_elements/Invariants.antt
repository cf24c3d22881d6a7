use Rattle.std.proofs.Common.{◌≡◌, nat_lt, drop}
use Rattle.pli_map.specs.Sizes.{count_of}
use Rattle.pli_type_names.proofs.descriptions.has_elements.Given as goal

-- whether there are elements is what the dimensions that are left say
abbrev pub invariant-loop-dimension : goal.invariant-loop-dimension
invariant-loop-dimension l =
    nat_lt 0 (count_of (drop l.dimension-index l.bounds)) ≡ nat_lt 0 (count_of l.bounds)
