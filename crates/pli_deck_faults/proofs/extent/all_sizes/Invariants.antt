use Rattle.std.proofs.Common.{◌≡◌, ◌++◌, drop, map}
use Rattle.pli_deck_faults.specs.CutSizes.{unit_sizes}
use Rattle.pli_deck_faults.proofs.extent.all_sizes.Given as goal

-- the sizes so far, in front of those of the units that are left, are those of all
abbrev pub invariant-loop-unit : goal.invariant-loop-unit
invariant-loop-unit l = map (λ sizes. sizes.items) l.all.items ++ map unit_sizes (drop l.unit-index l.units) ≡ map unit_sizes l.units
