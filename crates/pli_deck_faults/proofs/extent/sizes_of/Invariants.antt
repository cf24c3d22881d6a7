use Rattle.std.proofs.Common.{◌≡◌, ◌++◌, drop}
use Rattle.pli_deck_faults.specs.CutSizes.{cut_sizes}
use Rattle.pli_deck_faults.proofs.extent.sizes_of.Given as goal

-- the sizes so far, in front of those of the types that are left, are those of all
abbrev pub invariant-loop-of : goal.invariant-loop-of
invariant-loop-of l = l.sizes.items ++ cut_sizes (drop l.of-index l.types) ≡ cut_sizes l.types
