use Rattle.std.proofs.Common.{◌≡◌, drop, reverse}
use Rattle.pli_type_rules.specs.NamedUnits.{outward_to}
use Rattle.pli_type_names.proofs.OutwardLemmas.{further}
use Rattle.pli_type_names.proofs.around.outward_to.Given as goal

-- the block is so many links after those that are passed
abbrev pub invariant-loop-outward : goal.invariant-loop-outward
invariant-loop-outward l =
    further l.outward (outward_to (drop l.outward (reverse l.around)) l.block) ≡ outward_to (reverse l.around) l.block
