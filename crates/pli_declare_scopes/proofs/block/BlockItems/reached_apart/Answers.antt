use Rattle.std.proofs.Common.{arith}
use Rattle.pli_declare_scopes.proofs.block.BlockItems.reached_apart.Goals as goal

pub loop-at-init : goal.loop-at-init
loop-at-init c = λ n lt le counts part. omega (arith, le)

pub loop-at-preserved : goal.loop-at-preserved
loop-at-preserved c = λ n lt le counts part.
    omega (arith, c.min-bound.ensures, c.loop-at.invariant n lt le counts part, c.reached_between.ensures n lt le counts part)

pub returns : goal.returns
returns c = c.loop-at.invariant
