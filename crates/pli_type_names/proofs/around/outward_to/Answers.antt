use Rattle.std.proofs.Common.{◌∙◌}
use Rattle.pli_type_names.proofs.OutwardLemmas.{found_here, found_further}
use Rattle.pli_type_names.proofs.around.outward_to.Goals as goal

pub returns-then-around-outward : goal.returns-then-around-outward
returns-then-around-outward c =
    found_here c.args.around.now c.args.block c.loop-outward.outward c.loop-outward-test.true c.if-around-outward.true
    ∙ c.loop-outward.invariant

pub loop-outward-preserved : goal.loop-outward-preserved
loop-outward-preserved c =
    found_further c.args.around.now c.args.block c.loop-outward.outward c.loop-outward-test.true c.if-around-outward.false
    ∙ c.loop-outward.invariant
