use Rattle.std.proofs.Common.{sym, ◌∙◌, arith}
use Rattle.pli_machine_activations.proofs.LinkLemmas.{found_near, next_near, past_near, none_near}
use Rattle.pli_machine_activations.proofs.walk.nearest.Goals as goal

pub returns-then-is_of-clause-found : goal.returns-then-is_of-clause-found
returns-then-is_of-clause-found c =
    c.loop-height.invariant.way
    ∙ found_near c.args.waiting.now c.args.unit c.args.block
    c.index-waiting-count.result c.loop-height.count c.loop-height.height
    (omega arith) (omega arith) (omega arith) c.index-waiting-count.is (sym c.is_of.ensures ∙ c.if-is_of.true)

pub loop-height-preserved : goal.loop-height-preserved
loop-height-preserved c = record {
  within = omega arith;
  way = c.loop-height.invariant.way
      ∙ next_near c.args.waiting.now c.args.unit c.args.block
      c.index-waiting-count.result c.loop-height.count c.loop-height.height
      (omega arith) (omega arith) (omega arith) c.index-waiting-count.is (sym c.is_of.ensures ∙ c.if-is_of.false);
}

pub returns-else-height-count-clause-found : goal.returns-else-height-count-clause-found
returns-else-height-count-clause-found c =
    c.loop-height.invariant.way
    ∙ past_near c.args.waiting.now c.args.unit c.args.block c.loop-height.count c.loop-height.height (omega arith) (omega arith)

pub returns-after-loop-height-clause-found : goal.returns-after-loop-height-clause-found
returns-after-loop-height-clause-found c =
    c.loop-height.invariant.way
    ∙ none_near c.args.waiting.now c.args.unit c.args.block c.loop-height.count c.loop-height.height (omega arith) (omega arith)
