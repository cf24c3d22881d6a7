use Rattle.std.proofs.Common.{◌∙◌, ◌-◌, ◌+◌, ap, arith}
use Rattle.pli_world.specs.Activations.{outward_from}
use Rattle.pli_machine_activations.proofs.LinkWalkLemmas.{first_of}
use Rattle.pli_machine_activations.proofs.LinkLemmas.{views, no_link, past_link, next_link, end_link}
use Rattle.pli_machine_activations.proofs.walk.outer.Goals as goal
use Rattle.pli_machine_activations.proofs.walk.outer.Goals.{then-height-eq0-via-then-height-eq0, then-height-eq0-via-else-height-eq0+then-height-count, then-height-eq0-2, else-height-eq0-2}

pub returns-then-height-eq0-clause-found : goal.returns-then-height-eq0-clause-found
returns-then-height-eq0-clause-found c =
    c.loop-passed.invariant.way
    ∙ elim c.then-height-eq0.branch [
      | then-height-eq0-via-then-height-eq0 w ↦ no_link c.args.waiting.now c.loop-passed.count c.loop-passed.height (c.args.outward - c.loop-passed._passed) w.if-height-eq0.true (omega arith)
      | then-height-eq0-via-else-height-eq0+then-height-count w ↦
          past_link c.args.waiting.now c.loop-passed.count c.loop-passed.height (c.args.outward - c.loop-passed._passed) (omega arith) (omega arith)
    ]

pub loop-passed-preserved : goal.loop-passed-preserved
loop-passed-preserved c = record {
  within = omega arith;
  way =
      c.loop-passed.invariant.way
      ∙ next_link c.args.waiting.now c.index-waiting-count.result c.loop-passed.count c.loop-passed.height
      (c.args.outward - c.loop-passed._passed) (c.args.outward - (c.loop-passed._passed + 1))
      (omega arith) (omega arith) (omega arith) (omega arith);
}

pub returns-then-height-count-2-clause-found : goal.returns-then-height-count-2-clause-found
returns-then-height-count-2-clause-found c =
    c.loop-passed.invariant.way
    ∙ elim c.if-height-eq0-2.branch [
      | then-height-eq0-2 w ↦ no_link c.args.waiting.now c.loop-passed.count c.loop-passed.height (c.args.outward - c.loop-passed._passed) w.if-height-eq0-2.true (omega arith)
      | else-height-eq0-2 w ↦ past_link c.args.waiting.now c.loop-passed.count c.loop-passed.height (c.args.outward - c.loop-passed._passed) (omega arith) (omega arith)
    ]

pub returns-else-height-count-2-clause-found : goal.returns-else-height-count-2-clause-found
returns-else-height-count-2-clause-found c =
    c.loop-passed.invariant.way
    ∙ ap (outward_from (first_of (views c.args.waiting.now) c.loop-passed.count) c.loop-passed.height) (omega arith)
    ∙ end_link c.args.waiting.now c.loop-passed.count c.loop-passed.height (omega arith) (omega arith) (omega arith)
