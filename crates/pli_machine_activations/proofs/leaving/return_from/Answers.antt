use Rattle.std.proofs.Common.{◌-◌, ◌+◌, ◌∙◌, arith}
use Rattle.pli_machine_activations.proofs.EndLemmas.{returned_more, returned_fails, returned_goes, returned_ends}
use Rattle.pli_machine_activations.proofs.leaving.return_from.Goals as goal

pub returns-then-not-leave : goal.returns-then-not-leave
returns-then-not-leave c = λ u image put.
    let none = c.if-not-leave.ensures.leaves image put in
    c.loop-ended.invariant image put
    ∙ returned_fails (c.args.outward - c.loop-ended._ended) (c.args.outward - (c.loop-ended._ended + 1)) _ _ _ _ (omega arith) none.frames none.world

pub loop-ended-preserved : goal.loop-ended-preserved
loop-ended-preserved c = λ image put.
    let left = c.if-not-leave.ensures.leaves image put in
    c.loop-ended.invariant image put
    ∙ returned_more (c.args.outward - c.loop-ended._ended) (c.args.outward - (c.loop-ended._ended + 1)) _ _ _ _ _ _ _ (omega arith) left.frames left.world left.left

pub returns-then-leave_at_once : goal.returns-then-leave_at_once
returns-then-leave_at_once c = λ u image put.
    let left = c.if-leave_at_once.ensures.leaves image put in
    c.loop-ended.invariant image put
    ∙ returned_goes (c.args.outward - c.loop-ended._ended) _ _ _ _ _ _ _ (omega arith) left.frames left.world left.left
    ∙ c.resume.ensures image put

pub returns-else-leave_at_once : goal.returns-else-leave_at_once
returns-else-leave_at_once c = λ u image put.
    let none = c.if-leave_at_once.ensures.leaves image put in
    c.loop-ended.invariant image put
    ∙ returned_ends (c.args.outward - c.loop-ended._ended) _ _ _ _ (omega arith) none.frames none.world
