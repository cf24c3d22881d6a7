use Rattle.std.proofs.Common.{◌-◌, ◌+◌, ◌∷◌, ◌∙◌, sym, ap, arith}
use Rattle.pli_value.specs.Value.{value_view}
use Rattle.pli_machine_step.specs.Machine.{OfValue, goes_on, with_operands}
use Rattle.pli_machine_activations.specs.views.MachineView.{leads, waiting_view, frames_of, world_of, left_of}
use Rattle.pli_machine_operate.specs.views.OperandView.{stack}
use Rattle.pli_machine_activations.proofs.EndLemmas.{valued_more, valued_fails, valued_goes, valued_ends}
use Rattle.pli_machine_activations.proofs.leaving.give_back.Goals as goal

pub returns-then-not-leave : goal.returns-then-not-leave
returns-then-not-leave c = λ image put.
    let none = c.if-not-leave.ensures.leaves image put in
    c.loop-ended.invariant.way image put
    ∙ valued_fails (value_view c.args.value) (c.args.outward - c.loop-ended._ended) (c.args.outward - (c.loop-ended._ended + 1)) _ _ _ _ (omega arith) none.frames none.world

pub loop-ended-preserved : goal.loop-ended-preserved
loop-ended-preserved c = record {
  way = λ image put.
      let left = c.if-not-leave.ensures.leaves image put in
      c.loop-ended.invariant.way image put
      ∙ valued_more (value_view c.args.value) (c.args.outward - c.loop-ended._ended) (c.args.outward - (c.loop-ended._ended + 1)) _ _ _ _ _ _ _ (omega arith) left.frames left.world left.left;
  same = c.loop-ended.invariant.same;
}

pub returns-then-not-leave_at_once : goal.returns-then-not-leave_at_once
returns-then-not-leave_at_once c = λ image put.
    let none = c.if-not-leave_at_once.ensures.leaves image put in
    c.loop-ended.invariant.way image put
    ∙ valued_ends (value_view c.args.value) (c.args.outward - c.loop-ended._ended) _ _ _ _ (omega arith) none.frames none.world

pub returns : goal.returns
returns c = λ image put.
    let left = c.if-not-leave_at_once.ensures.leaves image put in
    let m = c.leave_at_once.new.machine in
    c.loop-ended.invariant.way image put
    ∙ valued_goes (value_view c.args.value) (c.args.outward - c.loop-ended._ended) _ _ _ _ _ _ _ (omega arith) left.frames left.world left.left
    ∙ ap (λ ops. leads (goes_on m.here.again (with_operands ops (waiting_view m.here)) (frames_of m.waiting.items) (world_of image m put)) (left_of m)) (sym (c.in_ok-push.ensures ∙ ap (λ v. OfValue v ∷ stack m.here.operands.items) c.loop-ended.invariant.same))
    ∙ c.resume.ensures image put
