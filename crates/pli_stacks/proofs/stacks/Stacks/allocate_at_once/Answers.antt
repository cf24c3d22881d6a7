use Rattle.std.proofs.Common.{arith}
use Rattle.pli_stacks.specs.views.StackView.{next_of, stack_view}
use Rattle.pli_stacks.specs.views.StacksView.{with_stacks}
use Rattle.pli_stacks.proofs.StacksSaid.{stack_read, stacks_same, stacked_done}
use Rattle.pli_stacks.proofs.stacks.Stacks.allocate_at_once.Goals as goal

pub returns-clause-done : goal.returns-clause-done
returns-clause-done c = λ done w.
    let s = c.args.self.now in
    let count = s.stacks.ok.0 in
    let x = c.index_mut.result.now in
    let there = stack_read s c.args.number x (omega (arith, count, c.len.ensures, c.if-number-len.false)) c.index_mut.ensures.value in
    stacked_done s c.args.storage.now c.args.number w x there c.push_at_once.new.storage (next_of (stack_view x) c.args.storage.now)
    c.push_at_once.new.stack (c.push_at_once.ensures.pushed done) (c.push_at_once.ensures.made done (with_stacks s w))

pub returns-clause-stacks : goal.returns-clause-stacks
returns-clause-stacks c = λ kept.
    let s = c.args.self.now in
    let count = s.stacks.ok.0 in
    let x = c.index_mut.result.now in
    let there = stack_read s c.args.number x (omega (arith, count, c.len.ensures, c.if-number-len.false)) c.index_mut.ensures.value in
    stacks_same s c.args.number x c.push_at_once.new.stack there (c.push_at_once.ensures.same kept)
