use Rattle.std.proofs.Common.{arith}
use Rattle.pli_store.specs.views.StorageView.{with_storage}
use Rattle.pli_stacks.specs.views.StacksView.{with_stacks}
use Rattle.pli_stacks.proofs.StacksSaid.{stack_past, stack_read, stacks_same, unstacked_nowhere, unstacked_empty, unstacked_done}
use Rattle.pli_stacks.proofs.stacks.Stacks.free_controlled.Goals as goal

pub returns-then-number-len-clause-answer : goal.returns-then-number-len-clause-answer
returns-then-number-len-clause-answer c = λ w.
    let s = c.args.self.now in
    let count = s.stacks.ok.0 in
    unstacked_nowhere c.args.number (with_stacks s (with_storage c.args.storage.now w))
    (stack_past s c.args.number (omega (arith, count, c.len.ensures, c.if-number-len.true)))

pub returns-in_default-clause-answer : goal.returns-in_default-clause-answer
returns-in_default-clause-answer c = λ w.
    let s = c.args.self.now in
    let count = s.stacks.ok.0 in
    let x = c.index_mut.result.now in
    let there = stack_read s c.args.number x (omega (arith, count, c.len.ensures, c.if-number-len.false)) c.index_mut.ensures.value in
    unstacked_empty s c.args.storage.now c.args.number w x there c.in_default.ensures.0

pub returns-in_default-clause-stacks : goal.returns-in_default-clause-stacks
returns-in_default-clause-stacks c =
    let s = c.args.self.now in
    let count = s.stacks.ok.0 in
    let x = c.index_mut.result.now in
    let there = stack_read s c.args.number x (omega (arith, count, c.len.ensures, c.if-number-len.false)) c.index_mut.ensures.value in
    stacks_same s c.args.number x c.pop_newest.new.stack there c.in_default.ensures.1

pub returns-clause-answer : goal.returns-clause-answer
returns-clause-answer c = λ w.
    let s = c.args.self.now in
    let count = s.stacks.ok.0 in
    let x = c.index_mut.result.now in
    let there = stack_read s c.args.number x (omega (arith, count, c.len.ensures, c.if-number-len.false)) c.index_mut.ensures.value in
    unstacked_done s c.args.storage.now c.args.number w x there c.end_one.new.self c.in-Some.newest.number c.pop_newest.new.stack c.in-Some.ensures
    c.end_one.ensures.storage c.end_one.ensures.made
