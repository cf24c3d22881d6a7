use Rattle.std.proofs.Common.{arith}
use Rattle.pli_stacks.proofs.StacksSaid.{stack_read, stacks_same, unstacked_done}
use Rattle.pli_stacks.proofs.stacks.Stacks.free_at_once.Goals as goal

pub returns-clause-done : goal.returns-clause-done
returns-clause-done c = λ done w.
    let s = c.args.self.now in
    let count = s.stacks.ok.0 in
    let x = c.index_mut.result.now in
    let there = stack_read s c.args.number x (omega (arith, count, c.len.ensures, c.if-number-len.false)) c.index_mut.ensures.value in
    let popped = c.pop_at_once.ensures.popped done in
    unstacked_done s c.args.storage.now c.args.number w x there c.pop_at_once.new.storage popped.number c.pop_at_once.new.stack popped.places
    popped.ended popped.made

pub returns-clause-stacks : goal.returns-clause-stacks
returns-clause-stacks c = λ kept.
    let s = c.args.self.now in
    let count = s.stacks.ok.0 in
    let x = c.index_mut.result.now in
    let there = stack_read s c.args.number x (omega (arith, count, c.len.ensures, c.if-number-len.false)) c.index_mut.ensures.value in
    stacks_same s c.args.number x c.pop_at_once.new.stack there (c.pop_at_once.ensures.same kept)
