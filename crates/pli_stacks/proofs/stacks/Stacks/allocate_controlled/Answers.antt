use Rattle.std.proofs.Common.{arith}
use Rattle.std.proofs.lemmas.Result.{err_from_is_err_and}
use Rattle.pli_store.specs.views.StorageView.{with_storage}
use Rattle.pli_stacks.specs.views.StackView.{next_of, stack_view}
use Rattle.pli_stacks.specs.views.StacksView.{with_stacks}
use Rattle.pli_stacks.proofs.StacksSaid.{stack_past, stack_read, stacks_same, stacked_nowhere, stacked_refused, stacked_done}
use Rattle.pli_stacks.proofs.stacks.Stacks.allocate_controlled.Goals as goal

pub returns-then-number-len-clause-answer : goal.returns-then-number-len-clause-answer
returns-then-number-len-clause-answer c = λ w.
    let s = c.args.self.now in
    let count = s.stacks.ok.0 in
    stacked_nowhere c.args.number (with_stacks s (with_storage c.args.storage.now w))
    (stack_past s c.args.number (omega (arith, count, c.len.ensures, c.if-number-len.true)))

pub returns-in_err-push_made-clause-answer : goal.returns-in_err-push_made-clause-answer
returns-in_err-push_made-clause-answer c = λ w.
    let p = err_from_is_err_and c.from_residual.result c.from_residual.ensures.1 in
    let s = c.args.self.now in
    let count = s.stacks.ok.0 in
    let there = stack_read s c.args.number c.index_mut.result.now (omega (arith, count, c.len.ensures, c.if-number-len.false)) c.index_mut.ensures.value in
    let inner = with_stacks s w in
    rw (p.1, p.2)
    (stacked_refused s c.args.storage.now c.args.number w c.index_mut.result.now there
    (λ (_ : Unit {0}). next_of (stack_view c.index_mut.result.now) c.args.storage.now) c.in_err-push_made.field-0.0
    (with_storage c.push_made.new.storage inner) _ (c.in_err-push_made.ensures.answer inner))

pub returns-in_err-push_made-clause-stacks : goal.returns-in_err-push_made-clause-stacks
returns-in_err-push_made-clause-stacks c =
    let p = err_from_is_err_and c.from_residual.result c.from_residual.ensures.1 in
    let s = c.args.self.now in
    let count = s.stacks.ok.0 in
    let there = stack_read s c.args.number c.index_mut.result.now (omega (arith, count, c.len.ensures, c.if-number-len.false)) c.index_mut.ensures.value in
    rw p.1 (stacks_same s c.args.number c.index_mut.result.now c.push_made.new.stack there c.in_err-push_made.ensures.same)

pub returns-clause-answer : goal.returns-clause-answer
returns-clause-answer c = λ w.
    let s = c.args.self.now in
    let count = s.stacks.ok.0 in
    let there = stack_read s c.args.number c.index_mut.result.now (omega (arith, count, c.len.ensures, c.if-number-len.false)) c.index_mut.ensures.value in
    stacked_done s c.args.storage.now c.args.number w c.index_mut.result.now there c.push_made.new.storage
    (next_of (stack_view c.index_mut.result.now) c.args.storage.now)
    c.push_made.new.stack c.in_ok-push_made.ensures.ok (c.in_ok-push_made.ensures.answer (with_stacks s w))
