use Rattle.std.proofs.Common.{length, get_or, sym, ap, subst, ◌∙◌, arith}
use Rattle.std.proofs.lemmas.Bool.{ltb-true, ltb-false}
use Rattle.pli_store.specs.answers.Answered.{Answered}
use Rattle.pli_stacks.specs.views.StackView.{stack_view}
use Rattle.pli_stacks.specs.views.StacksView.{with_stacks}
use Rattle.pli_stacks.proofs.StacksSaid.{stack_past, stack_read, counted_there, counted_nowhere}
use Rattle.pli_stacks.proofs.stacks.Stacks.generations.Goals as goal

pub returns-in-Some : goal.returns-in-Some
returns-in-Some c = λ w.
    let s = c.args.self.now in
    let items = c.deref.result.now in
    let inside = ltb-true c.args.number (length items) (sym c.in-Some.ensures.lookup.0) in
    let within = ap length c.deref.ensures.value in
    let read = c.in-Some.ensures.lookup.1 ∙ ap (λ xs. get_or xs c.args.number c.in-Some.stack.now) c.deref.ensures.value in
    let there = stack_read s c.args.number c.in-Some.stack.now (omega (arith, inside, within)) read in
    let before = with_stacks s w in
    subst (Answered (λ n. n) c.count_of.result before before) (sym (counted_there c.args.number before (stack_view c.in-Some.stack.now) there))
    (c.count_of.ensures before)

pub returns-in-None : goal.returns-in-None
returns-in-None c = λ w.
    let s = c.args.self.now in
    let past = ltb-false c.args.number (length c.deref.result.now) (sym c.in-None.ensures.lookup.0) in
    let within = ap length c.deref.ensures.value in
    counted_nowhere c.args.number (with_stacks s w) (stack_past s c.args.number (omega (arith, past, within)))
