use Rattle.std.proofs.Common.{◌∷◌, [], suc, length, arith, refl, ap, ◌∙◌, sym, subst}
use Rattle.pli_type_tree.specs.TypedTree as plain
use Rattle.pli_type_tree.specs.views.TypedView.{expression_view, iteration_view, form_view, statement_view, statements_view}
use Rattle.pli_type_tree.specs.laws.TypedTreeLaws.{boxed_view, if_made, group_made, while_made, iterate_made}
use Rattle.pli_type_tree.specs.Iterations.{is_iterated}
use Rattle.pli_program.specs.declared.instruction.Instruction.TheVariants as op
use Rattle.pli_gen_emit.specs.TreeTranslation.{value_code, start_code, tests_code, advances_code, back_code, statement_code, form_code, list_code}
use Rattle.pli_gen_emit.specs.answers.Pieces.{IsTurn}
use Rattle.pli_gen_emit.specs.answers.Emitting.{emission, extended}
use Rattle.pli_gen_emit.proofs.EmitLemmas.{longer, emits_as}
use Rattle.pli_gen_emit.proofs.EmittedJumps.{lands_as, one_way_emitted, two_ways_emitted, turns_emitted, iterate_emitted}
use Rattle.pli_gen_emit.proofs.PlacedLemmas.{placed_amid}
use Rattle.pli_gen_emit.proofs.statement.+emit.Goals as goal

pub emit_list-loop-statement-preserved : goal.emit_list-loop-statement-preserved
emit_list-loop-statement-preserved t c =
    placed_amid (λ ss p. list_code (statements_view ss) p) (λ s p. statement_code (statement_view s) p) (λ s ss p. refl)
    c.args.code.now c.loop-statement.code c.emit_statement.new.code c.args.statements.now c.loop-statement.statement-index c.statement-item.result
    (list_code (statements_view c.args.statements.now) (length c.args.code.now.code.items)) (omega arith) c.statement-item.is c.emit_statement.ensures c.loop-statement.invariant

pub emit_statement-returns : goal.emit_statement-returns
emit_statement-returns t c =
    let old = emission c.args.code.now in
    let begun = emission c.emit.new.self in
    let number = c.args.statement.now.number in
    let form = form_view c.args.statement.now.form in (
      λ h. c.emit.ensures.0 (c.emit_form.ensures.0 h),
      λ h. let stepped = c.emit.ensures.1 (c.emit_form.ensures.0 h) in
          c.emit_form.ensures.1 h
          ∙ ap (λ n. extended begun (form_code number form n)) (longer old begun (op.Step number ∷ []) stepped)
          ∙ ap (λ s. extended s (form_code number form (suc (length old.code)))) stepped,
    )

pub emit_form-returns-in-None : goal.emit_form-returns-in-None
emit_form-returns-in-None t c =
    let b = c.in-If in
    let old = c.args.code.now in
    let jumping = c.jump_unless.new.self in
    let done = c.emit_statement.new.code in
    let at = length old.code.items in
    let test = value_code (expression_view b.condition) in
    let part = statement_view b.consequence.value in
    emits_as old c.land_test.new.self _ _
    (one_way_emitted old c.emit_value.new.code jumping done c.land_test.new.self test (statement_code part) c.emit_value.ensures c.jump_unless.ensures
    (emits_as jumping done _ _ c.emit_statement.ensures (ap (λ s. statement_code (statement_view s) (length jumping.code.items)) c.deref.ensures))
    (lands_as done c.land_test.new.self _ _ _ _ op.JumpUnless c.land_test.ensures c.place-test.ensures c.place-after.ensures))
    (sym (ap (λ f. form_code c.args.number f at)
    (ap form_view b.is ∙ if_made b.condition b.consequence b.alternative ∙ ap (λ a. plain.If (expression_view b.condition) part (boxed_view a)) c.in-None.is)))

pub emit_form-returns-in-Some : goal.emit_form-returns-in-Some
emit_form-returns-in-Some t c =
    let b = c.in-If in
    let old = c.args.code.now in
    let jumping = c.jump_unless.new.self in
    let done = c.emit_statement.new.code in
    let over = c.jump.new.self in
    let put = c.land_test-in-Some.new.self in
    let last = c.emit_statement-in-Some.new.code in
    let all = c.land_jump.new.self in
    let at = length old.code.items in
    let test = value_code (expression_view b.condition) in
    let part = statement_view b.consequence.value in
    let other = statement_view c.in-Some.other.value in
    emits_as old all _ _
    (two_ways_emitted old c.emit_value.new.code jumping done over put last all test (statement_code part) (statement_code other) c.emit_value.ensures c.jump_unless.ensures
    (emits_as jumping done _ _ c.emit_statement.ensures (ap (λ s. statement_code (statement_view s) (length jumping.code.items)) c.deref.ensures))
    c.jump.ensures
    (lands_as over put _ _ _ _ op.JumpUnless c.land_test-in-Some.ensures c.place-test.ensures c.place-part.ensures)
    (emits_as put last _ _ c.emit_statement-in-Some.ensures (ap (λ s. statement_code (statement_view s) (length put.code.items)) c.deref-in-Some.ensures))
    (lands_as last all _ _ _ _ op.Jump c.land_jump.ensures c.place-over.ensures c.place-after-in-Some.ensures))
    (sym (ap (λ f. form_code c.args.number f at)
    (ap form_view b.is ∙ if_made b.condition b.consequence b.alternative ∙ ap (λ a. plain.If (expression_view b.condition) part (boxed_view a)) c.in-Some.is)))

pub emit_form-returns-in-Group : goal.emit_form-returns-in-Group
emit_form-returns-in-Group t c =
    let at = length c.args.code.now.code.items in
    emits_as c.args.code.now c.emit_list.new.code _ _ c.emit_list.ensures
    (ap (λ ss. list_code (statements_view ss) at) c.as_slice.ensures.value
    ∙ sym (ap (λ f. form_code c.args.number f at) (ap form_view c.in-Group.is ∙ group_made c.in-Group.statements)))

pub emit_form-returns-in-While : goal.emit_form-returns-in-While
emit_form-returns-in-While t c =
    let b = c.in-While in
    let old = c.args.code.now in
    let lined = c.emit.new.self in
    let tested = c.emit_value-in-While.new.code in
    let jumping = c.jump_unless-in-While.new.self in
    let stepping = c.emit-in-While.new.self in
    let done = c.emit_list-in-While.new.code in
    let back = c.jump-in-While.new.self in
    let all = c.land_test-in-While.new.self in
    let at = length old.code.items in
    let test = value_code (expression_view b.condition) in
    let list = statements_view b.statements.items in
    emits_as old all _ _
    (turns_emitted old lined tested jumping stepping done back all c.args.number test (list_code list)
    c.emit.ensures c.emit_value-in-While.ensures c.jump_unless-in-While.ensures c.emit-in-While.ensures
    (emits_as stepping done _ _ c.emit_list-in-While.ensures (ap (λ ss. list_code (statements_view ss) (length stepping.code.items)) c.as_slice-in-While.ensures.value))
    (emits_as done back _ _ c.jump-in-While.ensures (ap (λ n. op.Jump n ∷ []) c.place-turn.ensures))
    (lands_as back all _ _ _ _ op.JumpUnless c.land_test-in-While.ensures c.place-test-in-While.ensures c.place-after-in-While.ensures))
    (sym (ap (λ f. form_code c.args.number f at) (ap form_view b.is ∙ while_made b.condition b.statements)))

pub emit_form-returns-in-Iterate : goal.emit_form-returns-in-Iterate
emit_form-returns-in-Iterate t c =
    let b = c.in-Iterate in
    let i = iteration_view b.iteration.value in
    let old = c.args.code.now in
    let number = c.args.number in
    let started = c.emit_start.new.code in
    let tested = c.emit_tests-turn.new.code in
    let stepping = c.emit-in-Iterate.new.self in
    let done = c.emit_list-in-Iterate.new.code in
    let back = c.emit_back.new.code in
    let all = c.land_tests.new.code in
    let turn = c.emit_tests-turn.result in
    let at = length old.code.items in
    let list = statements_view b.statements.items in
    emits_as old all _ _
    (iterate_emitted old started tested stepping done back all number i (list_code list) turn
    (emits_as old started _ _ c.emit_start.ensures (ap (λ x. start_code (iteration_view x)) c.deref-in-Iterate.ensures))
    (emits_as started tested _ _ c.emit_tests-turn.ensures.code (ap (λ x. tests_code (iteration_view x) 0) c.deref-in-Iterate-2.ensures))
    (λ h. subst (λ x. IsTurn (iteration_view x) (length started.code.items) turn) c.deref-in-Iterate-2.ensures (c.emit_tests-turn.ensures.turn h))
    c.emit-in-Iterate.ensures
    (emits_as stepping done _ _ c.emit_list-in-Iterate.ensures (ap (λ ss. list_code (statements_view ss) (length stepping.code.items)) c.as_slice-in-Iterate.ensures.value))
    (emits_as done back _ _ c.emit_back.ensures
    (ap (λ x. back_code (is_iterated (iteration_view x).range) number (advances_code (iteration_view x).range (iteration_view x)) turn.place) c.deref-in-Iterate-3.ensures))
    c.land_tests.ensures)
    (sym (ap (λ f. form_code number f at) (ap form_view b.is ∙ iterate_made b.iteration b.statements)))
