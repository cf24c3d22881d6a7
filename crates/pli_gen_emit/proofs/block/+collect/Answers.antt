use Rattle.std.proofs.Common.{◌∷◌, [], List, ap, ◌∙◌, sym, refl, arith}
use Rattle.pli_type_tree.specs.TypedTree as plain
use Rattle.pli_type_tree.specs.views.TypedView.{expression_view, form_view, head_view, statement_view, statements_view}
use Rattle.pli_type_tree.specs.laws.TypedTreeLaws.{boxed_view, if_made, begin_made, group_made, while_made, iterate_made}
use Rattle.pli_type_tree.specs.declared.statement.TypedStatement.{TypedStatement}
use Rattle.pli_gen_emit.specs.TreeTranslation.{BlockTree, blocks_in, blocks_of_form, blocks_among, begin_block}
use Rattle.pli_gen_emit.proofs.CollectLemmas.{collects_as, then_collects, collecting_next}
use Rattle.pli_gen_emit.proofs.block.+collect.Goals as goal

pub collect_in-returns-in-Begin : goal.collect_in-returns-in-Begin
collect_in-returns-in-Begin t c =
    let b = c.in-Begin in
    let inside : List TypedStatement → List BlockTree = λ ss. blocks_among b.head.number (statements_view ss) in
    let here : List TypedStatement → BlockTree = λ ss. begin_block c.args.parent (head_view b.head) (statements_view ss) in
    let slice = c.as_slice-statements.result.now in
    then_collects c.args.blocks.now c.collect.new.blocks c.collect_among.new.blocks (here slice ∷ []) (inside slice) _ c.collect.ensures c.collect_among.ensures
    (ap (λ ss. here ss ∷ inside ss) c.as_slice-statements.ensures.value
    ∙ sym (ap (λ f. blocks_of_form c.args.parent f) (ap form_view b.is ∙ begin_made b.head b.statements)))

pub collect_in-returns-in-Group : goal.collect_in-returns-in-Group
collect_in-returns-in-Group t c =
    collects_as c.args.blocks.now c.collect_among-in-Group.new.blocks _ _ c.collect_among-in-Group.ensures
    (ap (λ ss. blocks_among c.args.parent (statements_view ss)) c.as_slice.ensures.value
    ∙ sym (ap (λ f. blocks_of_form c.args.parent f) (ap form_view c.in-Group.is ∙ group_made c.in-Group.statements)))

pub collect_in-returns-in-While : goal.collect_in-returns-in-While
collect_in-returns-in-While t c =
    let b = c.in-While in
    collects_as c.args.blocks.now c.collect_among-in-While.new.blocks _ _ c.collect_among-in-While.ensures
    (ap (λ ss. blocks_among c.args.parent (statements_view ss)) c.as_slice-in-While.ensures.value
    ∙ sym (ap (λ f. blocks_of_form c.args.parent f) (ap form_view b.is ∙ while_made b.condition b.statements)))

pub collect_in-returns-in-Iterate : goal.collect_in-returns-in-Iterate
collect_in-returns-in-Iterate t c =
    let b = c.in-Iterate in
    collects_as c.args.blocks.now c.collect_among-in-Iterate.new.blocks _ _ c.collect_among-in-Iterate.ensures
    (ap (λ ss. blocks_among c.args.parent (statements_view ss)) c.as_slice-in-Iterate.ensures.value
    ∙ sym (ap (λ f. blocks_of_form c.args.parent f) (ap form_view b.is ∙ iterate_made b.iteration b.statements)))

pub collect_among-loop-statement-preserved : goal.collect_among-loop-statement-preserved
collect_among-loop-statement-preserved t c =
    let parent = c.args.parent in
    collecting_next (λ ss. blocks_among parent (statements_view ss)) (λ s. blocks_in parent (statement_view s)) (λ x xs. refl)
    c.args.blocks.now c.loop-statement.blocks c.collect_in.new.blocks c.args.statements.now c.loop-statement.statement-index c.statement-item.result _
    (omega (arith, c.loop-statement-test.true)) c.statement-item.is c.collect_in.ensures c.loop-statement.invariant

pub collect_in-returns-in-Some : goal.collect_in-returns-in-Some
collect_in-returns-in-Some t c =
    let b = c.in-If in
    let parent = c.args.parent in
    let mid = c.collect_in.new.blocks in
    let new = c.collect_in-in-Some.new.blocks in
    let part = statement_view b.consequence.value in
    then_collects c.args.blocks.now mid new (blocks_in parent part) (blocks_in parent (statement_view c.in-Some.other.value)) _
    (collects_as c.args.blocks.now mid _ _ c.collect_in.ensures (ap (λ s. blocks_in parent (statement_view s)) c.deref.ensures))
    (collects_as mid new _ _ c.collect_in-in-Some.ensures (ap (λ s. blocks_in parent (statement_view s)) c.deref-in-Some.ensures))
    (sym (ap (λ f. blocks_of_form parent f)
    (ap form_view b.is ∙ if_made b.condition b.consequence b.alternative ∙ ap (λ a. plain.If (expression_view b.condition) part (boxed_view a)) c.in-Some.is)))
