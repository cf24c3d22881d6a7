use Rattle.std.proofs.Common.{◌≡◌, IfOk, ◌+◌, ◌<◌, ◌≤◌, ◌&&◌, suc, None, Vec, Global, length, map, drop, option_map, refl, ap, sym, ◌∙◌, subst, arith, true}
use Rattle.pli_base.specs.Statements as tree
use Rattle.pli_base.specs.declared.statement.Procedure.{out-Procedure}
use Rattle.pli_base.specs.laws.StatementLaws as laws
use Rattle.pli_base.specs.views.StatementView as source
use Rattle.pli_base.specs.views.SyntaxView as syntax
use Rattle.pli_map.specs.views.DescriptionView.{description_view}
use Rattle.pli_type_rules.specs.StatementTyping as spec
use Rattle.pli_type_rules.specs.Temporaries.{next_after}
use Rattle.pli_type_tree.specs.TypedTree as plain
use Rattle.pli_type_tree.specs.declared.statement.TypedStatement.{TypedStatement}
use Rattle.pli_type_tree.specs.views.TypedView.{form_view, statement_view, statements_view}
use Rattle.pli_type_walk.specs.NumbersTaken.{taken_among, taken_else, taken_in, taken_of}
use Rattle.pli_type_walk.specs.Walking.{HasRoom, WalksBlock, WalksBody, WalksList, in_block, around, based_names, next_at, unit_at}
use Rattle.pli_type_iteration.specs.views.HeaderView.{header_view}
use Rattle.pli_type_walk.proofs.Blocks.{begin_walked, block_placed, block_walked, group_placed, group_walked, in_group_around, procedure_answer, returned_is, unit_answer}
use Rattle.pli_type_walk.proofs.RoomLeft.{room_after, room_controlled, room_else, room_first, room_header, room_if, room_inside, room_next, room_on_unit}
use Rattle.pli_type_statement.proofs.SizeLemmas.{statement_size, body_size, list_size, alternative_size, item_size}
use Rattle.pli_type_statement.proofs.TurnLemmas.{all_walked, do_walked, goes_on_first, goes_on_next, if_next_none, if_next_some, in_front, none_walked, simple_answer}
use Rattle.pli_type_walk.proofs.WalkLemmas.{as_typed, if_walked, made_walked, back_then, moved, nothing_walked, same_based}
use Rattle.pli_type_statement.proofs.statement.+typed.Goals as goal
use Rattle.pli_type_statement.proofs.statement.+typed.Goals.{type_statements-then-complete, type_statements-else-complete, type_statements-then-complete-2, type_statements-else-complete-2}

-- statements

pub type_statement-type_body-requires : goal.type_statement-type_body-requires
type_statement-type_body-requires t c = (omega (arith, c.decreases), (c.requires.placed, c.requires.room))

pub type_statement-returns : goal.type_statement-returns
type_statement-returns t c =
    as_typed _ _ _ _ _ _ _ _ refl refl c.numbered.ensures
    (made_walked (plain.Statement c.args.statement.now.number) _ _ _ _ _ c.in_ok-form.ensures)

-- blocks

pub type_block-type_statements-requires : goal.type_block-type_statements-requires
type_block-type_statements-requires t c =
    let ss = source.statements_view c.args.statements.now in (
      omega (arith, c.decreases),
      (
        block_placed c.args.walk.now _ c.in_ok-block.block c.args.is_on_unit _ _ _ c.requires.deep c.requires.placed c.in_ok-block.ensures,
        subst (λ x. HasRoom x (taken_among ss)) (sym c.in_ok-block.ensures.next) (room_inside (next_at c.args.walk.now) (taken_among ss) c.requires.room),
      ),
    )

pub type_block-returns : goal.type_block-returns
type_block-returns t c =
    block_walked c.args.walk.now _ _ _ c.in_ok-block.block c.args.is_on_unit _ _ c.args.number (source.statements_view c.args.statements.now) _ _
    c.requires.placed c.in_ok-block.ensures c.in_ok-list.ensures c.leave_block-head.ensures

pub type_body-type_block-requires : goal.type_body-type_block-requires
type_body-type_block-requires t c =
    let p = c.in-Procedure.procedure in
    let ss = source.statements_view c.as_slice-statements.result.now in
    let h = (source.unit_view p).heading in
    let end = (source.unit_view p).end in
    let is : source.body_view c.args.body.now ≡ tree.Procedure h ss end =
    ap source.body_view c.in-Procedure.is ∙ laws.procedure_body p
    ∙ ap (λ x. tree.Procedure h x end) (laws.unit_statements p ∙ ap source.statements_view (sym c.as_slice-statements.ensures.value)) in (
      omega (arith, c.decreases, ap body_size is),
      (
        c.requires.placed,
        (subst (λ b. HasRoom (next_at c.args.walk.now) (taken_of b)) is c.requires.room, omega arith),
      ),
    )

pub type_body-returns-in_ok-block-in-Procedure : goal.type_body-returns-in_ok-block-in-Procedure
type_body-returns-in_ok-block-in-Procedure t c =
    let p = c.in-Procedure.procedure in
    let ss = source.statements_view c.as_slice-statements.result.now in
    let h = (source.unit_view p).heading in
    let end = (out-Procedure p).end in
    let is : source.body_view c.args.body.now ≡ tree.Procedure h ss end =
    ap source.body_view c.in-Procedure.is ∙ laws.procedure_body p
    ∙ ap (λ x. tree.Procedure h x (source.unit_view p).end) (laws.unit_statements p ∙ ap source.statements_view (sym c.as_slice-statements.ensures.value))
    ∙ ap (λ (u : tree.ExternalProcedure). tree.Procedure h ss u.end) (laws.unit_out p) in
    subst (λ b. IfOk c.finish.result (λ form. WalksBody c.args.walk.now c.finish.new.walk c.args.number c.args.at b (option_map form_view form))) (sym is)
    (procedure_answer form_view c.finish.result c.args.walk.now _ _ c.args.number c.args.at end h ss _ c.in_ok-block-in-Procedure.block.head _
    (returned_is c.args.walk.now c.args.walk.now.next.block c.procedure.result c.procedure.ensures) c.in_ok-block-in-Procedure.ensures c.finish.ensures)

pub type_body-type_block-requires-in-Begin : goal.type_body-type_block-requires-in-Begin
type_body-type_block-requires-in-Begin t c =
    let b = c.in-Begin in
    let ss = source.statements_view c.as_slice.result.now in
    let is : source.body_view c.args.body.now ≡ tree.Begin ss b.end =
    ap source.body_view b.is ∙ laws.begin_made b.statements b.end ∙ ap (λ xs. tree.Begin (source.statements_view xs) b.end) (sym c.as_slice.ensures.value) in (
      omega (arith, c.decreases, ap body_size is),
      (
        c.requires.placed,
        (
          subst (λ b. HasRoom (next_at c.args.walk.now) (taken_of b)) is c.requires.room,
          omega (arith, c.requires.placed.deep),
        ),
      ),
    )

pub type_body-returns-in_ok-block-in-Begin : goal.type_body-returns-in_ok-block-in-Begin
type_body-returns-in_ok-block-in-Begin t c =
    let b = c.in-Begin in
    let w = c.args.walk.now in
    let ss = source.statements_view c.as_slice.result.now in
    let is : source.body_view c.args.body.now ≡ tree.Begin ss b.end =
    ap source.body_view b.is ∙ laws.begin_made b.statements b.end ∙ ap (λ xs. tree.Begin (source.statements_view xs) b.end) (sym c.as_slice.ensures.value) in
    let one_more : w.surroundings.begins + 1 ≡ suc w.surroundings.begins = omega arith in
    subst (λ x. WalksBody w c.type_block-in-Begin.new.walk c.args.number c.args.at x (option_map form_view c.begin_form.result)) (sym is)
    (as_typed _ _ _ _ _ _ _ _ refl refl c.begin_form.ensures
    (begin_walked w _ c.args.number c.args.at ss b.end (w.surroundings.begins + 1) c.in_ok-block-in-Begin.block.head _ one_more c.in_ok-block-in-Begin.ensures))

pub type_body-type_block-requires-in-On : goal.type_body-type_block-requires-in-On
type_body-type_block-requires-in-On t c =
    let b = c.in-On in
    let s = source.statement_view c.deref-in-On.result.now in
    let is : source.body_view c.args.body.now ≡ tree.On b.condition s =
    ap source.body_view b.is ∙ laws.on_made b.condition b.unit ∙ ap (λ s. tree.On b.condition (source.statement_view s)) (sym c.deref-in-On.ensures) in
    let list : source.statements_view c.from_ref-list.result.now ≡ spec.only s = ap source.statements_view c.from_ref-list.ensures.value in (
      omega (arith, c.decreases, ap body_size is, ap list_size list),
      (
        c.requires.placed,
        (
          subst (λ ss. HasRoom (next_at c.args.walk.now) (4 + taken_among ss)) (sym list)
              (room_on_unit (next_at c.args.walk.now) _ b.condition s is c.requires.room),
          omega arith,
        ),
      ),
    )

pub type_body-returns-in_ok-block-in-On : goal.type_body-returns-in_ok-block-in-On
type_body-returns-in_ok-block-in-On t c =
    let w = c.args.walk.now in
    let b = c.in-On in
    let s = source.statement_view c.deref-in-On.result.now in
    let made = c.in_ok-block-in-On.block in
    let is : source.body_view c.args.body.now ≡ tree.On b.condition s =
    ap source.body_view b.is ∙ laws.on_made b.condition b.unit ∙ ap (λ s. tree.On b.condition (source.statement_view s)) (sym c.deref-in-On.ensures) in
    let list : source.statements_view c.from_ref-list.result.now ≡ spec.only s = ap source.statements_view c.from_ref-list.ensures.value in
    subst (λ b. IfOk c.finish_on_unit.result (λ form. WalksBody w c.finish_on_unit.new.walk c.args.number c.args.at b (option_map form_view form))) (sym is)
    (unit_answer form_view c.finish_on_unit.result w _ _ c.args.number c.args.at b.condition s made.head _
    (subst (λ ss. WalksBlock w c.type_block-in-On.new.walk (in_block w true 0 None ss) c.args.number ss made.head
    (option_map (λ (list : Vec TypedStatement Global). statements_view list.items) made.list)) list c.in_ok-block-in-On.ensures)
    c.finish_on_unit.ensures)

-- groups

pub type_body-type_header-requires : goal.type_body-type_header-requires
type_body-type_header-requires t c =
    let b = c.in-Do in
    record {
      placed = c.requires.placed;
      room = room_header (next_at c.args.walk.now) _ _ _ _ (ap source.body_view b.is ∙ laws.do_made b.control b.statements b.end) c.requires.room;
    }

pub type_body-type_group-requires : goal.type_body-type_group-requires
type_body-type_group-requires t c =
    let b = c.in-Do in
    let ss = source.statements_view c.as_slice-in-Do.result.now in
    let is : source.body_view c.args.body.now ≡ tree.Do (option_map source.control_view b.control) ss b.end =
    ap source.body_view b.is ∙ laws.do_made b.control b.statements b.end
    ∙ ap (λ xs. tree.Do (option_map source.control_view b.control) (source.statements_view xs) b.end) (sym c.as_slice-in-Do.ensures.value) in (
      omega (arith, c.decreases, ap body_size is),
      (
        c.in_ok-header-in-Do.ensures.back.placed,
        subst (λ x. HasRoom x (taken_among ss)) (sym c.in_ok-header-in-Do.ensures.next)
            (room_controlled (next_at c.args.walk.now) (option_map source.control_view b.control) (taken_among ss)
            (subst (λ b. HasRoom (next_at c.args.walk.now) (taken_of b)) is c.requires.room)),
      ),
    )

pub type_body-returns-in_ok-list-in-Do : goal.type_body-returns-in_ok-list-in-Do
type_body-returns-in_ok-list-in-Do t c =
    let b = c.in-Do in
    let w = c.args.walk.now in
    let ss = source.statements_view c.as_slice-in-Do.result.now in
    let control = option_map source.control_view b.control in
    let is : source.body_view c.args.body.now ≡ tree.Do control ss b.end =
    ap source.body_view b.is ∙ laws.do_made b.control b.statements b.end
    ∙ ap (λ xs. tree.Do control (source.statements_view xs) b.end) (sym c.as_slice-in-Do.ensures.value) in
    subst (λ x. WalksBody w c.type_group.new.walk c.args.number c.args.at x (option_map form_view c.group_form.result)) (sym is)
    (as_typed _ _ _ _ _ _ _ _ refl refl c.group_form.ensures
    (do_walked w _ _ c.args.number c.args.at control ss b.end (option_map header_view c.in_ok-header-in-Do.header)
    (option_map (λ (list : Vec TypedStatement Global). statements_view list.items) c.in_ok-list-in-Do.list) c.in_ok-header-in-Do.ensures c.in_ok-list-in-Do.ensures))

pub type_group-type_statements-requires : goal.type_group-type_statements-requires
type_group-type_statements-requires t c = (
  omega (arith, c.decreases),
  (
    group_placed c.args.walk.now _ c.in_ok-labels.labels.items c.requires.placed refl (in_group_around c.args.walk.now.surroundings c.enter.new.self _ _ refl c.in_ok-enter.ensures.lists c.enter.ensures.begins c.enter.ensures.value) refl refl,
    c.requires.room,
  ),
)

pub type_group-returns : goal.type_group-returns
type_group-returns t c =
    let ss = source.statements_view c.args.statements.now in
    group_walked c.args.walk.now _ _ _ ss _ c.requires.placed refl
    (in_group_around c.args.walk.now.surroundings c.enter.new.self _ _ c.in_ok-labels.ensures c.in_ok-enter.ensures.lists c.enter.ensures.begins c.enter.ensures.value) refl refl refl refl
    c.in_ok-list.ensures refl c.leave.ensures.lists c.leave.ensures.begins (ap (option_map (λ d. description_view d.now)) c.leave.ensures.value)
    refl refl refl refl

-- an IF

pub type_body-type_condition-requires : goal.type_body-type_condition-requires
type_body-type_condition-requires t c = c.requires.placed

pub type_body-type_statement-requires : goal.type_body-type_statement-requires
type_body-type_statement-requires t c =
    let b = c.in-If in
    let is = ap source.body_view b.is ∙ laws.if_made b.condition b.consequence b.alternative in (
      omega (arith, c.decreases, ap body_size is, ap (λ s. statement_size (source.statement_view s)) c.deref.ensures),
      (
        c.in_ok-tested-in-If.ensures.back.placed,
        room_first (next_at c.type_condition.new.walk) (taken_in (source.statement_view c.deref.result.now)) (taken_else (laws.boxed_view b.alternative))
            (room_if (next_at c.args.walk.now) _ _ (syntax.expression_view b.condition) (source.statement_view b.consequence.value) _ (laws.boxed_view b.alternative) is
            c.in_ok-tested-in-If.ensures.next (ap source.statement_view c.deref.ensures) c.requires.room),
      ),
    )

pub type_body-type_statement-requires-in-Some : goal.type_body-type_statement-requires-in-Some
type_body-type_statement-requires-in-Some t c =
    let b = c.in-If in
    let is = ap source.body_view b.is ∙ laws.if_made b.condition b.consequence b.alternative in (
      omega (arith, c.decreases, ap body_size is, ap (λ a. alternative_size (laws.boxed_view a)) c.in-Some.is, ap (λ s. statement_size (source.statement_view s)) c.deref-in-Some.ensures),
      (
        c.in_ok-typed-in-If.ensures.back.placed,
        room_else _ _ _ (source.statement_view c.deref.result.now) (laws.boxed_view b.alternative) (source.statement_view c.in-Some.statement.value) _ c.in_ok-typed-in-If.ensures.next
            (ap laws.boxed_view c.in-Some.is) (ap source.statement_view c.deref-in-Some.ensures)
            (room_if (next_at c.args.walk.now) _ _ (syntax.expression_view b.condition) (source.statement_view b.consequence.value) _ (laws.boxed_view b.alternative) is
            c.in_ok-tested-in-If.ensures.next (ap source.statement_view c.deref.ensures) c.requires.room),
      ),
    )

-- statements without statements in them

pub type_body-returns-in_default : goal.type_body-returns-in_default
type_body-returns-in_default t c =
    simple_answer form_view c.type_simple.result c.args.walk.now _ c.args.number c.args.at (source.body_view c.args.body.now)
    c.type_simple.ensures.simple c.type_simple.ensures.walked

-- lists

pub type_statements-loop-statement-init : goal.type_statements-loop-statement-init
type_statements-loop-statement-init t c =
    record {
      back = record { naming = refl; around = refl; globals = refl; placed = c.requires.placed };
      goes = λ new part w. subst (λ ts. WalksList c.args.walk.now new (around c.args.walk.now) (source.statements_view c.args.statements.now) (in_front true (map statement_view ts) part))
          (sym c.new-typed.ensures.items) (goes_on_first c.args.walk.now (source.statements_view c.args.statements.now) new part w);
      room = c.requires.room;
    }

pub type_statements-type_statement-requires : goal.type_statements-type_statement-requires
type_statements-type_statement-requires t c =
    let ss = c.args.statements.now in
    let l = c.loop-statement in
    let inside : l.statement-index < length ss = omega arith in (
      omega (arith, c.decreases, item_size ss l.statement-index c.statement-item.result inside c.statement-item.is),
      (
        l.invariant.back.placed,
        room_first (next_at l.walk) (taken_in (source.statement_view c.statement-item.result)) (taken_among (source.statements_view (drop (l.statement-index + 1) ss)))
            (room_next (next_at l.walk) ss l.statement-index c.statement-item.result c.statement-item.is inside l.invariant.room),
      ),
    )

pub type_statements-loop-statement-preserved : goal.type_statements-loop-statement-preserved
type_statements-loop-statement-preserved t c =
    let ss = c.args.statements.now in
    let l = c.loop-statement in
    let i = l.statement-index in
    let s = c.statement-item.result in
    let kept = c.in_ok-is_kept.is_kept in
    let inside : i < length ss = omega arith in
    let both : c.if-complete.complete ≡ (l.complete && kept) =
    elim c.if-complete.branch [ type_statements-then-complete w ↦ w.complete-is ∙ sym (ap (λ b. b && kept) w.if-complete.true) | type_statements-else-complete w ↦ w.complete-is ∙ w.if-complete.false ∙ sym (ap (λ b. b && kept) w.if-complete.false) ] in
    record {
      back = back_then c.args.walk.now l.walk _ l.invariant.back c.in_ok-kept.ensures.back;
      goes = goes_on_next c.args.walk.now l.walk _ l.complete kept c.if-complete.complete c.leaves_nothing-leaves_nothing.result (map statement_view l.typed.items)
          (map statement_view c.keep.new.statements.items) (source.statements_view ss) ss i s (option_map statement_view c.in_ok-kept.kept)
          c.statement-item.is inside c.leaves_nothing-leaves_nothing.ensures c.in_ok-is_kept.ensures.kept both c.in_ok-is_kept.ensures.statements
          c.in_ok-kept.ensures l.invariant.goes;
      room = subst (λ x. HasRoom x (taken_among (source.statements_view (drop (i + 1) ss)))) (sym c.in_ok-kept.ensures.next)
          (room_after (based_names l.walk) (next_at l.walk) (source.statement_view s) _ (room_next (next_at l.walk) ss i s c.statement-item.is inside l.invariant.room));
    }

pub type_statements-returns : goal.type_statements-returns
type_statements-returns t c =
    let ss = c.args.statements.now in
    let l = c.loop-statement in
    let all = source.statements_view ss in
    let past : length ss ≤ l.statement-index = omega arith in
    elim c.if-complete-2.branch [ type_statements-then-complete-2 w ↦ subst (λ o. WalksList c.args.walk.now l.walk (around c.args.walk.now) all (option_map (λ (list : Vec TypedStatement Global). statements_view list.items) o)) (sym w.result-is) (all_walked c.args.walk.now l.walk l.complete l.typed.items all ss l.statement-index past w.if-complete-2.true l.invariant.back.placed l.invariant.goes) | type_statements-else-complete-2 w ↦ subst (λ o. WalksList c.args.walk.now l.walk (around c.args.walk.now) all (option_map (λ (list : Vec TypedStatement Global). statements_view list.items) o)) (sym w.result-is) (none_walked c.args.walk.now l.walk l.complete l.typed.items all ss l.statement-index past w.if-complete-2.false l.invariant.back.placed l.invariant.goes) ]

pub type_body-returns-in-None : goal.type_body-returns-in-None
type_body-returns-in-None t c =
    let w = c.args.walk.now in
    let b = c.in-If in
    let e = syntax.expression_view b.condition in
    let s = source.statement_view b.consequence.value in
    let s' = source.statement_view c.deref.result.now in
    let is : source.body_view c.args.body.now ≡ tree.If e s tree.NoElse =
    ap source.body_view b.is ∙ laws.if_made b.condition b.consequence b.alternative ∙ ap (λ a. tree.If e s (laws.boxed_view a)) c.in-None.is in
    let tested = c.in_ok-tested-in-If.ensures in
    let done = as_typed _ _ _ _ _ _ _ _ refl refl c.in_ok-consequence-in-If.ensures c.in_ok-typed-in-If.ensures in
    let mid = c.type_condition.new.walk in
    let new = c.type_statement.new.walk in
    subst (λ x. WalksBody w new c.args.number c.args.at x (option_map form_view c.if_form.result)) (sym is)
    (as_typed w new _ _ _ _ _ _ (if_next_none w mid new s s' (ap source.statement_view c.deref.ensures) e (same_based w mid tested.back.naming) tested.next done.next) refl c.if_form.ensures
    (if_walked w mid new new _ _ (next_at new) (spec.condition (spec.naming_at (unit_at w) (around w)) e) _ _ _ _ _ _ _ tested done
    (nothing_walked new (next_at new) plain.NoElse done.back.placed refl)
    (moved (λ u a x. spec.statement_typed u a x s') w mid _ tested.back tested.next
    ∙ ap (λ s. spec.statement_typed (unit_at w) (around w) (next_at w) (source.statement_view s)) c.deref.ensures) refl))

pub type_body-returns-in_ok-other-in-Some-2 : goal.type_body-returns-in_ok-other-in-Some-2
type_body-returns-in_ok-other-in-Some-2 t c =
    let w = c.args.walk.now in
    let b = c.in-If in
    let e = syntax.expression_view b.condition in
    let s = source.statement_view b.consequence.value in
    let o = source.statement_view c.in-Some.statement.value in
    let s' = source.statement_view c.deref.result.now in
    let o' = source.statement_view c.deref-in-Some.result.now in
    let is : source.body_view c.args.body.now ≡ tree.If e s (tree.Else o) =
    ap source.body_view b.is ∙ laws.if_made b.condition b.consequence b.alternative ∙ ap (λ a. tree.If e s (laws.boxed_view a)) c.in-Some.is in
    let tested = c.in_ok-tested-in-If.ensures in
    let done = as_typed _ _ _ _ _ _ _ _ refl refl c.in_ok-consequence-in-If.ensures c.in_ok-typed-in-If.ensures in
    let other = c.in_ok-other-in-Some.ensures in
    let mid = c.type_condition.new.walk in
    let there = c.type_statement.new.walk in
    let new = c.type_statement-in-Some.new.walk in
    subst (λ x. WalksBody w new c.args.number c.args.at x (option_map form_view c.if_form-in-Some.result)) (sym is)
    (as_typed w new _ _ _ _ _ _ (sym other.next ∙ if_next_some w mid there new s s' o o'
    (ap source.statement_view c.deref.ensures) (ap source.statement_view c.deref-in-Some.ensures) e (same_based w mid tested.back.naming)
    (same_based w there (done.back.naming ∙ tested.back.naming)) tested.next done.next other.next) refl c.if_form-in-Some.ensures
    (if_walked w mid there new _ _ _ (spec.condition (spec.naming_at (unit_at w) (around w)) e) _ _ _ _ _ _ _ tested done
    (as_typed there new _ _ _ _ _ _ refl refl c.in_ok-other-in-Some-2.ensures (made_walked plain.Else there new _ _ _ other))
    (moved (λ u a x. spec.statement_typed u a x s') w mid _ tested.back tested.next
    ∙ ap (λ s. spec.statement_typed (unit_at w) (around w) (next_at w) (source.statement_view s)) c.deref.ensures)
    (ap (spec.made plain.Else) (moved (λ u a x. spec.statement_typed u a x o') w there (next_after (based_names w) (next_at w) s) (back_then w mid there tested.back done.back)
    (done.next ∙ ap (λ f. next_after f (next_at mid) s') (same_based w mid tested.back.naming)
    ∙ ap (λ s. next_after (based_names w) (next_at mid) (source.statement_view s)) c.deref.ensures ∙ ap (λ n. next_after (based_names w) n s) tested.next)
    ∙ ap (λ z. spec.statement_typed (unit_at w) (around w) (next_after (based_names w) (next_at w) s) (source.statement_view z)) c.deref-in-Some.ensures))))
