use Rattle.std.proofs.Common.{◌∷◌, ◌+◌, drop, ap, ◌∙◌, sym}
use Rattle.std.proofs.lemmas.List.{drop_all, drop_more}
use Rattle.std.proofs.lemmas.Result.{on_ok_weaker}
use Rattle.pli_base.specs.Statements as tree
use Rattle.pli_base.specs.views.SyntaxView.{expression_view}
use Rattle.pli_base.specs.views.StatementView.{body_view, statement_view, statements_view, unit_view}
use Rattle.pli_base.specs.laws.StatementLaws.{begin_made, do_made, if_made, on_made, boxed_view, unit_statements, procedure_body}
use Rattle.pli_base.specs.declared.statement.Procedure.{out-Procedure}
use Rattle.pli_declare_outline.specs.Outlines.{label_marks, regions_among, regions_in}
use Rattle.pli_declare_outline.specs.Walks.{of_statement, of_statements, until_end}
use Rattle.pli_declare_outline.proofs.UnitParts.{end_out}
use Rattle.pli_declare_outline.proofs.WalkLemmas.{procedure, block, group, region_walked, marks_then, place_then, then_end, region_then, statements_then, none_walked, nothing_walked, if_walked, unit_walked}
use Rattle.pli_declare_outline.proofs.walk.+walk.Goals as goal

pub walk_statement-returns : goal.walk_statement-returns
walk_statement-returns t c =
    let s = c.args.statement.now in
    on_ok_weaker
    c.walk_body.result
    (λ w. place_then (record { number = s.number; region = c.args.here; label = s.label }) _ _ _ _ _ _ _ _ _ c.in_ok-push.ensures.items
    (marks_then c.args.here (label_marks s.label (body_view s.body)) _ _ _ _ _ _ _ _ _ c.in_ok-mark_label.ensures w))
    c.walk_body.ensures

pub walk_statements-loop-statement-init : goal.walk_statements-loop-statement-init
walk_statements-loop-statement-init t c = λ regions marks places w. w

pub walk_statements-loop-statement-preserved : goal.walk_statements-loop-statement-preserved
walk_statements-loop-statement-preserved t c =
    let l = c.loop-statement in
    let x = c.statement-item.result in
    let step = drop_more c.args.statements.now l.statement-index x c.loop-statement-test.true
    ∙ ap (λ y. y ∷ drop (l.statement-index + 1) c.args.statements.now) (sym c.statement-item.is) in
    λ regions marks places w. l.invariant regions marks places (statements_then c.args.here x _ _ _ _ _ _ _ _ _ _ _ step c.in_ok-walk_statement.ensures w)

pub walk_statements-returns : goal.walk_statements-returns
walk_statements-returns t c =
    let l = c.loop-statement in
    l.invariant _ _ _ (none_walked c.args.here _ _ _ _ (drop_all l.statement-index c.args.statements.now c.loop-statement-test.false))

pub walk_region-returns : goal.walk_region-returns
walk_region-returns t c =
    let ss = statements_view c.args.statements.now in
    region_then c.args.region c.len-number.result (regions_among ss) c.args.regions.now.items _ _ _ _ _ _
    (λ n m. until_end (of_statements n m ss) n c.args.end)
    (c.len-number.ensures ∙ c.args.regions.now.ok.0) c.in_ok-push.ensures.items
    (then_end c.len-number.result c.args.end _ _ _ _ _ _ _ _ _ c.in_ok-push-2.ensures.items c.in_ok-walk_statements.ensures)

pub walk_on_unit-returns : goal.walk_on_unit-returns
walk_on_unit-returns t c =
    let s = statement_view c.args.statement.now in
    on_ok_weaker
    c.walk_statement.result
    (region_then c.args.region c.len-number.result (regions_in s) c.args.regions.now.items _ _ _ _ _ _
    (λ n m. of_statement n m s)
    (c.len-number.ensures ∙ c.args.regions.now.ok.0) c.in_ok-push.ensures.items)
    c.walk_statement.ensures

pub walk_body-returns-in-Procedure : goal.walk_body-returns-in-Procedure
walk_body-returns-in-Procedure t c =
    let p = c.in-Procedure.procedure in
    on_ok_weaker
    c.walk_region.result
    (region_walked c.args.here c.args.number c.len.result _ _ _ _ _ _ _ _ _ _ _ _ _ _
    (procedure (unit_view p).heading (unit_view p).statements (out-Procedure p).end)
    (ap body_view c.in-Procedure.is ∙ procedure_body p ∙ ap (λ n. tree.Procedure (unit_view p).heading (unit_view p).statements n) (end_out p))
    (ap statements_view c.as_slice-statements.ensures.value ∙ sym (unit_statements p))
    c.inner-region.ensures
    (c.len.ensures ∙ c.args.regions.now.ok.0)
    c.in_ok-mark_head.ensures)
    c.walk_region.ensures

pub walk_body-returns-in-Begin : goal.walk_body-returns-in-Begin
walk_body-returns-in-Begin t c =
    let b = c.in-Begin in
    on_ok_weaker
    c.walk_region-in-Begin.result
    (region_walked c.args.here c.args.number c.len.result _ _ _ _ _ _ _ _ _ _ _ _ _ _
    (block (statements_view b.statements.items) b.end)
    (ap body_view b.is ∙ begin_made b.statements b.end)
    (ap statements_view c.as_slice-statements-in-Begin.ensures.value)
    c.inner-region-in-Begin.ensures
    (c.len.ensures ∙ c.args.regions.now.ok.0)
    c.in_ok-mark_head.ensures)
    c.walk_region-in-Begin.ensures

pub walk_body-returns-in-Do : goal.walk_body-returns-in-Do
walk_body-returns-in-Do t c =
    let b = c.in-Do in
    on_ok_weaker
    c.walk_region-in-Do.result
    (region_walked c.args.here c.args.number c.len.result _ _ _ _ _ _ _ _ _ _ _ _ _ _
    (group _ (statements_view b.statements.items) b.end)
    (ap body_view b.is ∙ do_made b.control b.statements b.end)
    (ap statements_view c.as_slice-statements-in-Do.ensures.value)
    c.inner-region-in-Do.ensures
    (c.len.ensures ∙ c.args.regions.now.ok.0)
    c.in_ok-mark_head.ensures)
    c.walk_region-in-Do.ensures

pub walk_body-returns-in-None : goal.walk_body-returns-in-None
walk_body-returns-in-None t c =
    let b = c.in-If in
    if_walked c.args.here c.args.number c.len.result (expression_view b.condition) _ tree.NoElse _ _ _ _ _ _ _ _ _ _ _
    (ap body_view b.is ∙ if_made b.condition b.consequence b.alternative
    ∙ ap (λ s. tree.If (expression_view b.condition) (statement_view s) (boxed_view b.alternative)) (sym c.deref.ensures)
    ∙ ap (λ a. tree.If (expression_view b.condition) (statement_view c.deref.result.now) (boxed_view a)) c.in-None.is)
    c.in_ok-mark_head.ensures
    c.in_ok-walk_statement-in-If.ensures
    (nothing_walked _ _ _)

pub walk_body-returns-in-Some : goal.walk_body-returns-in-Some
walk_body-returns-in-Some t c =
    let b = c.in-If in
    let first = statement_view c.deref.result.now in
    on_ok_weaker
    c.walk_statement-in-Some.result
    (if_walked c.args.here c.args.number c.len.result (expression_view b.condition) _ _ _ _ _ _ _ _ _ _ _ _ _
    (ap body_view b.is ∙ if_made b.condition b.consequence b.alternative
    ∙ ap (λ s. tree.If (expression_view b.condition) (statement_view s) (boxed_view b.alternative)) (sym c.deref.ensures)
    ∙ ap (λ a. tree.If (expression_view b.condition) first (boxed_view a)) c.in-Some.is
    ∙ ap (λ s. tree.If (expression_view b.condition) first (tree.Else (statement_view s))) (sym c.deref-in-Some.ensures))
    c.in_ok-mark_head.ensures
    c.in_ok-walk_statement-in-If.ensures)
    c.walk_statement-in-Some.ensures

pub walk_body-returns-in-On : goal.walk_body-returns-in-On
walk_body-returns-in-On t c =
    let b = c.in-On in
    on_ok_weaker
    c.walk_on_unit.result
    (unit_walked c.args.here c.args.number c.len.result b.condition _ _ _ _ _ _ _ _ _ _
    (ap body_view b.is ∙ on_made b.condition b.unit ∙ ap (λ s. tree.On b.condition (statement_view s)) (sym c.deref-in-On.ensures))
    c.inner-region-in-On.ensures
    c.in_ok-mark_head.ensures)
    c.walk_on_unit.ensures
