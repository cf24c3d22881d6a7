use Rattle.std.proofs.Common.{◌≡◌, ℕ, List, map, option_map, take_all, ap, ◌∙◌, sym, arith}
use Rattle.std.proofs.lemmas.Result.{IfOk-weaker}
use Rattle.pli_base.specs.declared.syntax.Identifier.{Identifier}
use Rattle.pli_base.specs.Statements as tree
use Rattle.pli_base.specs.views.StatementView.{control_view, option_view, body_view, statement_view, statements_view}
use Rattle.pli_base.specs.laws.StatementLaws.{begin_made, do_made, unit_made, unit_out}
use Rattle.pli_base.specs.declared.statement.Procedure.{out-Procedure}
use Rattle.pli_copy.proofs.AlikeLemmas.{one_more, statements_alike}
use Rattle.pli_copy.proofs.statement.+copied.Goals as goal

abbrev whole : Identifier → ℕ → List Identifier → List tree.ProcedureOption → tree.Statements → ℕ → tree.ExternalProcedure
whole name number parameters options statements end = record { heading = record { name = name; number = number; parameters = parameters; options = options }; statements = statements; end = end }

-- a procedure, part by part
same_parts : (name : Identifier) (number : ℕ) (ps qs : List Identifier) (os us : List tree.ProcedureOption) (ss ts : tree.Statements) (end : ℕ)
    → ps ≡ qs → os ≡ us → ss ≡ ts → whole name number ps os ss end ≡ whole name number qs us ts end
same_parts name number ps qs os us ss ts end p o s =
    ap (λ x. whole name number x os ss end) p ∙ ap (λ x. whole name number qs x ss end) o ∙ ap (λ x. whole name number qs us x end) s

pub copied_statements-returns : goal.copied_statements-returns
copied_statements-returns t c =
    let l = c.loop-statement in
    let xs = c.args.statements.now in
    statements_alike l.copied.items xs (l.invariant ∙ ap (map statement_view) (take_all l.statement-index xs (omega arith)))

pub copied_block-returns : goal.copied_block-returns
copied_block-returns t c =
    begin_made c.in_ok-statements.statements c.args.end ∙ ap (λ ss. tree.Begin ss c.args.end) c.in_ok-statements.ensures

pub copied_group-returns : goal.copied_group-returns
copied_group-returns t c =
    let control = c.in_ok-control.control in
    do_made control c.in_ok-statements.statements c.args.end
    ∙ ap (λ ss. tree.Do (option_map control_view control) ss c.args.end) c.in_ok-statements.ensures
    ∙ ap (λ k. tree.Do k (statements_view c.args.statements.now) c.args.end) c.in_ok-control.ensures

pub copied_procedure-returns : goal.copied_procedure-returns
copied_procedure-returns t c =
    let x = out-Procedure c.args.procedure.now in
    let parameters = c.in_ok-parameters.parameters in
    let options = c.in_ok-options.options in
    let statements = c.in_ok-statements.statements in
    unit_made x.name x.number parameters options statements x.end
    ∙ same_parts x.name x.number _ _ _ _ _ _ x.end
    (c.in_ok-parameters.ensures.items ∙ c.as_slice.ensures.value)
    (c.in_ok-options.ensures ∙ ap (map option_view) c.as_slice-2.ensures.value)
    (c.in_ok-statements.ensures ∙ ap statements_view c.as_slice-3.ensures.value)
    ∙ sym (unit_out c.args.procedure.now)

pub copied_body-returns-in-Begin : goal.copied_body-returns-in-Begin
copied_body-returns-in-Begin t c =
    let b = c.in-Begin in
    IfOk-weaker
    c.copied_block.result _ _
    (λ x e. e ∙ ap (λ ss. tree.Begin (statements_view ss) b.end) c.as_slice-in-Begin.ensures.value ∙ sym (ap body_view b.is ∙ begin_made b.statements b.end))
    c.copied_block.ensures

pub copied_body-returns-in-Do : goal.copied_body-returns-in-Do
copied_body-returns-in-Do t c =
    let b = c.in-Do in
    IfOk-weaker
    c.copied_group.result _ _
    (λ x e. e ∙ ap (λ ss. tree.Do (option_map control_view b.control) (statements_view ss) b.end) c.as_slice-in-Do.ensures.value ∙ sym (ap body_view b.is ∙ do_made b.control b.statements b.end))
    c.copied_group.ensures

pub copied_statements-loop-statement-preserved : goal.copied_statements-loop-statement-preserved
copied_statements-loop-statement-preserved t c =
    let l = c.loop-statement in
    one_more statement_view c.push.new.self.items l.copied.items c.in_ok-copied_statement.field-0 c.statement-item.result c.args.statements.now l.statement-index
    c.loop-statement-test.true c.statement-item.is c.in_ok-push.ensures.items c.in_ok-copied_statement.ensures l.invariant
