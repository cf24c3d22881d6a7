use Rattle.std.proofs.Common.{map}
use Rattle.std.proofs.lemmas.Result.{err_from_is_err_and}
use Rattle.pli_type_names.specs.UnitNaming.{naming_in}
use Rattle.pli_type_tree.specs.views.TypedView.{expression_view}
use Rattle.pli_type_expression.specs.views.SegmentView.{locator_view}
use Rattle.pli_type_operands.specs.views.TypingView.{referent_view, role_view}
use Rattle.pli_type_expression.proofs.MeaningLemmas.{ended_at_variable, ended_with_fault}
use Rattle.pli_type_expression.proofs.segment.Segment.ended.Goals as goal

pub returns-in_err-referent-in-Variable : goal.returns-in_err-referent-in-Variable
returns-in_err-referent-in-Variable c =
    let b = c.in-Named in
    let v = c.in-Variable in
    let n = naming_in c.args.naming.now in
    let p = err_from_is_err_and c.from_residual.result c.from_residual.ensures.1 in
    rw (p.1, p.2, b.is)
    (ended_with_fault (n.meaning b.at) v.variable v.ensures (role_view c.args.role) (locator_view b.locator) b.at (map expression_view b.subscripts.items) c.in_err-referent-in-Variable.field-0.0 c.in_err-referent-in-Variable.ensures)

pub returns-in_ok-referent-in-Variable : goal.returns-in_ok-referent-in-Variable
returns-in_ok-referent-in-Variable c =
    let b = c.in-Named in
    let v = c.in-Variable in
    let n = naming_in c.args.naming.now in
    rw b.is
    (ended_at_variable (n.meaning b.at) v.variable v.ensures (role_view c.args.role) (locator_view b.locator) b.at (map expression_view b.subscripts.items) (referent_view c.in_ok-referent-in-Variable.referent) c.in_ok-referent-in-Variable.ensures)
