use Rattle.std.proofs.Common.{◌++◌, ◌∷◌, ap, ◌∙◌}
use Rattle.std.proofs.lemmas.Result.{on_ok_weaker}
use Rattle.pli_base.specs.views.SyntaxView.{joined_view}
use Rattle.pli_base.specs.declared.syntax.Reference.{out-Reference}
use Rattle.pli_declare_outline.specs.Outlines.{placed, member_names, joined_marks}
use Rattle.pli_declare_outline.specs.views.NamesView.{names_view}
use Rattle.pli_declare_outline.specs.views.OutlineView.{marks_view}
use Rattle.pli_declare_outline.proofs.MarkLemmas.{reference_marked}
use Rattle.pli_declare_outline.proofs.expressions.+marked.Goals as goal

pub mark_reference-returns : goal.mark_reference-returns
mark_reference-returns t c =
    let x = out-Reference c.args.reference.now in
    on_ok_weaker
    c.mark_joined.result
    (λ l. reference_marked c.args.here c.args.reference.now (names_view c.in_ok-names.names) (marks_view c.args.marks.now.items) (marks_view c.mark.new.marks.items) (marks_view c.mark_arguments.new.marks.items) (marks_view c.mark_joined.new.marks.items)
    (c.in_ok-names.ensures ∙ ap (λ xs. x.first.name ∷ member_names (joined_view xs)) c.as_slice.ensures.value)
    c.in_ok-mark.ensures
    c.in_ok-mark_arguments.ensures
    (l ∙ ap (λ xs. marks_view c.mark_arguments.new.marks.items ++ placed c.args.here (joined_marks (joined_view xs))) c.as_slice-2.ensures.value))
    c.mark_joined.ensures
