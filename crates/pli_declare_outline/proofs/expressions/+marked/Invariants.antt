use Rattle.std.proofs.Common.{◌≡◌, ◌++◌, drop}
use Rattle.pli_base.specs.views.SyntaxView.{expressions_view, joined_view}
use Rattle.pli_declare_outline.specs.Outlines.{placed, joined_marks, list_marks}
use Rattle.pli_declare_outline.specs.views.OutlineView.{marks_view}
use Rattle.pli_declare_outline.proofs.expressions.+marked.Given as goal

-- the marks so far, and those of what is left
abbrev pub invariant-mark_expressions-loop-expression : goal.invariant-mark_expressions-loop-expression
invariant-mark_expressions-loop-expression l =
    marks_view l.marks.items ++ placed l.here (list_marks (expressions_view (drop l.expression-index l.list)))
    ≡ marks_view l.initial.marks.items ++ placed l.here (list_marks (expressions_view l.list))

abbrev pub invariant-mark_joined-loop-place : goal.invariant-mark_joined-loop-place
invariant-mark_joined-loop-place l =
    marks_view l.marks.items ++ placed l.here (joined_marks (joined_view (drop l.place l.joined)))
    ≡ marks_view l.initial.marks.items ++ placed l.here (joined_marks (joined_view l.joined))
