use Rattle.std.proofs.Common.{◌≡◌, ◌++◌, map, drop}
use Rattle.std.specs.List.{flat_map}
use Rattle.pli_base.specs.views.SyntaxView.{expression_view}
use Rattle.pli_declare_outline.specs.Outlines.{placed, expression_marks}
use Rattle.pli_declare_outline.specs.views.OutlineView.{marks_view}
use Rattle.pli_declare_outline.proofs.statements.mark_items.Given as goal

-- the marks so far, and those of what is left
abbrev pub invariant-loop-item : goal.invariant-loop-item
invariant-loop-item l =
    marks_view l.marks.items ++ placed l.here (flat_map expression_marks (map expression_view (drop l.item-index l.items)))
    ≡ marks_view l.initial.marks.items ++ placed l.here (flat_map expression_marks (map expression_view l.items))
