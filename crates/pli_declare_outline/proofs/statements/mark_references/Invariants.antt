use Rattle.std.proofs.Common.{◌≡◌, ◌++◌, map, drop}
use Rattle.std.specs.List.{flat_map}
use Rattle.pli_base.specs.views.SyntaxView.{reference_view}
use Rattle.pli_declare_outline.specs.Outlines.{placed, reference_marks}
use Rattle.pli_declare_outline.specs.views.OutlineView.{marks_view}
use Rattle.pli_declare_outline.proofs.statements.mark_references.Given as goal

-- the marks so far, and those of what is left
abbrev pub invariant-loop-reference : goal.invariant-loop-reference
invariant-loop-reference l =
    marks_view l.marks.items ++ placed l.here (flat_map reference_marks (map reference_view (drop l.reference-index l.references)))
    ≡ marks_view l.initial.marks.items ++ placed l.here (flat_map reference_marks (map reference_view l.references))
