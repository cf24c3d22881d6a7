use Rattle.std.proofs.Common.{◌≡◌, ◌++◌, map, drop}
use Rattle.std.specs.List.{flat_map}
use Rattle.pli_base.specs.views.StatementView.{allocation_view}
use Rattle.pli_declare_outline.specs.Outlines.{placed, allocation_marks}
use Rattle.pli_declare_outline.specs.views.OutlineView.{marks_view}
use Rattle.pli_declare_outline.proofs.statements.mark_allocations.Given as goal

-- the marks so far, and those of what is left
abbrev pub invariant-loop-allocation : goal.invariant-loop-allocation
invariant-loop-allocation l =
    marks_view l.marks.items ++ placed l.here (flat_map allocation_marks (map allocation_view (drop l.allocation-index l.allocations)))
    ≡ marks_view l.initial.marks.items ++ placed l.here (flat_map allocation_marks (map allocation_view l.allocations))
