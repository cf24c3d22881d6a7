use Rattle.std.proofs.Common.{◌≡◌, map, take}
use Rattle.std.specs.List.{flat_map}
use Rattle.pli_declare_outline.specs.views.OutlineView.{outline_view, marks_view}
use Rattle.pli_declare.specs.Resolution.{headed}
use Rattle.pli_declare_faults.specs.answers.Walks.{of_blocks}
use Rattle.pli_declare_faults.proofs.parameters.parameters.Given as goal

-- the parameters by the marks so far
abbrev pub invariant-loop-placed : goal.invariant-loop-placed
invariant-loop-placed l =
    map (λ list. list.items) l.all.items ≡ of_blocks (outline_view l.outline) (λ b. flat_map (λ p. headed b p.mark) (marks_view (take l.placed-index l.outline.marks.items)))
