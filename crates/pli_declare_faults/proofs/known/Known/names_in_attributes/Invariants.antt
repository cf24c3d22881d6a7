use Rattle.std.proofs.Common.{◌≡◌, ◌++◌, map, take, drop}
use Rattle.pli_declare_outline.specs.views.OutlineView.{outline_view, marks_view}
use Rattle.pli_declare.specs.Resolved.{of_marks, areas_at, locators_at}
use Rattle.pli_declare_faults.specs.answers.Walks.{of_blocks}
use Rattle.pli_declare_faults.proofs.GoodnessOfBlocks.{so_far}
use Rattle.pli_declare_faults.proofs.known.Known.names_in_attributes.Given as goal

-- the answers for the names of the marks so far; the uses so far in front of those of what is left
abbrev pub invariant-loop-placed : goal.invariant-loop-placed
invariant-loop-placed l =
    let o = outline_view l.self.scopes.outline.now in
    let all = marks_view l.marks in
    let left = marks_view (drop l.placed-index l.marks) in
    record {
      good : map (λ list. list.items) l.all.items ≡ of_blocks o (so_far o (marks_view (take l.placed-index l.marks)));
      areas : l.areas.items ++ of_marks (areas_at o) left ≡ l.initial.areas.items ++ of_marks (areas_at o) all;
      locators : l.locators.items ++ of_marks (locators_at o) left ≡ l.initial.locators.items ++ of_marks (locators_at o) all;
    }
