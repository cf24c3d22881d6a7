use Rattle.std.proofs.Common.{◌≡◌, ◌++◌, [], take, drop}
use Rattle.pli_declare_outline.specs.views.OutlineView.{outline_view, marks_view}
use Rattle.pli_declare.specs.Resolution.{declared_by, faults_after}
use Rattle.pli_declare.specs.Resolved.{of_marks, uses_at}
use Rattle.pli_declare_faults.specs.answers.Walks.{of_blocks}
use Rattle.pli_declare_faults.proofs.marks.tell_marks.Given as goal

-- how many names each block has declared so far; the faults so far in front of those of what is left, and so
-- the uses
abbrev pub invariant-loop-placed : goal.invariant-loop-placed
invariant-loop-placed l =
    let o = outline_view l.scopes.outline.now in
    let before = marks_view (take l.placed-index l.marks) in
    record {
      next : l.next.items ≡ of_blocks o (λ b. declared_by o b before);
      told : l.faults.items ++ faults_after o before (marks_view (drop l.placed-index l.marks)) ≡ l.initial.faults.items ++ faults_after o [] (marks_view l.marks);
      used : l.uses.items ++ of_marks (uses_at o) (marks_view (drop l.placed-index l.marks)) ≡ l.initial.uses.items ++ of_marks (uses_at o) (marks_view l.marks);
    }
