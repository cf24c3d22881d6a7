use Rattle.std.proofs.Common.{nat_eq, take}
use Rattle.indexmap.specs.IndexMap.{get}
use Rattle.pli_declare_outline.specs.views.OutlineView.{marks_view}
use Rattle.pli_type_templates.specs.NotedNames.{NoteMarks}
use Rattle.pli_type_templates.proofs.item_numbers.note_marks.Given as goal

-- the names of the marks so far are noted
abbrev pub invariant-loop-number : goal.invariant-loop-number
invariant-loop-number l = NoteMarks (get nat_eq l.numbers) (take l.number (marks_view l.marks))
