use Rattle.std.proofs.Common.{nat_eq, take}
use Rattle.indexmap.specs.IndexMap.{get}
use Rattle.pli_type_templates.specs.NotedNames.{KeepNotes, NoteNames}
use Rattle.pli_type_templates.proofs.item_numbers.note_names.Given as goal

-- the names so far are noted
abbrev pub invariant-loop-name : goal.invariant-loop-name
invariant-loop-name l = record {
  here : NoteNames (get nat_eq l.numbers) (take l.name-index l.names) l.number;
  kept : KeepNotes (get nat_eq l.fn.numbers) (get nat_eq l.numbers);
}
