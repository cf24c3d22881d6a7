use Rattle.std.proofs.Common.{nat_eq, map, take}
use Rattle.indexmap.specs.IndexMap.{get}
use Rattle.pli_base.specs.views.DeclarationView.{item_view}
use Rattle.pli_type_templates.specs.NotedNames.{KeepNotes, NoteItems}
use Rattle.pli_type_templates.proofs.item_numbers.note_items.Given as goal

-- the names of the items so far are noted
abbrev pub invariant-loop-item : goal.invariant-loop-item
invariant-loop-item l = record {
  here : NoteItems (get nat_eq l.numbers) l.mark (take l.item (map item_view l.items));
  kept : KeepNotes (get nat_eq l.fn.numbers) (get nat_eq l.numbers);
}
