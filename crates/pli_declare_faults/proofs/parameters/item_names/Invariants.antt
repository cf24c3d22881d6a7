use Rattle.std.proofs.Common.{◌≡◌, take}
use Rattle.std.specs.List.{list_any}
use Rattle.pli_base.specs.Name.{Name}
use Rattle.pli_base.specs.Words.{same_name}
use Rattle.pli_declare_tables.specs.views.TableView.{entries_view}
use Rattle.pli_declare.specs.Resolution.{is_item_named}
use Rattle.pli_declare_faults.proofs.parameters.item_names.Given as goal

-- the names so far
abbrev pub invariant-loop-entry : goal.invariant-loop-entry
invariant-loop-entry l = (name : Name) → list_any (same_name name) l.names.keys ≡ list_any (is_item_named name) (entries_view (take l.entry-index l.entries))
