use Rattle.std.proofs.Common.{◌≡◌, ◌++◌, map, drop}
use Rattle.std.specs.List.{flat_map}
use Rattle.pli_base.specs.views.DeclarationView.{item_view}
use Rattle.pli_declare.specs.Tables.{named}
use Rattle.pli_declare_tables.specs.views.TableView.{named_view}
use Rattle.pli_declare_tables.proofs.entries.names_of.Given as goal

-- the names so far, and those of the items that are left
abbrev pub invariant-loop-item : goal.invariant-loop-item
invariant-loop-item l =
    map named_view l.names.items ++ flat_map named (map item_view (drop l.item-index l.items)) ≡ flat_map named (map item_view l.items)
