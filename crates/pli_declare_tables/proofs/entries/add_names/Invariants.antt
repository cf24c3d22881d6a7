use Rattle.std.proofs.Common.{◌≡◌, ◌++◌, map, drop}
use Rattle.pli_base.specs.views.DeclarationView.{item_view}
use Rattle.pli_declare.specs.Tables.{named}
use Rattle.pli_declare_tables.specs.views.TableView.{named_view}
use Rattle.pli_declare_tables.proofs.entries.add_names.Given as goal

-- the names so far, and those that are left
abbrev pub invariant-loop-identifier : goal.invariant-loop-identifier
invariant-loop-identifier l =
    map named_view l.names.items ++ map (λ i. (i, item_view l.facts.item.now)) (drop l.identifier-index l.identifier-items)
    ≡ map named_view l.initial.names.items ++ named (item_view l.facts.item.now)
