use Rattle.std.proofs.Common.{◌≡◌, ◌++◌, map}
use Rattle.pli_declare.specs.Tables.{table_with}
use Rattle.pli_declare_tables.specs.views.TableView.{table_view, blocks_view}
use Rattle.pli_declare.specs.answers.Owners.{AllAfterOwners}
use Rattle.pli_declare_tables.proofs.table.tables_of.Given as goal

-- the tables so far, and those of the blocks that are left
abbrev pub invariant-loop-entries : goal.invariant-loop-entries
invariant-loop-entries l = record {
  tables : map table_view l.tables.items ++ map table_with (blocks_view l.entries-iterator.rest.items) ≡ map table_with (blocks_view l.fn.blocks.items);
  after : AllAfterOwners (blocks_view l.entries-iterator.rest.items);
}
