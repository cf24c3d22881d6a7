-- What the functions on tables answer.
use Rattle.std.specs.Prelude.{◌≡◌, map}
use Rattle.pli_declare_outline.specs.Outlines.{Outline}
use Rattle.pli_declare_scopes.specs.Repeats.{verdicts_of}
use Rattle.pli_declare.specs.Tables.{written, unit_entries, unit_block, all_tables}
use Rattle.pli_declare_tables.specs.views.TableView.{entries_view, table_view}
use Rattle.pli_declare_tables.specs.declared.table.Tables.{Tables}

-- the tables of an outline
pub record AreOf (tables : Tables) (o : Outline) : Type 0 where
  pub blocks : map table_view tables.blocks.items ≡ all_tables o
  pub unit_verdicts : tables.unit.verdicts.items ≡ verdicts_of (map written (unit_entries o.marks))
  pub unit_entries : entries_view tables.unit.entries.items ≡ unit_entries o.marks
  pub unit_block : tables.unit.block ≡ unit_block o
