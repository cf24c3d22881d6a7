-- What tables of the program say, apart from where they lie in memory.
use Rattle.std.specs.Prelude.{List, map}
use Rattle.std.specs.Global.{Vec}
use Rattle.pli_base.specs.declared.syntax.Identifier.{Identifier}
use Rattle.pli_base.specs.Declarations as tree
use Rattle.pli_base.specs.views.DeclarationView.{item_view}
use Rattle.pli_base.specs.views.StatementView.{unit_view}
use Rattle.pli_declare.specs.Tables as plain
use Rattle.pli_declare_tables.specs.declared.entry.Entity.{Entity}
use Rattle.pli_declare_tables.specs.declared.entry.Entity.TheVariants as entities
use Rattle.pli_declare_tables.specs.declared.entry.Entry.{Entry}
use Rattle.pli_declare_tables.specs.declared.entries.NamedItem.{NamedItem}
use Rattle.pli_declare_tables.specs.declared.table.Table.{Table}

-- what a name is declared as
abbrev pub entity_view : Entity → plain.Entity
entity_view (entities.Item facts is_bad_level) = plain.AsItem (item_view facts.item.now) is_bad_level
entity_view (entities.Label region) = plain.AsLabel region
entity_view (entities.Procedure procedure region) = plain.AsProcedure (unit_view procedure.now).heading region

-- a declared name with its owner
abbrev pub entry_view : Entry → plain.Entry
entry_view e = record { identifier = e.identifier; owner = e.owner; entity = entity_view e.entity }

-- a name of an item, with the item
abbrev pub named_view : NamedItem → Identifier × tree.Item
named_view n = (n.identifier, item_view n.facts.item.now)

-- the entries of a block
abbrev pub entries_view : List Entry → List plain.Entry
entries_view es = map entry_view es

-- what each of some blocks declares
abbrev pub blocks_view : List (Vec Entry) → List (List plain.Entry)
blocks_view blocks = map (λ b. entries_view b.items) blocks

-- what a block declares
abbrev pub table_view : Table → plain.Table
table_view t = record { entries = entries_view t.entries.items; verdicts = t.verdicts.items; block = t.block }
