-- What a block declares, apart from where it lies in memory.
use Rattle.std.specs.Prelude.{List, map}
use Rattle.pli_declare.specs.Symbols.{Symbol}
use Rattle.pli_declare.specs.views.SymbolView.{symbol_view}
use Rattle.pli_type_templates.specs.Groups.{AreMembers}
use Rattle.pli_type_templates.specs.declared.block_names.BlockNames.{BlockNames}
use Rattle.pli_type_templates.specs.views.ItemView.{rows_view}

-- the symbols of a block
abbrev pub block_symbols : BlockNames → List Symbol
block_symbols b = map symbol_view b.symbols.now.items

-- under the number of each symbol its members
abbrev pub AreKnown : BlockNames → Type 0
AreKnown b = AreMembers (rows_view b.members.items) (block_symbols b)
