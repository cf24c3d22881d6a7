-- What compiling gave, apart from where it lies in memory.
use Rattle.std.specs.Prelude.{Result, List, option_map}
use Rattle.std.specs.Option.{ok_or}
use Rattle.pli_base.specs.declared.token.Fault.{Fault}
use Rattle.pli_code.specs.CodeTables as plain
use Rattle.pli_code.specs.views.CodeView.{deck_view}
use Rattle.pli_deck.specs.declared.compiled.Compiled.{Compiled}

-- the deck, or the faults
unfoldable pub outcome_view : Compiled → Result plain.Deck (List Fault)
outcome_view c = ok_or (option_map deck_view c.deck) c.faults.items
