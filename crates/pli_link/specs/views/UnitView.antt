-- What units say, apart from where they lie in memory.
use Rattle.pli_link.specs.Units as plain
use Rattle.pli_code.specs.views.CodeView.{deck_view}
use Rattle.pli_link.specs.declared.units.NamedUnit.{NamedUnit}

-- a compiled unit with the name of its member
abbrev pub compiled_view : NamedUnit → plain.Compiled
compiled_view n = plain.as_unit n.unit (deck_view n.deck.now)
