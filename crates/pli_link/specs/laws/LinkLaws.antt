-- Linking is what the linker does by its tables (own).
use Rattle.std.specs.Prelude.{◌≡◌, List}
use Rattle.pli_link.specs.Link as found
use Rattle.pli_link.specs.LinkedModule.{link_of}
use Rattle.pli_link.specs.Units.{Compiled}

-- what linking gives is what is found with a table of procedures and one of external variables
abbrev pub LinksAreFound : Type 0
LinksAreFound = (cs : List Compiled) → link_of cs ≡ found.link_of cs
