-- Which versions may stand in bytes: any, or one.
use Rattle.std.specs.Prelude.{Bool, Option, Some, None}
use Rattle.pli_code.specs.Versions.{same_version}
use Rattle.pli_code.specs.declared.version.Version.{Version}
use Rattle.pli_deck_write.specs.DeckFields.{any_version}

-- the one that is wanted, or any where none is
abbrev pub wanted_version : Option Version → Version → Bool
wanted_version None = any_version
wanted_version (Some v) = same_version v
