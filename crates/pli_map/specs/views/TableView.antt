-- What a table of the program says.
use Rattle.std.specs.Prelude.{List, map}
use Rattle.pli_map.specs.Description.{Description}
use Rattle.pli_map.specs.views.DescriptionView.{description_view}
use Rattle.pli_map.specs.declared.table.Table.{Table}

-- its descriptions, by number
abbrev pub table_view : Table → List Description
table_view t = map description_view t.descriptions.keys
