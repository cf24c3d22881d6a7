-- What the tables of a unit's code are, apart from where they lie in memory.
use Rattle.std.specs.Prelude.{map}
use Rattle.pli_gen_emit.specs.Encoding as plain
use Rattle.pli_gen_emit.specs.declared.table.NumberedTables.{NumberedTables}
use Rattle.pli_type_keys.specs.views.KeyView.{described, templated, valued}

-- the entries of tables
abbrev pub tables_view : NumberedTables → plain.NumberedTables
tables_view t = record {
  descriptions = map described t.descriptions.keys;
  templates = map templated t.templates.keys;
  values = map valued t.values.keys;
}
