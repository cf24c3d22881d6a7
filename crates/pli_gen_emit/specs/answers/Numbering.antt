-- What numbering answers.
use Rattle.std.specs.Prelude.{◌≡◌, List, false}
use Rattle.pli_map.specs.ParameterTypes.{ParameterType, same_type}
use Rattle.pli_type_tree.specs.Templates.{Template}
use Rattle.pli_value.specs.Value.{Value}
use Rattle.pli_gen_emit.specs.Encoding.{numbered}
use Rattle.pli_type_keys.specs.Same.{same_template, same_value}
use Rattle.pli_gen_emit.specs.declared.table.NumberedTables.{NumberedTables}
use Rattle.pli_gen_emit.specs.views.TableView.{tables_view}

-- entries were put at the ends of tables that lacked them, unless memory was wanting for them or before
pub record Numbers (old new : NumberedTables) (ds : List ParameterType) (ts : List Template) (vs : List Value)
    : Type 0 where
  pub memory : new.lacks_memory ≡ false → old.lacks_memory ≡ false
  pub descriptions : new.lacks_memory ≡ false
      → (tables_view new).descriptions ≡ numbered same_type (tables_view old).descriptions ds
  pub templates : new.lacks_memory ≡ false
      → (tables_view new).templates ≡ numbered same_template (tables_view old).templates ts
  pub values : new.lacks_memory ≡ false
      → (tables_view new).values ≡ numbered same_value (tables_view old).values vs
