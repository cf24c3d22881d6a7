-- What is found once for each block, apart from where it lies in memory.
use Rattle.std.specs.Prelude.{◌≡◌, ℕ, List, map, option_map, slice_get}
use Rattle.pli_base.specs.declared.statement.Procedure.{Procedure}
use Rattle.pli_base.specs.views.StatementView.{unit_view}
use Rattle.pli_map.specs.views.DescriptionView.{description_view}
use Rattle.pli_map.specs.views.ParameterView.{type_seen}
use Rattle.pli_declare.specs.ResolvedUnits.{resolved_unit_of}
use Rattle.pli_type_names.specs.BlockEntries as plain
use Rattle.pli_type_names.specs.BlockEntries.{entry_at}
use Rattle.pli_type_names.specs.declared.entries.BlockEntry.{BlockEntry}

-- what is found for a block
abbrev pub entry_view : BlockEntry → plain.BlockEntry
entry_view e = record {
  is_named = e.is_named;
  outer = e.outer;
  parameters = map type_seen e.parameters.items;
  returned = option_map (λ d. description_view d.now) e.returned;
  area = e.area;
}

-- under each number what is found for the block
pub record AreEntries (entries : List BlockEntry) (u : Procedure) : Type 0 where
  pub found : (number : ℕ) → slice_get (map entry_view entries) number
      ≡ option_map (entry_at (resolved_unit_of (unit_view u)) number)
      (slice_get (resolved_unit_of (unit_view u)).blocks number)
