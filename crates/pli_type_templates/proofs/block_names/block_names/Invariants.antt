use Rattle.std.proofs.Common.{◌≡◌, ◌++◌, drop, map}
use Rattle.std.specs.List.{All}
use Rattle.pli_resolve.specs.views.UnitView.{rows_view}
use Rattle.pli_type_templates.specs.views.BlockView.{AreKnown, block_symbols}
use Rattle.pli_type_templates.proofs.block_names.block_names.Given as goal

-- those of the blocks so far, with those that are left
abbrev pub invariant-loop-row : goal.invariant-loop-row
invariant-loop-row l = record {
  symbols : map block_symbols l.made.items ++ rows_view (drop l.row-index l.symbols) ≡ rows_view l.symbols;
  known : All AreKnown l.made.items;
}
