use Rattle.std.proofs.Common.{◌≡◌, ◌++◌, List, drop, map}
use Rattle.std.specs.List.{All}
use Rattle.pli_declare_outline.specs.Outlines.{PlacedMark}
use Rattle.pli_type_rules.specs.NamedUnits.{block_globals}
use Rattle.pli_type_templates.specs.ItemNames.{AreOfItems}
use Rattle.pli_type_templates.specs.views.BlockView.{block_symbols}
use Rattle.pli_type_templates.specs.views.PlacedView.{HasGlobalItem, placed_view}
use Rattle.pli_type_templates.proofs.unit_templates.unit_globals.Given as goal

-- the globals so far, with those of the blocks that are left, are those of all; items say what they are
abbrev pub invariant-loop-block : goal.invariant-loop-block
invariant-loop-block l = record {
  globals : map placed_view l.globals.items ++ block_globals 63 (map block_symbols (drop l.block-index l.blocks))
      ≡ block_globals 63 (map block_symbols l.blocks);
  items : (marks : List PlacedMark) → All (All (AreOfItems marks)) (map block_symbols l.blocks) → All (HasGlobalItem marks) l.globals.items;
}
