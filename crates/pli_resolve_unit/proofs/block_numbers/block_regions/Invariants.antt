use Rattle.std.proofs.Common.{◌≡◌, drop}
use Rattle.pli_declare_outline.specs.views.OutlineView.{regions_view}
use Rattle.pli_declare.specs.BlockNumbers as spec
use Rattle.pli_resolve_unit.proofs.block_numbers.block_regions.Given as goal

-- the blocks so far, with those among the regions that are left
abbrev pub invariant-loop-number : goal.invariant-loop-number
invariant-loop-number l = spec.blocks_after l.blocks.items l.number (regions_view (drop l.number l.regions)) ≡ spec.block_regions (regions_view l.regions)
