use Rattle.std.proofs.Common.{◌≡◌, ◌≤◌, drop}
use Rattle.pli_declare_outline.specs.views.OutlineView.{regions_view}
use Rattle.pli_declare.specs.BlockNumbers.{numbers_after, block_numbers}
use Rattle.pli_resolve_unit.proofs.block_numbers.block_numbers.Given as goal

-- the numbers so far, with those of the regions that are left
abbrev pub invariant-loop-region : goal.invariant-loop-region
invariant-loop-region l = record {
  numbers : numbers_after l.numbers.items l.next (regions_view (drop l.region-index l.regions)) ≡ block_numbers (regions_view l.regions);
  few : l.next ≤ l.region-index;
}
