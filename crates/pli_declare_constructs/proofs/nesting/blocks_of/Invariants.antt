use Rattle.std.proofs.Common.{◌≡◌, ◌<◌, ℕ, None, length, get_or}
use Rattle.pli_declare_outline.specs.views.OutlineView.{regions_view}
use Rattle.pli_declare_constructs.specs.Regions.{innermost}
use Rattle.pli_declare_constructs.proofs.nesting.blocks_of.Given as goal

-- as far as the regions were passed
abbrev pub invariant-loop-region : goal.invariant-loop-region
invariant-loop-region l = record {
  count : length l.blocks.items ≡ l.region-index;
  each : (n : ℕ) → n < l.region-index → get_or l.blocks.items n None ≡ innermost (regions_view l.regions) n;
}
