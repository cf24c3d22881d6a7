use Rattle.std.proofs.Common.{◌≡◌, ◌-◌, length, map, take}
use Rattle.pli_base.specs.views.StatementView.{unit_view}
use Rattle.pli_declare.specs.ResolvedUnits.{resolved_unit_of}
use Rattle.pli_type_names.specs.views.EntryView.{entry_view}
use Rattle.pli_type_names.proofs.BlockLemmas.{entries_of}
use Rattle.pli_type_names.proofs.entries.block_entries.Given as goal

-- what is found so far
abbrev pub invariant-loop-block : goal.invariant-loop-block
invariant-loop-block l = map entry_view l.made.items ≡ take (length l.made.items) (entries_of (resolved_unit_of (unit_view l.resolved)))

-- the blocks that are left
abbrev pub decreases-loop-block : goal.decreases-loop-block
decreases-loop-block l = length (resolved_unit_of (unit_view l.resolved)).blocks - length l.made.items
