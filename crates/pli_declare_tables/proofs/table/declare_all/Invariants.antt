use Rattle.std.proofs.Common.{◌≡◌, ℕ, ◌<◌, [], length, get_or, drop}
use Rattle.pli_declare_outline.specs.views.OutlineView.{marks_view}
use Rattle.pli_declare.specs.Tables.{entries_after}
use Rattle.pli_declare_tables.specs.views.TableView.{blocks_view}
use Rattle.pli_declare_tables.proofs.table.declare_all.Given as goal

-- what each block declares so far, and what the marks that are left declare in it
abbrev pub invariant-loop-placed : goal.invariant-loop-placed
invariant-loop-placed l = record {
  count : length l.blocks.items ≡ length l.initial.blocks.items;
  each : (b : ℕ) → b < length l.initial.blocks.items
      → entries_after l.nesting b (get_or (blocks_view l.blocks.items) b []) (marks_view (drop l.placed-index l.marks))
      ≡ entries_after l.nesting b (get_or (blocks_view l.initial.blocks.items) b []) (marks_view l.marks);
}
