use Rattle.std.proofs.Common.{◌≡◌, [], replicate}
use Rattle.pli_declare_tables.specs.views.TableView.{blocks_view}
use Rattle.pli_declare_tables.proofs.table.empty_blocks.Given as goal

abbrev pub invariant-loop : goal.invariant-loop
invariant-loop l = blocks_view l.blocks.items ≡ replicate l.counter []
