use Rattle.std.proofs.Common.{◌≡◌, take, map}
use Rattle.pli_declare.specs.views.BlockView.{block_view}
use Rattle.pli_resolve.specs.views.TableView.{block_table_view, block_table_of}
use Rattle.pli_resolve_unit.proofs.tables.block_tables.Given as goal

abbrev pub invariant-loop-block : goal.invariant-loop-block
invariant-loop-block l = map block_table_view l.tables.items ≡ map block_table_of (map block_view (take l.block-index l.blocks))
