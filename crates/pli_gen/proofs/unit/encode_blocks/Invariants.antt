use Rattle.std.proofs.Common.{◌≡◌, ◌++◌, map, drop}
use Rattle.pli_code.specs.views.CodeView.{block_view}
use Rattle.pli_gen.specs.answers.Pieces.{blocks_with_entries}
use Rattle.pli_gen_emit.specs.views.BlockView.{block_trees}
use Rattle.pli_gen_emit.specs.views.TableView.{tables_view}
use Rattle.pli_gen.proofs.unit.encode_blocks.Given as goal

abbrev pub invariant-loop-i : goal.invariant-loop-i
invariant-loop-i l =
    let coded = blocks_with_entries (tables_view l.numbers.tables.now) in
    map block_view l.coded.items ++ coded (block_trees (drop l.i l.blocks)) (drop l.i l.entries)
    ≡ map block_view l.initial.coded.items ++ coded (block_trees l.blocks) l.entries
