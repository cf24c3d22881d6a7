use Rattle.std.proofs.lemmas.Result.{on_ok_weaker}
use Rattle.pli_declare_outline.specs.views.OutlineView.{mark_view}
use Rattle.pli_declare.specs.Tables.{entries_of}
use Rattle.pli_declare_tables.proofs.BlocksByMarks.{put_back}
use Rattle.pli_declare_tables.proofs.table.declare_in.Goals as goal

pub returns : goal.returns
returns c =
    let placed = c.args.placed.now in
    on_ok_weaker c.declare.result
    (λ made. put_back c.args.blocks.now.items c.args.block c.index_mut.result.now c.declare.new.entries (λ n. entries_of n placed.region (mark_view placed.mark)) c.requires
    c.index_mut.ensures.value made)
    c.declare.ensures
