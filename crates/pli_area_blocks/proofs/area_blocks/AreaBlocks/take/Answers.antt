use Rattle.std.proofs.Common.{map, sym, ap, subst, ◌∙◌}
use Rattle.pli_area_blocks.specs.answers.Known.{AreKnown}
use Rattle.pli_area_blocks.specs.views.BlocksView.{block_view, wholes}
use Rattle.pli_area_blocks.proofs.ViewedBlocks.{known_without, without_view}
use Rattle.pli_area_blocks.proofs.area_blocks.AreaBlocks.take.Goals as goal

pub invariant_of-self : goal.invariant_of-self
invariant_of-self c =
    let ds = wholes c.args.self.now.descriptions.items in
    record {
      known = subst (AreKnown ds) (sym c.take_block.ensures.blocks)
          (known_without ds c.args.self.now.area.blocks c.args.position c.args.self.now.known);
    }

pub returns-clause-blocks : goal.returns-clause-blocks
returns-clause-blocks c =
    let ds = wholes c.args.self.now.descriptions.items in
    ap (map (block_view ds)) c.take_block.ensures.blocks ∙ without_view ds c.args.self.now.area.blocks c.args.position
