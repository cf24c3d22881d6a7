use Rattle.std.proofs.Common.{length, sym, ◌∙◌, arith}
use Rattle.pli_area_blocks.proofs.PlacedBlocks.{placed_there, placed_whole}
use Rattle.pli_area_blocks.proofs.ViewedBlocks.{too_long}
use Rattle.pli_area_blocks.proofs.placing.place_block.Goals as goal

pub returns-then-bytes-capacity-clause-place : goal.returns-then-bytes-capacity-clause-place
returns-then-bytes-capacity-clause-place c =
    sym (too_long c.args.area.now (length c.args.bytes.now) c.stands.ensures (omega (arith, c.capacity.ensures, c.if-bytes-capacity.true)))

pub write-requires : goal.write-requires
write-requires c =
    placed_there c.args.area.now c.allocate.new.self.blocks c.in_ok-position.position c.args.number c.args.bytes.now
    c.in_ok-position.ensures.added c.in_ok-position.ensures.least

pub returns-clause-blocks : goal.returns-clause-blocks
returns-clause-blocks c =
    c.write.ensures.blocks
    ∙ placed_whole c.args.area.now c.allocate.new.self.blocks c.in_ok-position.position c.args.number c.args.bytes.now
    c.in_ok-position.ensures.added c.in_ok-position.ensures.least
