use Rattle.std.proofs.Common.{sym, subst}
use Rattle.pli_area.specs.Areas.{HasBytes}
use Rattle.pli_map.specs.views.DescriptionView.{description_view}
use Rattle.pli_area_blocks.specs.answers.Known.{AreKnown}
use Rattle.pli_area_blocks.specs.views.BlocksView.{wholes}
use Rattle.pli_area_blocks.proofs.BlockParts.{part_is_put, part_known, part_there}
use Rattle.pli_area_blocks.proofs.area_blocks.AreaBlocks.write.Goals as goal

pub write-requires : goal.write-requires
write-requires c =
    let self = c.args.self.now in
    subst (HasBytes self.area.blocks c.args.position c.args.offset) (sym c.requires.size)
    (part_there (wholes self.descriptions.items) self.area self.known c.args.position c.args.offset (description_view c.args.part.now) c.requires.there)

pub invariant_of-self : goal.invariant_of-self
invariant_of-self c =
    let self = c.args.self.now in
    record {
      known = subst (AreKnown (wholes self.descriptions.items)) (sym c.write.ensures.blocks)
          (part_known (wholes self.descriptions.items) self.area self.known c.args.position c.args.offset (description_view c.args.part.now)
          c.requires.there c.args.bytes.now c.requires.size);
    }

pub returns-clause-put : goal.returns-clause-put
returns-clause-put c =
    let self = c.args.self.now in
    part_is_put (wholes self.descriptions.items) self.area self.known c.args.position c.args.offset (description_view c.args.part.now)
    c.requires.there c.args.bytes.now c.requires.size c.write.new.self.blocks c.write.ensures.blocks
