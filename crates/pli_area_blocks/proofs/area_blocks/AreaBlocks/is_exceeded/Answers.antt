use Rattle.std.proofs.Common.{sym, ◌∙◌, arith}
use Rattle.pli_area_blocks.specs.views.BlocksView.{wholes}
use Rattle.pli_area_blocks.proofs.ViewedBlocks.{fit_view, too_long}
use Rattle.pli_area_blocks.proofs.area_blocks.AreaBlocks.is_exceeded.Goals as goal

pub returns-then-size-capacity : goal.returns-then-size-capacity
returns-then-size-capacity c = λ exceeded more above. cc

pub returns : goal.returns
returns c = λ exceeded more above.
    let self = c.args.self.now in
    sym (fit_view (wholes self.descriptions.items) self.area.capacity self.area.blocks more self.known)
    ∙ too_long self.area more c.stands.ensures (omega (arith, c.capacity.ensures, c.from-capacity.ensures, c.if-size-capacity.false, above))
