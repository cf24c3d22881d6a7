use Rattle.std.proofs.Common.{◌∙◌, arith}
use Rattle.pli_map.proofs.Counts.{one_dimension}
use Rattle.pli_map.proofs.scalars.element_count.Goals as goal

pub returns-then-bounds-eq1 : goal.returns-then-bounds-eq1
returns-then-bounds-eq1 c =
    let count = c.extent.ensures.value ∙ one_dimension c.args.bounds.now _ c.if-bounds-eq1.true in
    omega (arith, count, c.extent.ensures.bound, c.from.ensures)
