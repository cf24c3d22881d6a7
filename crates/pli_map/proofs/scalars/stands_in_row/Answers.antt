use Rattle.std.proofs.Common.{refl, arith}
use Rattle.pli_map.specs.views.DescriptionView.{description_view}
use Rattle.pli_map.proofs.ScalarsAmong.{some_in_row}
use Rattle.pli_map.proofs.scalars.stands_in_row.Goals as goal

pub returns : goal.returns
returns c = λ found.
    let row = c.if-not-has_stride.ensures in
    some_in_row c.args.bounds.now (description_view c.args.element.now) c.args.size c.args.stride c.args.index c.args.inner (description_view c.args.part.now)
    c.requires.size (row.sized refl) (omega arith) (row.below refl) (omega arith) (omega arith) (c.number_among_members.ensures found)
