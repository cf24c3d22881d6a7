use Rattle.std.proofs.Common.{◌≡◌, ◌*◌, ap, sym, ◌∙◌, arith, eqb-true}
use Rattle.pli_map.specs.Sizes.{count_of}
use Rattle.pli_map.proofs.ScalarsAmong.{one_dimension}
use Rattle.pli_map.proofs.scalars.has_stride.Goals as goal

pub returns-clause-below : goal.returns-clause-below
returns-clause-below c = λ e.
    let count = one_dimension c.args.bounds.now _ c.if-bounds-ne1.false in
    let extent = c.extent-extent.ensures.value ∙ sym count in
    omega (arith, c.if-index-extent.false, extent)

pub returns-clause-sized : goal.returns-clause-sized
returns-clause-sized c = λ e.
    sym (eqb-true _ _ e) ∙ ap (λ n. n * c.from-2.result) (c.from.ensures ∙ c.extent-extent.ensures.value ∙ sym (one_dimension c.args.bounds.now _ c.if-bounds-ne1.false))
    ∙ ap (λ n. count_of c.args.bounds.now * n) c.from-2.ensures
