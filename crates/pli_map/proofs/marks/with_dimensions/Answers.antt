use Rattle.std.proofs.Common.{◌*◌, length, refl, sym, subst, arith}
use Rattle.std.proofs.lemmas.List.{drop_all}
use Rattle.pli_map.proofs.MarkLemmas.{Told, dimension_before, all_dimensions}
use Rattle.pli_map.proofs.marks.with_dimensions.Goals as goal

pub loop-at-init : goal.loop-at-init
loop-at-init c =
    let bounds = c.args.bounds.now in
    subst (λ bs. Told bs c.args.element (c.args.element * 2)) (sym (drop_all (length bounds) bounds (omega arith))) (λ some. (λ e. some (omega (arith, e)), refl, refl))

pub loop-at-preserved : goal.loop-at-preserved
loop-at-preserved c =
    dimension_before c.args.bounds.now c.loop-at.at _ c.args.element c.loop-at.mark c.with_bounds-mark.result c.loop-at-test.true c.loop-at.auto.at c.loop-at.invariant c.with_bounds-mark.ensures

pub returns : goal.returns
returns c = all_dimensions c.args.bounds.now c.loop-at.at c.args.element c.loop-at.mark c.loop-at-test.false c.loop-at.invariant
