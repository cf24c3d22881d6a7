use Rattle.std.proofs.Common.{sym, subst}
use Rattle.std.specs.List.{IsDistinct}
use Rattle.std.specs.Ordering.{on}
use Rattle.pli_map.specs.Same.{same}
use Rattle.pli_map.specs.views.DescriptionView.{description_view}
use Rattle.pli_map.proofs.TableLemmas.{one_more}
use Rattle.pli_map.proofs.table.Table.copy.Goals as goal

pub loop-description-preserved : goal.loop-description-preserved
loop-description-preserved c =
    let items = c.as_slice-description-items in
    let apart = subst (IsDistinct (on description_view same)) (sym items.ensures.keys) items.ensures.unique in
    one_more items.result.now c.loop-description.descriptions.keys _ c.loop-description.description-index c.description-item.result
    c.in_ok-copy.field-0 apart c.loop-description-test.true c.description-item.is c.loop-description.invariant c.in_ok-copy.ensures c.in_ok-put.ensures
