use Rattle.pli_copy.proofs.AlikeLemmas.{one_more}
use Rattle.pli_copy.proofs.copied.copied_list.Goals as goal

pub loop-item-preserved : goal.loop-item-preserved
loop-item-preserved g c =
    let l = c.loop-item in
    one_more g.T.Copied.view c.push.new.self.items l.copied.items c.in_ok-copy.field-0 c.item-item.result c.args.list.now l.item-index
    c.loop-item-test.true c.item-item.is c.in_ok-push.ensures.items c.in_ok-copy.ensures l.invariant
