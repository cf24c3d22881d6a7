use Rattle.std.proofs.Common.{◌<◌, length, arith}
use Rattle.pli_declare_faults.proofs.MarksPassed.{counted_items, told_items}
use Rattle.pli_declare_faults.proofs.marks.tell_items.Goals as goal

pub loop-item-preserved : goal.loop-item-preserved
loop-item-preserved c =
    let items = c.args.items.now in
    let n = c.loop-item.item-index in
    let x = c.item-item.result in
    let lt : n < length items = omega arith in
    record {
      number = counted_items items n x lt c.item-item.is c.loop-item.number c.in_ok-number.number _ c.deref.result.now c.deref.ensures.value c.in_ok-number.ensures.number c.loop-item.invariant.number;
      told = told_items items n x lt c.item-item.is c.args.codes.now c.loop-item.number c.in_ok-number.number c.deref.result.now c.loop-item.faults.items c.tell_names.new.faults.items _
          c.deref.ensures.value c.in_ok-number.ensures.number c.in_ok-number.ensures.faults c.loop-item.invariant.told;
    }
