use Rattle.std.proofs.Common.{arith}
use Rattle.pli_link.proofs.RepeatedNames.{one_repeated, all_repeated}
use Rattle.pli_link.proofs.order.repeated_names.Goals as goal

pub loop-unit-preserved : goal.loop-unit-preserved
loop-unit-preserved c =
    one_repeated c.args.units.now c.loop-unit.unit-index c.unit-item.result c.loop-unit.before.keys c.insert.new.self.keys c.loop-unit.names.items c.add_unless.new.names.items _
    c.in_ok-is_new.is_new (omega (arith, c.loop-unit-test.true)) c.unit-item.is c.in_ok-is_new.ensures.added c.in_ok-is_new.ensures.keys c.in_ok-add_unless.ensures
    c.loop-unit.invariant

pub returns : goal.returns
returns c =
    all_repeated c.args.units.now c.loop-unit.unit-index c.loop-unit.before.keys c.loop-unit.names.items _ (omega (arith, c.loop-unit-test.false)) c.loop-unit.invariant
