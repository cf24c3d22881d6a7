use Rattle.std.proofs.Common.{arith}
use Rattle.pli_resolve_unit.proofs.BlocksNumbered.{number_passed}
use Rattle.pli_resolve_unit.proofs.block_numbers.block_numbers.Goals as goal

pub loop-region-preserved : goal.loop-region-preserved
loop-region-preserved c =
    let l = c.loop-region in
    record {
      numbers = number_passed c.args.regions.now l.region-index _ l.numbers.items c.deref.result.now c.push.new.self.items _ l.next c.number_with-number.result
          c.begun_by-next.result c.block_kind-kind.result (omega arith) c.deref.ensures.value c.block_kind-kind.ensures c.number_with-number.ensures
          c.in_ok-push.ensures.items c.begun_by-next.ensures.begun l.invariant.numbers;
      few = omega (arith, l.invariant.few, c.begun_by-next.ensures.one);
    }
