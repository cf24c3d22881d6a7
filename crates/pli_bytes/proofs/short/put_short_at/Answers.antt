use Rattle.pli_bytes.proofs.PutFront.{put_or_same_after}
use Rattle.pli_map.specs.Description.{Bit}
use Rattle.pli_value.specs.Short.{short_view}
use Rattle.pli_value.specs.Value.{Bits}
use Rattle.pli_bytes.proofs.short.put_short_at.Goals as goal

pub returns-clause-put : goal.returns-clause-put
returns-clause-put c =
    put_or_same_after c.put_first_short.result (Bit c.args.bits.count) (Bits (short_view c.args.bits)) c.args.offset c.args.bytes.now c.put_first_short.new.bytes
    c.put_first_short.ensures.put
