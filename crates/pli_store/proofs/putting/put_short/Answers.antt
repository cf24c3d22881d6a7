use Rattle.std.proofs.Common.{length, refl, ap, arith}
use Rattle.pli_map.specs.Description.{Bit}
use Rattle.pli_value.specs.Short.{short_view}
use Rattle.pli_value.specs.Value.{Bits}
use Rattle.pli_store.proofs.PutsSaid.{put_or_same}
use Rattle.pli_store.proofs.StandingParts.{bytes_within, read_there}
use Rattle.pli_store.proofs.putting.put_short.Goals as goal

pub returns-clause-put : goal.returns-clause-put
returns-clause-put c =
    put_or_same c.args.generations.now.items c.args.part (Bit c.args.bits.count) c.requires c.index_mut-generation.result.now
    c.index_mut-generation.ensures.value c.deref_mut.result.now c.put_short_at.new.bytes c.deref_mut.ensures.value
    c.put_short_at.auto.bytes _ _ _ _ _ _ c.put_short_at.result (Bits (short_view c.args.bits)) refl c.put_short_at.ensures.put

pub returns-clause-room : goal.returns-clause-room
returns-clause-room c =
    let items = c.args.generations.now.items in
    let d = Bit c.args.bits.count in
    let g = c.index_mut-generation.result.now in
    let there = read_there items c.args.part d c.requires g c.index_mut-generation.ensures.value in
    c.put_short_at.ensures.room.1 (omega (arith, bytes_within items c.args.part d c.requires g there, ap length c.deref_mut.ensures.value))
