use Rattle.std.proofs.Common.{[], ◌∷◌, length, refl, ap, arith}
use Rattle.pli_map.specs.Description.{Bit}
use Rattle.pli_value.specs.Value.{Bits}
use Rattle.pli_store.proofs.PutsSaid.{put_or_same}
use Rattle.pli_store.proofs.StandingParts.{bytes_within, read_there}
use Rattle.pli_store.proofs.putting.put_bit.Goals as goal

pub returns-clause-put : goal.returns-clause-put
returns-clause-put c =
    put_or_same c.args.generations.now.items c.args.part (Bit 1) c.requires c.index_mut-generation.result.now
    c.index_mut-generation.ensures.value c.deref_mut.result.now c.put_bit_at.new.bytes c.deref_mut.ensures.value
    c.put_bit_at.auto.bytes _ _ _ _ _ _ c.put_bit_at.result (Bits (c.args.bit ∷ [])) refl c.put_bit_at.ensures.put

pub returns-clause-room : goal.returns-clause-room
returns-clause-room c =
    let items = c.args.generations.now.items in
    let g = c.index_mut-generation.result.now in
    let there = read_there items c.args.part (Bit 1) c.requires g c.index_mut-generation.ensures.value in
    c.put_bit_at.ensures.room.1 (omega (arith, bytes_within items c.args.part (Bit 1) c.requires g there, ap length c.deref_mut.ensures.value))
