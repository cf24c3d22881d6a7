use Rattle.std.proofs.Common.{length, refl, ap, arith}
use Rattle.pli_map.specs.Description.{Pointer}
use Rattle.pli_value.specs.Value.{Located}
use Rattle.pli_store.proofs.PutsSaid.{put_or_same}
use Rattle.pli_store.proofs.StandingParts.{bytes_within, read_there}
use Rattle.pli_store.proofs.putting.put_pointer.Goals as goal

pub put_pointer_at-requires : goal.put_pointer_at-requires
put_pointer_at-requires c =
    let items = c.args.generations.now.items in
    let g = c.index_mut-generation.result.now in
    let there = read_there items c.args.part Pointer c.requires g c.index_mut-generation.ensures.value in
    omega (arith, bytes_within items c.args.part Pointer c.requires g there, ap length c.deref_mut.ensures.value)

pub returns-clause-put : goal.returns-clause-put
returns-clause-put c =
    put_or_same c.args.generations.now.items c.args.part Pointer c.requires c.index_mut-generation.result.now
    c.index_mut-generation.ensures.value c.deref_mut.result.now c.put_pointer_at.new.bytes c.deref_mut.ensures.value
    c.put_pointer_at.auto.bytes _ _ _ _ _ _ c.put_pointer_at.result (Located c.args.locator) refl c.put_pointer_at.ensures.put
