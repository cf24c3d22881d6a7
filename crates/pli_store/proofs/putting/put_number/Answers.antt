use Rattle.std.proofs.Common.{length, refl, ap, arith, SFits, w64, rules}
use Rattle.std.proofs.lemmas.Int.{to_z-of_z}
use Rattle.pli_map.specs.Description.{FixedBinary}
use Rattle.pli_value.specs.Value.{Number}
use Rattle.pli_store.proofs.PutsSaid.{scalar_is_put}
use Rattle.pli_store.proofs.StandingParts.{bytes_within, read_there}
use Rattle.pli_store.proofs.putting.put_number.Goals as goal

pub put_number_within-requires-clause-within : goal.put_number_within-requires-clause-within
put_number_within-requires-clause-within c =
    let items = c.args.generations.now.items in
    let d = FixedBinary c.args.precision in
    let g = c.index_mut-generation.result.now in
    let there = read_there items c.args.part d c.requires.stands g c.index_mut-generation.ensures.value in
    omega (arith, bytes_within items c.args.part d c.requires.stands g there, ap length c.deref_mut.ensures.value)

pub returns : goal.returns
returns c =
    let fits : SFits w64 c.args.number = search rules in
    let whole = to_z-of_z w64 c.args.number fits in
    scalar_is_put c.args.generations.now.items c.args.part (FixedBinary c.args.precision) c.requires.stands c.index_mut-generation.result.now
    c.index_mut-generation.ensures.value c.deref_mut.result.now c.put_number_within.new.bytes c.deref_mut.ensures.value
    c.put_number_within.auto.bytes _ _ _ _ _ _ (Number c.args.number) refl (rw whole at c.put_number_within.ensures)
