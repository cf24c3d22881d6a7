use Rattle.pli_map.specs.views.DescriptionView.{description_view}
use Rattle.pli_value.specs.Value.{value_view}
use Rattle.std.proofs.Common.{length, ap, arith}
use Rattle.pli_store.proofs.HeldScalars.{scalar_of_held}
use Rattle.pli_store.proofs.PutsSaid.{scalar_is_put}
use Rattle.pli_store.proofs.StandingParts.{read_there, bytes_within}
use Rattle.pli_store.proofs.putting.put_value.Goals as goal

pub put_value_at-requires-clause-within : goal.put_value_at-requires-clause-within
put_value_at-requires-clause-within c =
    let items = c.args.generations.now.items in
    let d = description_view c.args.description.now in
    let s = c.requires.stands in
    let g = c.index_mut-generation.result.now in
    let here = read_there items c.args.part d s g c.index_mut-generation.ensures.value in
    omega (arith, bytes_within items c.args.part d s g here, ap length c.deref_mut.ensures.value)

pub returns : goal.returns
returns c =
    let d = description_view c.args.description.now in
    let v = value_view c.args.value.now in
    scalar_is_put c.args.generations.now.items c.args.part d c.requires.stands c.index_mut-generation.result.now
    c.index_mut-generation.ensures.value c.deref_mut.result.now c.put_value_at.new.bytes c.deref_mut.ensures.value
    c.put_value_at.auto.bytes _ _ _ _ _ _ v (scalar_of_held d v c.requires.held) c.put_value_at.ensures
