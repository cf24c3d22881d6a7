use Rattle.std.proofs.Common.{◌≡◌, [], ◌∷◌, length, refl, sym, ap, ◌∙◌, arith}
use Rattle.pli_bytes.specs.Contents.{value_in}
use Rattle.pli_map.specs.Description.{Varying}
use Rattle.pli_map.specs.PlacedParts.{PlacedPart}
use Rattle.pli_value.specs.Value.{Characters}
use Rattle.pli_store.proofs.PutsSaid.{lengthened_or_same}
use Rattle.pli_store.proofs.StandingParts.{bytes_within, held_there, read_there}
use Rattle.pli_store.proofs.putting.lengthen.Goals as goal

pub returns-clause-put : goal.returns-clause-put
returns-clause-put c =
    lengthened_or_same c.args.generations.now.items c.args.part c.args.greatest c.requires c.index_mut-generation.result.now
    c.index_mut-generation.ensures.value c.deref_mut.result.now c.append_at.new.bytes c.deref_mut.ensures.value
    c.append_at.auto.bytes _ _ _ _ _ _ c.append_at.result c.args.more.now c.args.room c.append_at.ensures.put

pub returns-clause-refused : goal.returns-clause-refused
returns-clause-refused c = λ e there text holds fits.
    let items = c.args.generations.now.items in
    let d = Varying c.args.greatest in
    let place : PlacedPart = record { offset = c.args.part.offset; description = d } in
    let g = c.index_mut-generation.result.now in
    let here = read_there items c.args.part d there g c.index_mut-generation.ensures.value in
    let both : value_in g.bytes.items place ∷ [] ≡ Characters text ∷ [] = sym (held_there items c.args.part d there g here refl) ∙ holds in
    let read : value_in g.bytes.items place ≡ Characters text = cc in
    c.append_at.ensures.refused e (omega (arith, bytes_within items c.args.part d there g here, ap length c.deref_mut.ensures.value)) text
    (ap (λ l. value_in l place) c.deref_mut.ensures.value ∙ read) fits
