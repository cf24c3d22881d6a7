use Rattle.std.proofs.Common.{map, set, sym, ap, ◌∙◌, arith}
use Rattle.std.proofs.lemmas.Result.{err_from_is_err_and}
use Rattle.pli_bytes.specs.Contents.{values_of}
use Rattle.pli_map.specs.views.DescriptionView.{description_view}
use Rattle.pli_world.specs.World.{Yields}
use Rattle.pli_store.specs.answers.Puts.{ValuesPut}
use Rattle.pli_store.specs.views.GenerationView.{generation_view}
use Rattle.pli_store.specs.views.StorageView.{place_view, storage_view, with_storage}
use Rattle.pli_store.proofs.PartAnswers.{kept_put, part_unwritten, parts_stored_there, put_there}
use Rattle.pli_store.proofs.PutsSaid.{bytes_are_put}
use Rattle.pli_store.proofs.StandingParts.{inside, read_there, bytes_within}
use Rattle.pli_store.proofs.storage.Storage.put_part_bytes.Goals as goal
use Rattle.pli_store.proofs.storage.Storage.put_part_bytes.Goals.{After-put_bytes}

pub returns-in_err-part-clause-answer : goal.returns-in_err-part-clause-answer
returns-in_err-part-clause-answer c = λ w.
    let p = err_from_is_err_and c.from_residual.result c.from_residual.ensures.1 in
    let before = with_storage c.args.self.now w in
    rw (p.1, p.2) (part_unwritten {T = Unit {0}} (λ x. tt) (place_view c.args.place) (values_of (description_view c.args.place.description.now) c.args.bytes.now) before before
    c.if-place-ne0.false c.in_err-part.field-0.0 c.in_err-part.ensures)

pub index_mut-requires : goal.index_mut-requires
index_mut-requires c =
    let within = inside c.args.self.now.generations.items c.in_ok-part.part (description_view c.args.place.description.now) c.in_ok-part.ensures.there in
    omega (arith, within)

pub put_bytes-requires : goal.put_bytes-requires
put_bytes-requires c =
    let items = c.args.self.now.generations.items in
    let d = description_view c.args.place.description.now in
    let there = c.in_ok-part.ensures.there in
    let g = c.index_mut.result.now in
    let within = bytes_within items c.in_ok-part.part d there g (read_there items c.in_ok-part.part d there g c.index_mut.ensures.value) in
    let size = c.requires in
    omega (arith, within, size)

-- what is put
put : (c : After-put_bytes) → ValuesPut (storage_view c.args.self.now) (map generation_view (set c.args.self.now.generations.items c.in_ok-part.part.at c.put_bytes.new.generation))
    c.in_ok-part.part (description_view c.args.place.description.now) (values_of (description_view c.args.place.description.now) c.args.bytes.now)
put c =
    let items = c.args.self.now.generations.items in
    let d = description_view c.args.place.description.now in
    let there = c.in_ok-part.ensures.there in
    let g = c.index_mut.result.now in
    bytes_are_put items c.in_ok-part.part d there g c.put_bytes.new.generation (read_there items c.in_ok-part.part d there g c.index_mut.ensures.value)
    c.args.bytes.now c.requires c.put_bytes.ensures

pub invariant_of-self : goal.invariant_of-self
invariant_of-self c =
    let d = description_view c.args.place.description.now in
    let kept = kept_put (storage_view c.args.self.now) _ c.in_ok-part.part c.args.self.now.made c.args.self.now.rising d (values_of d c.args.bytes.now) (put (goal.at.invariant_of-self c).After-put_bytes) in
    record { counted = c.args.self.now.counted ∙ sym kept.counted; limited = c.args.self.now.limited; rising = kept.rising }

pub returns-clause-answer : goal.returns-clause-answer
returns-clause-answer c = λ w.
    let e = (goal.at.returns-clause-answer c).After-put_bytes in
    let p = place_view c.args.place in
    let before = with_storage c.args.self.now w in
    let vs = values_of (description_view c.args.place.description.now) c.args.bytes.now in
    parts_stored_there p before c.in_ok-part.part c.in_ok-part.ensures vs
    ∙ ap (λ gs. Yields tt (record before { storage = gs }))
    (put_there p before c.in_ok-part.part c.in_ok-part.ensures _ c.args.self.now.made c.args.self.now.rising vs (put e))
