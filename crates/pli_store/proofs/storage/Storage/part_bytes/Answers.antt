use Rattle.std.proofs.Common.{ℕ, ap, ◌∙◌, arith}
use Rattle.std.specs.Global.{Vec}
use Rattle.std.proofs.lemmas.Result.{err_from_is_err_and}
use Rattle.pli_bytes.specs.Contents.{values_of}
use Rattle.pli_map.specs.views.DescriptionView.{description_view}
use Rattle.pli_world.specs.World.{Yields}
use Rattle.pli_store.specs.views.StorageView.{place_view, storage_view, with_storage}
use Rattle.pli_store.proofs.PartAnswers.{part_unread, parts_held_there}
use Rattle.pli_store.proofs.StandingParts.{inside, read_there, bytes_within, part_counted, part_lives, part_read}
use Rattle.pli_store.proofs.storage.Storage.part_bytes.Goals as goal

pub returns-in_err-part-clause-held : goal.returns-in_err-part-clause-held
returns-in_err-part-clause-held c = λ w.
    let p = err_from_is_err_and c.from_residual.result c.from_residual.ensures.1 in
    let before = with_storage c.args.self.now w in
    rw (p.1, p.2) (part_unread (λ (bytes : Vec ℕ). values_of (description_view c.args.place.description.now) bytes.items) (place_view c.args.place) before before
    c.if-place-ne0.false c.in_err-part.field-0.0 c.in_err-part.ensures)

pub index-requires : goal.index-requires
index-requires c =
    let within = inside c.args.self.now.generations.items c.in_ok-part.part (description_view c.args.place.description.now) c.in_ok-part.ensures.there in
    omega (arith, within)

pub bytes_of_part-requires-clause-within : goal.bytes_of_part-requires-clause-within
bytes_of_part-requires-clause-within c =
    let items = c.args.self.now.generations.items in
    let d = description_view c.args.place.description.now in
    let there = c.in_ok-part.ensures.there in
    bytes_within items c.in_ok-part.part d there c.index.result.now (read_there items c.in_ok-part.part d there c.index.result.now c.index.ensures)

pub bytes_of_part-requires-clause-limit : goal.bytes_of_part-requires-clause-limit
bytes_of_part-requires-clause-limit c =
    let lives = part_lives (storage_view c.args.self.now) c.in_ok-part.part (description_view c.args.place.description.now) c.in_ok-part.ensures.there in
    omega (arith, lives, c.args.self.now.counted, c.args.self.now.limited)

pub returns-clause-size : goal.returns-clause-size
returns-clause-size c =
    let items = c.args.self.now.generations.items in
    let d = description_view c.args.place.description.now in
    let there = c.in_ok-part.ensures.there in
    let g = c.index.result.now in
    part_counted items c.in_ok-part.part d there g (read_there items c.in_ok-part.part d there g c.index.ensures) c.in_ok-bytes_of_part.field-0.items
    c.in_ok-bytes_of_part.ensures

pub returns-clause-held : goal.returns-clause-held
returns-clause-held c = λ w.
    let items = c.args.self.now.generations.items in
    let d = description_view c.args.place.description.now in
    let there = c.in_ok-part.ensures.there in
    let g = c.index.result.now in
    let before = with_storage c.args.self.now w in
    parts_held_there (place_view c.args.place) before c.in_ok-part.part c.in_ok-part.ensures
    ∙ ap (λ vs. Yields vs before)
    (part_read items c.in_ok-part.part d there g (read_there items c.in_ok-part.part d there g c.index.ensures) c.in_ok-bytes_of_part.field-0.items
    c.in_ok-bytes_of_part.ensures)
