use Rattle.std.proofs.Common.{◌≡◌, length, Some, slice_get, refl, sym, ◌∙◌, arith, ne_eqb}
use Rattle.std.proofs.lemmas.Bool.Decides.{same_from_decides}
use Rattle.std.proofs.lemmas.Option.{slice_get_read}
use Rattle.std.proofs.lemmas.Result.{err_from_is_err_and}
use Rattle.pli_map.specs.Same.{same}
use Rattle.pli_map.specs.laws.SameLaws.{same_decides}
use Rattle.pli_map.specs.views.DescriptionView.{description_view}
use Rattle.pli_world.specs.World.{nothing}
use Rattle.pli_store.specs.views.GenerationView.{generation_view}
use Rattle.pli_store.specs.views.StorageView.{place_view, with_storage}
use Rattle.pli_store.proofs.AreaAnswers.{area_dead, area_stands, after_beginning, block_refused, in_a_block, no_area, other_area}
use Rattle.pli_store.proofs.PlaceLemmas.{within_store, stored_one}
use Rattle.pli_store.proofs.Searches.{stands_in_view}
use Rattle.pli_store.proofs.storage.Storage.area_at.Goals as goal

pub returns-in_err-_whole : goal.returns-in_err-_whole
returns-in_err-_whole c =
    let p = err_from_is_err_and c.from_residual.result c.from_residual.ensures.1 in
    rw (p.1, p.2)
    (λ w. block_refused (place_view c.args.place) (with_storage c.args.self.now w) c.in_err-_whole.field-0.0 (c.in_err-_whole.ensures w))

pub returns-then-place-ne0 : goal.returns-then-place-ne0
returns-then-place-ne0 c = λ w.
    let u = c.in_ok-_whole.ensures w in
    in_a_block (place_view c.args.place) (with_storage c.args.self.now w) (ne_eqb c.args.place.position 0 c.if-place-ne0.true) u.0 u.1

pub returns-in_default : goal.returns-in_default
returns-in_default c = λ w. area_dead (place_view c.args.place) (with_storage c.args.self.now w) c.in_default.ensures

pub returns-then-place-ne0-2 : goal.returns-then-place-ne0-2
returns-then-place-ne0-2 c = λ w.
    let s = c.in-Some.ensures in
    after_beginning (place_view c.args.place) (with_storage c.args.self.now w) s.generation s.found c.if-place-ne0.false c.if-place-ne0-2.true

pub returns-then-not-is_area : goal.returns-then-not-is_area
returns-then-not-is_area c = λ w.
    let s = c.in-Some.ensures in
    no_area (place_view c.args.place) (with_storage c.args.self.now w) s.generation s.found c.if-place-ne0.false c.if-place-ne0-2.false (sym c.if-not-is_area.ensures)

pub index-requires : goal.index-requires
index-requires c =
    let inside = within_store c.args.self.now.generations.items c.args.place.generation c.in-Some.at c.in-Some.ensures in
    omega (arith, inside)

pub returns-then-not-are_same_areas : goal.returns-then-not-are_same_areas
returns-then-not-are_same_areas c = λ w.
    let items = c.args.self.now.generations.items in
    let at = c.in-Some.at in
    let g = c.index.result.now in
    let here : slice_get items at ≡ Some g = slice_get_read items (length items) at g refl (within_store items c.args.place.generation at c.in-Some.ensures) c.index.ensures in
    let d = description_view g.description.now in
    let e = description_view c.args.place.description.now in
    let told = same_from_decides c.are_same_areas.result (same d e) c.are_same_areas.ensures (same_decides d e) in
    other_area (place_view c.args.place) (with_storage c.args.self.now w) (generation_view g) (stored_one items c.args.place.generation at g c.in-Some.ensures here)
    c.if-place-ne0.false c.if-place-ne0-2.false (sym c.if-not-is_area.ensures) (sym told ∙ c.if-not-are_same_areas.true)

pub returns : goal.returns
returns c =
    let items = c.args.self.now.generations.items in
    let at = c.in-Some.at in
    let g = c.index.result.now in
    let here : slice_get items at ≡ Some g = slice_get_read items (length items) at g refl (within_store items c.args.place.generation at c.in-Some.ensures) c.index.ensures in
    let d = description_view g.description.now in
    let e = description_view c.args.place.description.now in
    let told = same_from_decides c.are_same_areas.result (same d e) c.are_same_areas.ensures (same_decides d e) in
    area_stands (place_view c.args.place) (with_storage c.args.self.now nothing) (generation_view g) (stored_one items c.args.place.generation at g c.in-Some.ensures here)
    c.if-place-ne0.false c.if-place-ne0-2.false (sym c.if-not-is_area.ensures) (sym told ∙ c.if-not-are_same_areas.false) at (stands_in_view items at g here)
