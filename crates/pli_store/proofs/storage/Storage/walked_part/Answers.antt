use Rattle.std.proofs.Common.{◌≡◌, length, Some, slice_get, refl, sym, arith}
use Rattle.std.proofs.lemmas.Option.{slice_get_read}
use Rattle.pli_store.specs.views.StorageView.{place_view}
use Rattle.pli_store.proofs.PlaceLemmas.{within_store, leads_to, leads_nowhere}
use Rattle.pli_store.proofs.storage.Storage.walked_part.Goals as goal

pub index-generation-requires : goal.index-generation-requires
index-generation-requires c =
    let inside = within_store c.args.self.now.generations.items c.args.place.generation c.in-Some.at c.in-Some.ensures in
    omega (arith, inside)

pub returns-then-place-ne0 : goal.returns-then-place-ne0
returns-then-place-ne0 c = λ outside. absurd (c.if-place-ne0.true outside)

pub returns-then-not-is_part_of : goal.returns-then-not-is_part_of
returns-then-not-is_part_of c =
    let items = c.args.self.now.generations.items in
    let inside = within_store items c.args.place.generation c.in-Some.at c.in-Some.ensures in
    let here : slice_get items c.in-Some.at ≡ Some c.index-generation.result.now = slice_get_read items (length items) c.in-Some.at c.index-generation.result.now refl inside c.index-generation.ensures in
    λ outside. leads_nowhere items (place_view c.args.place) c.in-Some.at c.in-Some.ensures outside c.index-generation.result.now here (sym c.if-not-is_part_of.ensures)

pub returns : goal.returns
returns c =
    let items = c.args.self.now.generations.items in
    let inside = within_store items c.args.place.generation c.in-Some.at c.in-Some.ensures in
    let here : slice_get items c.in-Some.at ≡ Some c.index-generation.result.now = slice_get_read items (length items) c.in-Some.at c.index-generation.result.now refl inside c.index-generation.ensures in
    leads_to items (place_view c.args.place) c.in-Some.at c.in-Some.ensures c.if-place-ne0.false c.index-generation.result.now here (sym c.if-not-is_part_of.ensures)
