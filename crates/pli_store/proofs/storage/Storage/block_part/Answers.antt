use Rattle.std.proofs.Common.{◌≡◌, length, Some, slice_get, refl, sym, ap, ◌∙◌, arith, ne_eqb}
use Rattle.std.proofs.lemmas.Bool.Decides.{same_from_decides}
use Rattle.std.proofs.lemmas.Option.{slice_get_read}
use Rattle.pli_area_blocks.proofs.Options.{unmapped_one}
use Rattle.pli_map.specs.Same.{same}
use Rattle.pli_map.specs.laws.SameLaws.{same_decides}
use Rattle.pli_map.specs.views.DescriptionView.{description_view}
use Rattle.pli_world.specs.Storage.{Block, block_at, generation_in}
use Rattle.pli_store.specs.views.GenerationView.{generation_view}
use Rattle.pli_store.specs.views.StorageView.{place_view}
use Rattle.pli_store.proofs.BlockPlaces.{block_replaced, block_leads, block_leads_nowhere}
use Rattle.pli_store.proofs.PlaceLemmas.{within_store, stored_one}
use Rattle.pli_store.proofs.storage.Storage.block_part.Goals as goal

pub index-requires : goal.index-requires
index-requires c =
    let inside = within_store c.args.self.now.generations.items c.args.place.generation c.in-Some.at c.in-Some.ensures in
    omega (arith, inside)

pub returns-then-not-equals : goal.returns-then-not-equals
returns-then-not-equals c = λ w alike.
    let items = c.args.self.now.generations.items in
    let p = place_view c.args.place in
    let at = c.in-Some.at in
    let s = c.in-Some.ensures in
    let inside = ne_eqb c.args.place.position 0 c.requires in
    let g = c.index.result.now in
    let here : slice_get items at ≡ Some g = slice_get_read items (length items) at g refl (within_store items c.args.place.generation at s) c.index.ensures in
    let d = description_view c.in-Some-whole_at.whole.now in
    let told = same_from_decides c.equals.result (same d p.whole) c.equals.ensures (same_decides d p.whole) in
    let b = unmapped_one (λ (b : Block). b.description) (block_at (generation_view g).blocks p.position) d c.in-Some-whole_at.ensures in
    block_replaced p w inside (generation_view g) (ap (λ gs. generation_in gs p.generation) alike ∙ stored_one items p.generation at g s here) b.0 b.1
    (ap (λ e. same e p.whole) b.2 ∙ sym told ∙ c.if-not-equals.true)

pub returns-then-not-is_part : goal.returns-then-not-is_part
returns-then-not-is_part c =
    let items = c.args.self.now.generations.items in
    let p = place_view c.args.place in
    let at = c.in-Some.at in
    let s = c.in-Some.ensures in
    let inside = ne_eqb c.args.place.position 0 c.requires in
    let g = c.index.result.now in
    let here : slice_get items at ≡ Some g = slice_get_read items (length items) at g refl (within_store items c.args.place.generation at s) c.index.ensures in
    let d = description_view c.in-Some-whole_at.whole.now in
    let told = same_from_decides c.equals.result (same d p.whole) c.equals.ensures (same_decides d p.whole) in
    let b = unmapped_one (λ (b : Block). b.description) (block_at (generation_view g).blocks p.position) d c.in-Some-whole_at.ensures in
    block_leads_nowhere items p at s inside g here b.0 b.1 d b.2 (sym told ∙ c.if-not-equals.false) (sym c.if-not-is_part.ensures)

pub returns : goal.returns
returns c =
    let items = c.args.self.now.generations.items in
    let p = place_view c.args.place in
    let at = c.in-Some.at in
    let s = c.in-Some.ensures in
    let inside = ne_eqb c.args.place.position 0 c.requires in
    let g = c.index.result.now in
    let here : slice_get items at ≡ Some g = slice_get_read items (length items) at g refl (within_store items c.args.place.generation at s) c.index.ensures in
    let d = description_view c.in-Some-whole_at.whole.now in
    let told = same_from_decides c.equals.result (same d p.whole) c.equals.ensures (same_decides d p.whole) in
    let b = unmapped_one (λ (b : Block). b.description) (block_at (generation_view g).blocks p.position) d c.in-Some-whole_at.ensures in
    block_leads items p at s inside g here b.0 b.1 d b.2 (sym told ∙ c.if-not-equals.false) (sym c.if-not-is_part.ensures)
