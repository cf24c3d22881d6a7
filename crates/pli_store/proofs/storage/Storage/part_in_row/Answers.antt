use Rattle.std.proofs.Common.{◌≡◌, length, Some, slice_get, refl, sym, ap, subst, ◌∙◌}
use Rattle.std.proofs.lemmas.Bool.{ltb-true}
use Rattle.std.proofs.lemmas.Option.{slice_get_read}
use Rattle.pli_store.specs.answers.Found.{StandsAt}
use Rattle.pli_store.specs.views.StorageView.{place_view, storage_view}
use Rattle.pli_store.proofs.PlaceLemmas.{leads_to}
use Rattle.pli_store.proofs.Searches.{stands_at}
use Rattle.pli_store.proofs.storage.Storage.part_in_row.Goals as goal

pub returns : goal.returns
returns c =
    let items = c.args.self.now.generations.items in
    let place = c.args.place in
    let g = c.in_ok-generation.generation.now in
    let here : slice_get items place.hint ≡ Some g =
    ap (λ xs. slice_get xs place.hint) (sym c.deref.ensures.value)
    ∙ slice_get_read c.deref.result.now (length c.deref.result.now) place.hint g refl (ltb-true place.hint (length c.deref.result.now) (sym c.in_ok-generation.ensures.lookup.0)) c.in_ok-generation.ensures.lookup.1 in
    let stands = subst (λ n. StandsAt (storage_view c.args.self.now) n place.hint) c.if-generation-place.false (stands_at items c.args.self.now.made c.args.self.now.rising place.hint g here) in
    leads_to items (place_view place) place.hint stands c.if-place-ne0.false g here (c.if-not-stands_near.ensures refl)

pub stands_near-requires-clause-mark : goal.stands_near-requires-clause-mark
stands_near-requires-clause-mark c = λ some. absurd (some refl)
