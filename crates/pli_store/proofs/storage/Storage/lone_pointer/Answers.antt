use Rattle.std.proofs.Common.{◌≡◌, ◌≢◌, true, length, Some, slice_get, refl, sym, ap, subst, ◌∙◌}
use Rattle.std.specs.Option.{is_some}
use Rattle.std.proofs.lemmas.Bool.{ltb-true}
use Rattle.std.proofs.lemmas.Option.{slice_get_read}
use Rattle.pli_map.specs.Description.{Pointer}
use Rattle.pli_map.specs.Marks.{HasMark}
use Rattle.pli_map.specs.Scalars.{first_scalar}
use Rattle.pli_map.specs.views.DescriptionView.{description_view}
use Rattle.pli_map.proofs.MarkLemmas.{same_of_one}
use Rattle.pli_map.proofs.ScalarLawsHold.{whole_found}
use Rattle.pli_store.specs.answers.Found.{StandsAt, LeadsTo}
use Rattle.pli_store.specs.views.StorageView.{place_view, storage_view}
use Rattle.pli_store.proofs.PlaceLemmas.{leads_to}
use Rattle.pli_store.proofs.Searches.{stands_at}
use Rattle.pli_store.proofs.storage.Storage.lone_pointer.Goals as goal

pub returns : goal.returns
returns c =
    let items = c.args.self.now.generations.items in
    let place = c.args.place in
    let g = c.in_ok-generation.generation.now in
    let here : slice_get items place.hint ≡ Some g =
    ap (λ xs. slice_get xs place.hint) (sym c.deref.ensures.value)
    ∙ slice_get_read c.deref.result.now (length c.deref.result.now) place.hint g refl (ltb-true place.hint (length c.deref.result.now) (sym c.in_ok-generation.ensures.lookup.0)) c.in_ok-generation.ensures.lookup.1 in
    let stands = subst (λ n. StandsAt (storage_view c.args.self.now) n place.hint) c.if-generation-place.false (stands_at items c.args.self.now.made c.args.self.now.rising place.hint g here) in
    let start = c.if-not-is_at_start.ensures refl in
    let part : description_view place.description.now ≡ Pointer = c.if-not-is_pointer.ensures.0 refl in
    let marked : HasMark (description_view g.description.now) 5 = subst (HasMark (description_view g.description.now)) c.if-generation-ne-POINTER_MARK.false g.marked in
    let whole : description_view g.description.now ≡ Pointer = same_of_one (description_view g.description.now) Pointer 5 (λ e. cc) marked (λ some. (refl, refl)) in
    let found : is_some (first_scalar (description_view g.description.now) 0 (description_view place.description.now)) ≡ true =
    subst (λ d. is_some (first_scalar (description_view g.description.now) 0 d) ≡ true) (whole ∙ sym part) (ap is_some (whole_found (description_view g.description.now))) in
    record {
      leads =
          subst (λ o. LeadsTo (storage_view c.args.self.now) (place_view place) (record { at = place.hint; offset = o })) start.1
          (leads_to items (place_view place) place.hint stands start.0 g here (rw start.1 found));
      pointer = part;
    }
