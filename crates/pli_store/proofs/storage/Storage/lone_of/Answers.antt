use Rattle.std.proofs.Common.{◌≡◌, ◌≢◌, true, length, Some, slice_get, refl, sym, ap, subst, ◌∙◌}
use Rattle.std.specs.Option.{is_some}
use Rattle.std.proofs.lemmas.Bool.{ltb-true}
use Rattle.std.proofs.lemmas.Option.{slice_get_read}
use Rattle.pli_map.specs.Description.{FixedBinary}
use Rattle.pli_map.specs.Scalars.{first_scalar}
use Rattle.pli_map.specs.views.DescriptionView.{description_view}
use Rattle.pli_map.proofs.ScalarLawsHold.{whole_found}
use Rattle.pli_store.specs.answers.Found.{StandsAt, LeadsTo}
use Rattle.pli_store.specs.views.StorageView.{place_view, storage_view}
use Rattle.pli_store.proofs.PlaceLemmas.{leads_to, is_number}
use Rattle.pli_store.proofs.Searches.{stands_at}
use Rattle.pli_store.proofs.storage.Storage.lone_of.Goals as goal

pub returns : goal.returns
returns c = λ digits.
    let items = c.args.self.now.generations.items in
    let place = c.args.place in
    let g = c.in_ok-generation.generation.now in
    let here : slice_get items place.hint ≡ Some g =
    ap (λ xs. slice_get xs place.hint) (sym c.deref.ensures.value)
    ∙ slice_get_read c.deref.result.now (length c.deref.result.now) place.hint g refl (ltb-true place.hint (length c.deref.result.now) (sym c.in_ok-generation.ensures.lookup.0)) c.in_ok-generation.ensures.lookup.1 in
    let stands = subst (λ n. StandsAt (storage_view c.args.self.now) n place.hint) c.if-generation-place.false (stands_at items c.args.self.now.made c.args.self.now.rising place.hint g here) in
    let whole = description_view g.description.now in
    let part = description_view place.description.now in
    let some : place.digits ≢ 0 = (λ e. c.requires (sym digits ∙ e)) in
    let alone = place.alone some in
    let is : part ≡ FixedBinary place.digits = is_number part place.digits some alone.2 in
    let same : g.digits ≡ place.digits = c.if-generation-digits.false ∙ sym digits in
    let wide : whole ≡ FixedBinary place.digits = is_number whole place.digits some (sym same ∙ g.alone) in
    let found : is_some (first_scalar whole 0 part) ≡ true =
    subst (λ d. is_some (first_scalar whole 0 d) ≡ true) (wide ∙ sym is) (ap is_some (whole_found whole)) in
    record {
      leads =
          subst (λ o. LeadsTo (storage_view c.args.self.now) (place_view place) (record { at = place.hint; offset = o })) alone.1
          (leads_to items (place_view place) place.hint stands alone.0 g here (rw alone.1 found));
      precision = is ∙ ap FixedBinary digits;
    }
