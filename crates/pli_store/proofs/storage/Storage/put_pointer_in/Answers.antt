use Rattle.std.proofs.Common.{◌≡◌, true, [], ◌∷◌, map, true≢false, refl, sym, ap, ◌∙◌, subst}
use Rattle.pli_bytes.specs.Contents.{value_in}
use Rattle.pli_map.specs.Description.{Pointer}
use Rattle.pli_map.specs.Scalars.{is_scalar}
use Rattle.pli_map.specs.Values.{holds}
use Rattle.pli_value.specs.Value.{Located}
use Rattle.pli_store.specs.answers.Found.{PartStands}
use Rattle.pli_store.specs.answers.Puts.{ValuesPut, ValuesPutOrSame}
use Rattle.pli_store.specs.views.GenerationView.{generation_view}
use Rattle.pli_store.specs.views.StorageView.{place_view, storage_view, with_storage}
use Rattle.pli_store.proofs.PartAnswers.{held_then, kept_or_same}
use Rattle.pli_store.proofs.PutAnswers.{value_is_put_where}
use Rattle.pli_store.proofs.Searches.{stands_in_store}
use Rattle.pli_store.proofs.StandingParts.{held_there}
use Rattle.pli_store.proofs.storage.Storage.put_pointer_in.Goals as goal

pub put_pointer-requires : goal.put_pointer-requires
put_pointer-requires c = subst (PartStands (storage_view c.args.self.now) c.args.part) (c.requires.description) c.requires.leads.there

pub invariant_of-self : goal.invariant_of-self
invariant_of-self c =
    let kept = kept_or_same (storage_view c.args.self.now) (map generation_view c.put_pointer.new.generations.items) c.args.part
    c.args.self.now.made c.args.self.now.rising c.put_pointer.result Pointer (Located c.args.locator ∷ []) c.put_pointer.ensures.put in
    record { counted = c.args.self.now.counted ∙ sym kept.counted; limited = c.args.self.now.limited; rising = kept.rising }

pub returns-clause-put : goal.returns-clause-put
returns-clause-put c =
    value_is_put_where c.args.self.now _ (place_view c.args.place) c.args.part Pointer (c.requires.description) refl c.requires.leads
    c.put_pointer.result (Located c.args.locator) c.put_pointer.ensures.held.0 c.put_pointer.ensures.put

pub returns-clause-refused : goal.returns-clause-refused
returns-clause-refused c = λ e held.
    absurd (true≢false (sym (c.put_pointer.ensures.held.1 (ap (λ d. holds d (Located c.args.locator)) (sym c.requires.description) ∙ held)) ∙ e))

pub returns-clause-held : goal.returns-clause-held
returns-clause-held c = λ e w.
    let s = c.args.self.now in
    let items = s.generations.items in
    let p = place_view c.args.place in
    let part = c.args.part in
    let l = c.requires.leads in
    let new = map generation_view c.put_pointer.new.generations.items in
    let v = Located c.args.locator in
    let scalar : is_scalar p.description ≡ true = ap is_scalar c.requires.description in
    let found = stands_in_store items part.at l.there.generation l.there.stands in
    let put = subst (λ b. ValuesPutOrSame b (storage_view s) new part Pointer (v ∷ [])) e c.put_pointer.ensures.put in
    held_then p (with_storage s w) part l new s.made s.rising (value_in found.0.bytes.items (record { offset = part.offset; description = p.description })) v scalar
    (held_there items part p.description l.there found.0 found.1 scalar)
    (subst (λ d. ValuesPut (storage_view s) new part d (v ∷ [])) (sym c.requires.description) put) _ refl
