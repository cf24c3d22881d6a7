-- What is answered where a number is put at a place, and where characters are put after others.
use Rattle.std.proofs.Common.{◌≡◌, ◌↔◌, ℕ, ◌≤◌, ◌<◌, ℤ, Bool, true, false, true≢false, IsTrue, IsFalse, List, [], ◌∷◌, ◌++◌, length, refl, subst, ap, ◌∙◌, sym, arith}
use Rattle.std.proofs.lemmas.Bool.{le-leb}
use Rattle.pli_bytes.specs.Contents.{value_in}
use Rattle.pli_map.specs.Description.{Description, FixedBinary, Varying}
use Rattle.pli_map.specs.Scalars.{is_scalar}
use Rattle.pli_map.specs.Values.{holds}
use Rattle.pli_value.specs.Value.{Value, Number, Characters}
use Rattle.pli_world.specs.Storage.{Place, values_from}
use Rattle.pli_world.specs.World.{World, Yields, held, stored}
use Rattle.pli_store.specs.answers.Found.{PartStands, LeadsTo}
use Rattle.pli_store.specs.answers.Puts.{ValuesPut, ValuesPutOrSame, LengthenedOrSame, IsTooLong}
use Rattle.pli_store.specs.declared.part.GenerationPart.{GenerationPart}
use Rattle.pli_store.specs.declared.storage.Storage.{Storage}
use Rattle.pli_store.specs.views.StorageView.{storage_view, made_count, with_storage, ValuePut, CannotPutNumber, Appended, CannotAppend}
use Rattle.pli_store.proofs.PartAnswers.{held_scalar, stored_done}
use Rattle.pli_store.proofs.Searches.{stands_in_store}
use Rattle.pli_store.proofs.StandingParts.{held_there}

module _ (old new : Storage) (p : Place) (part : GenerationPart) (d : Description) (is : p.description ≡ d)
    (same : made_count new ≡ made_count old) (l : LeadsTo (storage_view old) p part) where
  stored_new : (v : Value) → holds d v ≡ true → ValuesPut (storage_view old) (storage_view new) part d (v ∷ [])
      → (w : World) → stored p v (with_storage old w) ≡ Yields tt (with_storage new w)
  stored_new v fits put w =
      stored_done p (with_storage old w) part l (storage_view new) old.made old.rising v (ap (λ e. holds e v) is ∙ fits)
      (subst (λ e. ValuesPut (storage_view old) (storage_view new) part e (v ∷ [])) (sym is) put)
      ∙ ap (λ m. Yields tt (record w { storage = storage_view new; made = m })) (sym same)

  -- only what is put has to be a value that the part may hold
  pub value_is_put_where : (b : Bool) (v : Value) → (b ≡ true → holds d v ≡ true) → ValuesPutOrSame b (storage_view old) (storage_view new) part d (v ∷ []) → ValuePut b old new p v
  value_is_put_where true v fits put = stored_new v (fits refl) put
  value_is_put_where false v fits put = record { storage = put; made = same }

  pub value_is_put : (b : Bool) (v : Value) → holds d v ≡ true → ValuesPutOrSame b (storage_view old) (storage_view new) part d (v ∷ []) → ValuePut b old new p v
  value_is_put b v fits put = value_is_put_where b v (λ e. fits) put

pub is_appended : (old new : Storage) (p : Place) (part : GenerationPart) (greatest : ℕ) → p.description ≡ Varying greatest → made_count new ≡ made_count old
    → LeadsTo (storage_view old) p part → (b : Bool) (more : List ℕ) (room : ℕ)
    → LengthenedOrSame b (storage_view old) (storage_view new) part greatest more room → Appended b old new p more room
is_appended old new p part greatest is same l true more room a = record {
  text = a.text;
  was = λ w.
      held_scalar p (with_storage old w) part l (Characters a.text) (ap is_scalar is)
      (subst (λ d. (t : PartStands (storage_view old) part d) → values_from t.scalar 1 t.generation.values ≡ Characters a.text ∷ []) (sym is) a.was l.there);
  puts =
      stored_new old new p part (Varying greatest) is same l (Characters (a.text ++ more)) (le-leb (length (a.text ++ more)) greatest a.short) a.puts;
  fits = a.fits;
}
is_appended old new p part greatest is same l false more room a = record { storage = a; made = same }

-- a number is refused only by what the description of its place may not hold
pub number_refused : (s : Storage) (p : Place) (precision : ℕ) (x : ℤ) → p.description ≡ FixedBinary precision → (b : Bool)
    → (IsTrue b ↔ ((precision ≤ 63) × (holds (FixedBinary precision) (Number x) ≡ true))) → IsFalse b → CannotPutNumber s p x
number_refused s p precision x is b held e = λ other is_other few holds_it part there.
    let same : other ≡ precision = cc (is_other, is) in
    true≢false (sym (held.1 (omega (arith, few, same), ap (λ (d : Description). holds d (Number x)) (sym is) ∙ holds_it)) ∙ e)

-- what a place holds is what stands there, so it is too long as well
pub append_refused : (s : Storage) (p : Place) (part : GenerationPart) (greatest : ℕ) → p.description ≡ Varying greatest → LeadsTo (storage_view s) p part
    → (more : List ℕ) (room : ℕ) → IsTooLong (storage_view s) part greatest more room → CannotAppend s p more room
append_refused s p part greatest is l more room long = λ other is_other any there w text holds_it fits.
    let items = s.generations.items in
    let scalar = ap is_scalar is in
    let found = stands_in_store items part.at l.there.generation l.there.stands in
    let v : Value = value_in found.0.bytes.items (record { offset = part.offset; description = p.description }) in
    let one : values_from l.there.scalar 1 l.there.generation.values ≡ v ∷ [] = held_there items part p.description l.there found.0 found.1 scalar in
    let yields = held_scalar p (with_storage s w) part l v scalar one in
    let same : v ≡ Characters text = cc (yields, holds_it) in
    let sized : other ≡ greatest = cc (is_other, is) in
    let Long : Description → Type 0 = λ d. (t : PartStands (storage_view s) part d) (chars : List ℕ) → values_from t.scalar 1 t.generation.values ≡ Characters chars ∷ []
    → length (chars ++ more) ≤ greatest → room < length (chars ++ more) in
    subst Long (sym is) long l.there text (one ∙ ap (λ (u : Value). u ∷ []) same) (omega (arith, fits, sized))
