-- A value that is put where a scalar stands is what its place holds then.
use Rattle.std.proofs.Common.{◌≡◌, ℕ, zero, suc, ◌+◌, true, List, [], ◌∷◌, ◌++◌, take, drop, set, Some, slice_get, refl, sym, ap, ◌∙◌, subst, arith}
use Rattle.std.proofs.lemmas.Option.{none-some}
use Rattle.pli_bytes.specs.Contents.{value_in}
use Rattle.pli_map.specs.Description.{Description}
use Rattle.pli_map.specs.Scalars.{is_scalar}
use Rattle.pli_map.specs.Values.{holds}
use Rattle.pli_value.specs.Value.{Value}
use Rattle.pli_world.specs.Storage.{Generation, Place, generation_in, values_from, with_values_at}
use Rattle.pli_world.specs.World.{World, Yields, held, stored}
use Rattle.pli_store.specs.answers.Found.{LeadsTo}
use Rattle.pli_store.specs.answers.Puts.{ValuesPut}
use Rattle.pli_store.specs.declared.part.GenerationPart.{GenerationPart}
use Rattle.pli_store.specs.declared.storage.Storage.{Storage}
use Rattle.pli_store.specs.views.StorageView.{made_count, storage_view, with_storage}
use Rattle.pli_store.proofs.PartAnswers.{held_scalar, kept_put, number_found, same_part, stored_done}
use Rattle.pli_store.proofs.RisingNumbers.{found_at}
use Rattle.pli_store.proofs.Searches.{stands_in_store}
use Rattle.pli_store.proofs.StandingParts.{held_there}

-- what is put somewhere stands there
set_there : {X : Type 0} (xs : List X) (i : ℕ) (x y : X) → slice_get xs i ≡ Some x → slice_get (set xs i y) i ≡ Some y
set_there [] i x y h = absurd (none-some x h)
set_there (z ∷ zs) zero x y h = refl
set_there (z ∷ zs) (suc i) x y h = set_there zs i x y h

-- a value that is put in the place of another
value_there : (k : ℕ) (vs : List Value) (x v : Value) → values_from k 1 vs ≡ x ∷ [] → values_from k 1 (with_values_at k (v ∷ []) vs) ≡ v ∷ []
value_there zero vs x v h = refl
value_there (suc k) [] x v h = cc
value_there (suc k) (y ∷ ys) x v h =
    let same : suc k + 1 ≡ suc (k + 1) = omega arith in
    ap (λ n. take 1 (drop k ((take k ys ++ v ∷ []) ++ drop n (y ∷ ys)))) same ∙ value_there k ys x v h

module _ (old : Storage) (new : List Generation) (made : ℕ) (p : Place) (part : GenerationPart) (d : Description) (is : p.description ≡ d)
    (l : LeadsTo (storage_view old) p part) (v : Value) (put : ValuesPut (storage_view old) new part d (v ∷ [])) where
  here : ValuesPut (storage_view old) new part p.description (v ∷ [])
  here = subst (λ e. ValuesPut (storage_view old) new part e (v ∷ [])) (sym is) put

  -- a value that may be put there is
  pub stored_in : made ≡ made_count old → holds d v ≡ true → (w : World) → stored p v (with_storage old w) ≡ Yields tt (record w { storage = new; made = made })
  stored_in same fits w =
      stored_done p (with_storage old w) part l new old.made old.rising v (ap (λ e. holds e v) is ∙ fits) here
      ∙ ap (λ m. Yields tt (record w { storage = new; made = m })) (sym same)

  abbrev was : Generation
  was = l.there.generation

  abbrev now : Generation
  now = record was { values = with_values_at l.there.scalar (v ∷ []) was.values }

  is_now : new ≡ set (storage_view old) part.at now
  is_now = here.changed ∙ ap (set (storage_view old) part.at) (same_part (storage_view old) part p.description here.there l.there (v ∷ []))

  stands : slice_get new part.at ≡ Some now
  stands = ap (λ gs. slice_get gs part.at) is_now ∙ set_there (storage_view old) part.at was now l.there.stands

  found : generation_in new p.generation ≡ Some now
  found =
      subst (λ n. generation_in new n ≡ Some now) (number_found (storage_view old) p.generation was l.found)
      (found_at 0 new old.made part.at now (kept_put (storage_view old) new part old.made old.rising d (v ∷ []) put).rising stands)

  -- the value that stood there
  before : is_scalar d ≡ true → (x : Value) × (values_from l.there.scalar 1 was.values ≡ x ∷ [])
  before scalar =
      let lies = stands_in_store old.generations.items part.at was l.there.stands in (
        value_in lies.0.bytes.items (record { offset = part.offset; description = p.description }),
        held_there old.generations.items part p.description l.there lies.0 lies.1 (ap is_scalar is ∙ scalar),
      )

  pub holds_new : is_scalar d ≡ true → (w : World) → held p (record w { storage = new; made = made }) ≡ Yields v (record w { storage = new; made = made })
  holds_new scalar w =
      held_scalar p (record w { storage = new; made = made }) part
      (record {
        outside = l.outside;
        there = record { generation = now; scalar = l.there.scalar; stands = stands; first = l.there.first };
        found = found;
        first = l.first;
      })
      v (ap is_scalar is ∙ scalar)
      (value_there l.there.scalar was.values (before scalar).0 v (before scalar).1)
