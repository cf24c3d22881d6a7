-- What operations on a place answer by what its part holds.
use Rattle.std.proofs.Common.{◌≡◌, ℕ, Bool, true, false, nat_eq, Option, Some, None, Err, List, [], ◌∷◌, if◌then◌else◌, refl, sym, ap, ◌∙◌}
use Rattle.pli_run.specs.declared.ending.RunError.{RunError}
use Rattle.pli_run.specs.declared.ending.RunError.TheVariants.{DeadLocator, DescriptionMismatch}
use Rattle.pli_map.specs.Same.{same}
use Rattle.pli_map.specs.Scalars.{is_area, is_scalar, scalars_in}
use Rattle.pli_map.specs.Values.{holds}
use Rattle.pli_value.specs.Value.{Value}
use Rattle.pli_world.specs.Storage.{Block, Contents, Generation, Place, block_at, generation_in, scalar_at, values_from}
use Rattle.pli_world.specs.World.{World, Yields, Raises, Wrong, used, held, stored, copied, parts_held, parts_stored}
use Rattle.pli_store.specs.answers.Answered.{Answered}
use Rattle.pli_store.specs.declared.fault.StoreFault.{StoreFault}
use Rattle.pli_store.specs.declared.fault.StoreFault.TheVariants.{Raised, NoRule, OutOfMemory}

-- ---- a use leaves the world as it is

data UsedIs (p : Place) (w : World) : Type 0 where
  Into : (c : Contents) → used p w ≡ Yields c w → UsedIs p w
  Dead : (e : RunError) → used p w ≡ Raises e w → UsedIs p w

used_is : (p : Place) (w : World) → UsedIs p w
used_is p w = by (generation_in w.storage p.generation) refl
  where
    alike : (g : Generation) → generation_in w.storage p.generation ≡ Some g → nat_eq p.position 0 ≡ false → (b : Block) → block_at g.blocks p.position ≡ Some b
        → (e : Bool) → same b.description p.whole ≡ e → UsedIs p w
    alike g found inside b there true e = Into (record { description = b.description; values = b.values }) (rw (found, inside, there, e) refl)
    alike g found inside b there false e = Dead DescriptionMismatch (rw (found, inside, there, e) refl)

    block : (g : Generation) → generation_in w.storage p.generation ≡ Some g → nat_eq p.position 0 ≡ false → (o : Option Block) → block_at g.blocks p.position ≡ o → UsedIs p w
    block g found inside None none = Dead DeadLocator (rw (found, inside, none) refl)
    block g found inside (Some b) there = alike g found inside b there (same b.description p.whole) refl

    at : (g : Generation) → generation_in w.storage p.generation ≡ Some g → (e : Bool) → nat_eq p.position 0 ≡ e → UsedIs p w
    at g found true outside = Into (record { description = g.description; values = g.values }) (rw (found, outside) refl)
    at g found false inside = block g found inside (block_at g.blocks p.position) refl

    by : (o : Option Generation) → generation_in w.storage p.generation ≡ o → UsedIs p w
    by None none = Dead DeadLocator (rw none refl)
    by (Some g) found = at g found (nat_eq p.position 0) refl

-- ---- what a place holds

module _ (p : Place) (w : World) where
  pub held_refused : {T U : Type 0} (view : T → List Value) (other : U → Value) (after : World) (f : StoreFault)
      → Answered view (Err f) w w (parts_held p w) → Answered other (Err f) w after (held p w)
  unfolding held
  held_refused view other after (Raised e) a = rw a refl
  held_refused view other after NoRule a = rw a refl
  held_refused view other after OutOfMemory a = tt

  module _ (vs : List Value) (a : parts_held p w ≡ Yields vs w) where
    pub held_many : is_scalar p.description ≡ false → held p w ≡ Wrong
    unfolding held
    held_many many = rw (a, many) refl

    pub held_one : (v : Value) → is_scalar p.description ≡ true → vs ≡ v ∷ [] → held p w ≡ Yields v w
    unfolding held
    held_one v scalar one = rw (a, scalar, one) refl

-- ---- what is put there

module _ (p : Place) (w : World) where
  held_into : (c : Contents) → used p w ≡ Yields c w → (k : ℕ) → scalar_at c p ≡ Some k → (vs : List Value) × (parts_held p w ≡ Yields vs w)
  unfolding parts_held
  held_into c u k first = (values_from k (scalars_in p.description) c.values, rw (u, first) refl)

  held_nowhere : (c : Contents) → used p w ≡ Yields c w → scalar_at c p ≡ None → parts_held p w ≡ Wrong
  unfolding parts_held
  held_nowhere c u none = rw (u, none) refl

  held_dead : (e : RunError) → used p w ≡ Raises e w → parts_held p w ≡ Raises e w
  unfolding parts_held
  held_dead e u = rw u refl

  stored_dead : (v : Value) (e : RunError) → used p w ≡ Raises e w → stored p v w ≡ Raises e w
  unfolding stored
  stored_dead v e u = rw u refl

  put_nowhere : (c : Contents) → used p w ≡ Yields c w → scalar_at c p ≡ None → (vs : List Value) → parts_stored p vs w ≡ Wrong
  unfolding parts_stored
  put_nowhere c u none vs = rw (u, none) refl

  stored_nowhere : (v : Value) (c : Contents) → used p w ≡ Yields c w → scalar_at c p ≡ None → stored p v w ≡ Wrong
  unfolding stored
  stored_nowhere v c u none = rw u (by (holds p.description v) (put_nowhere c u none (v ∷ [])))
    where
      by : (b : Bool) → parts_stored p (v ∷ []) w ≡ Wrong → (if b then parts_stored p (v ∷ []) w else Wrong) ≡ Wrong
      by true e = e
      by false e = refl

  raised : (v : Value) (x : RunError) → UsedIs p w → parts_held p w ≡ Raises x w → stored p v w ≡ Raises x w
  raised v x (Dead e u) a =
      let both = sym (held_dead e u) ∙ a in
      let alike : e ≡ x = cc in
      stored_dead v e u ∙ ap (λ f. Raises f w) alike
  raised v x (Into c u) a = by (scalar_at c p) refl
    where
      by : (o : Option ℕ) → scalar_at c p ≡ o → stored p v w ≡ Raises x w
      by None none = let both = sym (held_nowhere c u none) ∙ a in cc
      by (Some k) first = let h = held_into c u k first in let both = sym h.1 ∙ a in cc

  wrong : (v : Value) → UsedIs p w → parts_held p w ≡ Wrong → stored p v w ≡ Wrong
  wrong v (Dead e u) a = let both = sym (held_dead e u) ∙ a in cc
  wrong v (Into c u) a = by (scalar_at c p) refl
    where
      by : (o : Option ℕ) → scalar_at c p ≡ o → stored p v w ≡ Wrong
      by None none = stored_nowhere v c u none
      by (Some k) first = let h = held_into c u k first in let both = sym h.1 ∙ a in cc

  pub stored_refused : {T U : Type 0} (view : T → List Value) (other : U → Unit {0}) (v : Value) (after : World) (f : StoreFault)
      → Answered view (Err f) w w (parts_held p w) → Answered other (Err f) w after (stored p v w)
  stored_refused view other v after (Raised e) a = raised v e (used_is p w) a
  stored_refused view other v after NoRule a = wrong v (used_is p w) a
  stored_refused view other v after OutOfMemory a = tt

  module _ (vs : List Value) (a : parts_held p w ≡ Yields vs w) (v : Value) where
    pub misfit_by_bytes : holds p.description v ≡ false → stored p v w ≡ Wrong
    unfolding stored
    misfit_by_bytes misfit = by (used_is p w)
      where
        by : UsedIs p w → stored p v w ≡ Wrong
        by (Into c u) = rw (u, misfit) refl
        by (Dead e u) = let both = sym (held_dead e u) ∙ a in cc

    pub stored_by_bytes : holds p.description v ≡ true → stored p v w ≡ parts_stored p (v ∷ []) w
    unfolding stored
    stored_by_bytes fits = by (used_is p w)
      where
        by : UsedIs p w → stored p v w ≡ parts_stored p (v ∷ []) w
        by (Into c u) = rw (u, fits) refl
        by (Dead e u) = let both = sym (held_dead e u) ∙ a in cc

-- ---- copies

module _ (source target : Place) (w : World) where
  pub copied_refused : {T U : Type 0} (view : T → List Value) (other : U → Unit {0}) (after : World) (f : StoreFault)
      → Answered view (Err f) w w (parts_held source w) → Answered other (Err f) w after (copied source target w)
  unfolding copied
  copied_refused view other after (Raised e) a = rw a refl
  copied_refused view other after NoRule a = rw a refl
  copied_refused view other after OutOfMemory a = tt

  pub copied_by_bytes : is_area source.description ≡ false → same source.description target.description ≡ true → (vs : List Value)
      → parts_held source w ≡ Yields vs w → copied source target w ≡ parts_stored target vs w
  unfolding copied
  copied_by_bytes part equal vs a = rw (a, part, equal) refl
