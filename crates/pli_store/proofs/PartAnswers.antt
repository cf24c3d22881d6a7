-- What operations on a place answer where it leads to a part, where it leads nowhere, and where it is dead.
use Rattle.std.proofs.Common.{◌≡◌, ℕ, zero, suc, Bool, true, false, nat_eq, List, [], ◌∷◌, ◌++◌, take, drop, set, Some, None, MatchOption, Result, Ok, Err, if◌then◌else◌, refl, sym, ap, ◌∙◌, subst}
use Rattle.std.specs.Result.{result_ok}
use Rattle.std.proofs.lemmas.Bool.{eqb-true}
use Rattle.std.proofs.lemmas.Option.{same_Some, none-some}
use Rattle.pli_run.specs.declared.ending.RunError.TheVariants.{DeadLocator}
use Rattle.pli_map.specs.Description.{Description, Varying}
use Rattle.pli_map.specs.Scalars.{first_scalar, is_scalar, scalars_in}
use Rattle.pli_map.specs.Values.{holds}
use Rattle.pli_value.specs.Value.{Value, Characters}
use Rattle.pli_world.specs.Storage.{Generation, Place, contents_of, generation_in, values_from, with_values, with_values_at, live_bytes}
use Rattle.pli_world.specs.World.{World, Answer, Yields, Raises, Wrong, used, held, stored, parts_held, parts_stored}
use Rattle.pli_store.specs.answers.Answered.{Answered}
use Rattle.pli_store.specs.answers.Found.{PartStands, LeadsTo, LeadsToNone, LeadsNowhere, Leads}
use Rattle.pli_store.specs.answers.Kept.{rise}
use Rattle.pli_store.specs.answers.Puts.{ValuesPut, ValuesPutOrSame, LengthenedOrSame}
use Rattle.pli_store.specs.declared.fault.StoreFault.{StoreFault}
use Rattle.pli_store.specs.declared.fault.StoreFault.TheVariants.{Raised, NoRule, OutOfMemory}
use Rattle.pli_store.specs.declared.part.GenerationPart.{GenerationPart}
use Rattle.pli_store.proofs.HeldScalars.{one_scalar}
use Rattle.pli_store.proofs.RisingNumbers.{changed_at, rise_changed, live_changed}

-- ---- a dead place

pub held_dead : (p : Place) (w : World) → generation_in w.storage p.generation ≡ None → held p w ≡ Raises DeadLocator w
unfolding held parts_held
held_dead p w e = rw e refl

pub stored_dead : (p : Place) (v : Value) (w : World) → generation_in w.storage p.generation ≡ None → stored p v w ≡ Raises DeadLocator w
unfolding stored
stored_dead p v w e = rw e refl

-- ---- a place that leads nowhere

pub held_nowhere : (p : Place) (w : World) → LeadsNowhere w.storage p → held p w ≡ Wrong
unfolding held parts_held
held_nowhere p w l = rw (l.found, l.outside, l.nowhere) refl

wrong_both : {A : Type 0} (b : Bool) (a : Answer A) → a ≡ Wrong → (if b then a else Wrong) ≡ Wrong
wrong_both true a e = e
wrong_both false a e = refl

-- a place outside areas is used
used_at : (p : Place) (w : World) (g : Generation) → p.position ≡ 0 → generation_in w.storage p.generation ≡ Some g
    → used p w ≡ Yields (contents_of g) w
used_at p w g outside found = rw (found, outside) refl

parts_stored_nowhere : (p : Place) (vs : List Value) (w : World) → LeadsNowhere w.storage p → parts_stored p vs w ≡ Wrong
unfolding parts_stored
parts_stored_nowhere p vs w l = rw (l.found, l.outside, l.nowhere) refl

pub stored_nowhere : (p : Place) (v : Value) (w : World) → LeadsNowhere w.storage p → stored p v w ≡ Wrong
unfolding stored
stored_nowhere p v w l =
    rw (used_at p w l.generation l.outside l.found)
    (wrong_both (holds p.description v) (parts_stored p (v ∷ []) w) (parts_stored_nowhere p (v ∷ []) w l))

-- ---- where no part is found

pub held_failed : {T : Type 0} (view : T → Value) (p : Place) (w after : World) → p.position ≡ 0 → (fault : StoreFault) → Leads w.storage p (Err fault) → Answered view (Err fault) w after (held p w)
held_failed view p w after outside (Raised e) l = held_dead p w l.1 ∙ ap (λ x. Raises x w) (sym l.0)
held_failed view p w after outside NoRule l = held_nowhere p w (l outside)
held_failed view p w after outside OutOfMemory l = tt

pub stored_failed : {T : Type 0} (view : T → Unit {0}) (p : Place) (v : Value) (w after : World) → p.position ≡ 0 → (fault : StoreFault) → Leads w.storage p (Err fault) → Answered view (Err fault) w after (stored p v w)
stored_failed view p v w after outside (Raised e) l = stored_dead p v w l.1 ∙ ap (λ x. Raises x w) (sym l.0)
stored_failed view p v w after outside NoRule l = stored_nowhere p v w (l outside)
stored_failed view p v w after outside OutOfMemory l = tt

pub part_unread : {T : Type 0} (view : T → List Value) (p : Place) (w after : World) → p.position ≡ 0 → (fault : StoreFault) → Leads w.storage p (Err fault)
    → Answered view (Err fault) w after (parts_held p w)
unfolding parts_held
part_unread view p w after outside (Raised e) l = rw (l.1, l.0) refl
part_unread view p w after outside NoRule l = let m = l outside in rw (m.found, m.outside, m.nowhere) refl
part_unread view p w after outside OutOfMemory l = tt

pub part_unwritten : {T : Type 0} (view : T → Unit {0}) (p : Place) (vs : List Value) (w after : World) → p.position ≡ 0 → (fault : StoreFault)
    → Leads w.storage p (Err fault) → Answered view (Err fault) w after (parts_stored p vs w)
unfolding parts_stored
part_unwritten view p vs w after outside (Raised e) l = rw (l.1, l.0) refl
part_unwritten view p vs w after outside NoRule l = parts_stored_nowhere p vs w (l outside)
part_unwritten view p vs w after outside OutOfMemory l = tt

pub leads_to_none : (gs : List Generation) (p : Place) (fault : StoreFault) → Leads gs p (Err fault) → LeadsToNone gs p
leads_to_none gs p (Raised e) l = λ part there. none-some there.there.generation (sym l.1 ∙ there.found)
leads_to_none gs p NoRule l = λ part there.
    let n = l there.outside in
    let same : n.generation ≡ there.there.generation = same_Some n.generation there.there.generation (sym n.found ∙ there.found) in
    none-some there.there.scalar
    (sym n.nowhere ∙ ap (λ (g : Generation). first_scalar g.description p.offset p.description) same ∙ there.first)
leads_to_none gs p OutOfMemory l = absurd l

pub leads_or_not : (gs : List Generation) (p : Place) (r : Result GenerationPart StoreFault) → Leads gs p r
    → MatchOption (result_ok r) (LeadsToNone gs p) (λ part. LeadsTo gs p part)
leads_or_not gs p (Ok part) l = l
leads_or_not gs p (Err fault) l = leads_to_none gs p fault l

-- ---- a place that leads to a part

module _ (p : Place) (w : World) (part : GenerationPart) (l : LeadsTo w.storage p part) where
  pub parts_held_there : parts_held p w ≡ Yields (values_from l.there.scalar (scalars_in p.description) l.there.generation.values) w
  unfolding parts_held
  parts_held_there = rw (l.found, l.outside, l.first) refl

  pub parts_stored_there : (vs : List Value) → parts_stored p vs w ≡ Yields tt (record w { storage = with_values w.storage p.generation (with_values_at l.there.scalar vs l.there.generation.values) })
  unfolding parts_stored
  parts_stored_there vs = rw (l.found, l.outside, l.first) refl

  pub held_aggregate : is_scalar p.description ≡ false → held p w ≡ Wrong
  unfolding held
  held_aggregate not = rw parts_held_there (rw not refl)

  pub held_scalar : (v : Value) → is_scalar p.description ≡ true → values_from l.there.scalar 1 l.there.generation.values ≡ v ∷ [] → held p w ≡ Yields v w
  unfolding held
  held_scalar v scalar one = rw parts_held_there (rw scalar (rw (one_scalar p.description scalar) (rw one refl)))

  pub stored_misfit : (v : Value) → holds p.description v ≡ false → stored p v w ≡ Wrong
  unfolding stored
  stored_misfit v misfit = rw (used_at p w l.there.generation l.outside l.found, misfit) refl

  pub stored_there : (v : Value) → holds p.description v ≡ true → stored p v w ≡ Yields tt (record w { storage = with_values w.storage p.generation (with_values_at l.there.scalar (v ∷ []) l.there.generation.values) })
  unfolding stored
  stored_there v fits = rw (used_at p w l.there.generation l.outside l.found, fits) (parts_stored_there (v ∷ []))

-- ---- what is put there

pub number_found : (gs : List Generation) (number : ℕ) (g : Generation) → generation_in gs number ≡ Some g → g.number ≡ number
number_found [] number g h = absurd (none-some g h)
number_found (x ∷ gs) number g h = by (nat_eq x.number number) refl h (number_found gs number g)
  where
    by : (b : Bool) → nat_eq x.number number ≡ b → (if b then Some x else generation_in gs number) ≡ Some g → (generation_in gs number ≡ Some g → g.number ≡ number) → g.number ≡ number
    by true e found rest = ap (λ (y : Generation). y.number) (sym (same_Some x g found)) ∙ eqb-true x.number number e
    by false e found rest = rest found

-- the generation of a number, of which values have changed
found_changed : (gs : List Generation) (number : ℕ) (vs : List Value) (g : Generation) → generation_in gs number ≡ Some g
    → generation_in (with_values gs number vs) number ≡ Some (record g { values = vs })
found_changed [] number vs g h = absurd (none-some g h)
found_changed (x ∷ gs) number vs g h = by (nat_eq x.number number) refl h (found_changed gs number vs g)
  where
    by : (b : Bool) → nat_eq x.number number ≡ b → (if b then Some x else generation_in gs number) ≡ Some g
        → (generation_in gs number ≡ Some g → generation_in (with_values gs number vs) number ≡ Some (record g { values = vs }))
        → generation_in (if b then record x { values = vs } ∷ gs else x ∷ with_values gs number vs) number ≡ Some (record g { values = vs })
    by true e found rest =
        ap (λ c. if c then Some (record x { values = vs }) else generation_in gs number) e
        ∙ ap (λ (y : Generation). Some (record y { values = vs })) (same_Some x g found)
    by false e found rest = ap (λ c. if c then Some x else generation_in (with_values gs number vs) number) e ∙ rest found

-- a value in the place of one that stands among others
put_among : (k : ℕ) (vs rest : List Value) (u v : Value) → take 1 (drop k vs) ≡ u ∷ [] → take 1 (drop k ((take k vs ++ (v ∷ [])) ++ rest)) ≡ v ∷ []
put_among zero vs rest u v e = refl
put_among (suc k) [] rest u v e = absurd (let none : [] ≡ u ∷ [] = e in cc)
put_among (suc k) (x ∷ vs) rest u v e = put_among k vs rest u v e

put_then : (k : ℕ) (vs : List Value) (u v : Value) → values_from k 1 vs ≡ u ∷ [] → values_from k 1 (with_values_at k (v ∷ []) vs) ≡ v ∷ []
put_then k vs u v e = put_among k vs _ u v e

-- what a place holds, by its generation
held_changed : (p : Place) (w : World) (g : Generation) (k : ℕ) (v : Value) → p.position ≡ 0 → generation_in w.storage p.generation ≡ Some g
    → first_scalar g.description p.offset p.description ≡ Some k → is_scalar p.description ≡ true → values_from k 1 g.values ≡ v ∷ [] → held p w ≡ Yields v w
unfolding held parts_held
held_changed p w g k v outside found first scalar one =
    rw (found, outside, first) (rw scalar (rw (one_scalar p.description scalar) (rw one refl)))

-- one part that stands there is the other
pub same_part : (gs : List Generation) (part : GenerationPart) (d : Description) (s t : PartStands gs part d) (vs : List Value)
    → record s.generation { values = with_values_at s.scalar vs s.generation.values } ≡ record t.generation { values = with_values_at t.scalar vs t.generation.values }
same_part gs part d s t vs =
    let same : s.generation ≡ t.generation = same_Some s.generation t.generation (sym s.stands ∙ t.stands) in
    let first : s.scalar ≡ t.scalar = same_Some s.scalar t.scalar (sym s.first ∙ ap (λ (g : Generation). first_scalar g.description part.offset d) same ∙ t.first) in
    ap (λ n. record s.generation { values = with_values_at n vs s.generation.values }) first
    ∙ ap (λ (g : Generation). record g { values = with_values_at t.scalar vs g.values }) same

module _ (p : Place) (w : World) (part : GenerationPart) (l : LeadsTo w.storage p part) (new : List Generation) (to : ℕ) (r : rise 0 w.storage to ≡ true) where
  pub put_there : (vs : List Value) → ValuesPut w.storage new part p.description vs → with_values w.storage p.generation (with_values_at l.there.scalar vs l.there.generation.values) ≡ new
  put_there vs put =
      let g = l.there.generation in
      ap (λ n. with_values w.storage n (with_values_at l.there.scalar vs g.values)) (sym (number_found w.storage p.generation g l.found))
      ∙ changed_at 0 w.storage to part.at g (with_values_at l.there.scalar vs g.values) r l.there.stands
      ∙ ap (set w.storage part.at) (same_part w.storage part p.description l.there put.there vs)
      ∙ sym put.changed

  pub stored_done : (v : Value) → holds p.description v ≡ true → ValuesPut w.storage new part p.description (v ∷ []) → stored p v w ≡ Yields tt (record w { storage = new })
  stored_done v fits put = stored_there p w part l v fits ∙ ap (λ s. Yields tt (record w { storage = s })) (put_there (v ∷ []) put)

  -- what is put is held in every world with that storage, where a value was held before
  pub held_then : (u v : Value) → is_scalar p.description ≡ true → values_from l.there.scalar 1 l.there.generation.values ≡ u ∷ [] → ValuesPut w.storage new part p.description (v ∷ [])
      → (later : World) → later.storage ≡ new → held p later ≡ Yields v later
  held_then u v scalar one put later is =
      let g = l.there.generation in
      let k = l.there.scalar in
      let vs = with_values_at k (v ∷ []) g.values in
      held_changed p later (record g { values = vs }) k v l.outside
      (ap (λ gs. generation_in gs p.generation) (is ∙ sym (put_there (v ∷ []) put)) ∙ found_changed w.storage p.generation vs g l.found)
      l.first scalar (put_then k g.values u v one)

-- ---- what is kept

pub record Kept (old new : List Generation) (to : ℕ) : Type 0 where
  pub rising : rise 0 new to ≡ true
  pub counted : live_bytes new ≡ live_bytes old

module _ (old new : List Generation) (part : GenerationPart) (to : ℕ) (r : rise 0 old to ≡ true) where
  pub kept_put : (d : Description) (vs : List Value) → ValuesPut old new part d vs → Kept old new to
  kept_put d vs put =
      let g = put.there.generation in
      let now = with_values_at put.there.scalar vs g.values in
      record {
        rising = subst (λ l. rise 0 l to ≡ true) (sym put.changed) (rise_changed 0 old to part.at g (record g { values = now }) refl put.there.stands r);
        counted = ap live_bytes put.changed ∙ live_changed old part.at g (record g { values = now }) refl put.there.stands;
      }

  pub kept_same : new ≡ old → Kept old new to
  kept_same same = record { rising = subst (λ l. rise 0 l to ≡ true) (sym same) r; counted = ap live_bytes same }

  pub kept_or_same : (b : Bool) (d : Description) (vs : List Value) → ValuesPutOrSame b old new part d vs → Kept old new to
  kept_or_same true d vs put = kept_put d vs put
  kept_or_same false d vs same = kept_same same

  pub kept_lengthened : (b : Bool) (greatest : ℕ) (more : List ℕ) (room : ℕ) → LengthenedOrSame b old new part greatest more room → Kept old new to
  kept_lengthened true greatest more room a = kept_put (Varying greatest) (Characters (a.text ++ more) ∷ []) a.puts
  kept_lengthened false greatest more room same = kept_same same
