-- ALLOCATE, FREE and ALLOCATION keep worlds sound, and none is wrong where the global is a CONTROLLED variable.
use Rattle.std.specs.Prelude.{◌≡◌, ℕ, zero, suc, nat_le, pos, Bool, true, false, Some, None, List, [], ◌∷◌, ◌⊎◌, length, slice_get, slice_set}
use Rattle.std.specs.Prelude.{if◌then◌else◌, refl}
use Rattle.std.proofs.Common.{arith, sym, ap, ◌∙◌, subst, inl, inr, leb-true}
use Rattle.pli_run.specs.declared.ending.RunError.TheVariants.{NoGeneration, FixedOverflow}
use Rattle.pli_map.specs.Description.{Description}
use Rattle.pli_program.specs.declared.kind.VariableKind.TheVariants as kinds
use Rattle.pli_type_tree.specs.Globals.{kind_of}
use Rattle.pli_type_tree.specs.laws.GlobalLaws.{kind_described}
use Rattle.pli_type_tree.specs.TypedTree.{Global, TypedUnit}
use Rattle.pli_type_tree.specs.ValueTypes.{Numbers, count_precision, IsOf}
use Rattle.pli_type_tree.specs.WellTyped.{IsMade}
use Rattle.pli_value.specs.Value.{Value, Number}
use Rattle.pli_world.specs.Stacks.{with_places, stacked, without_newest_of, unstacked, count_limit, counted_in, counted, stack_standing, stack_named}
use Rattle.pli_world.specs.Stacks.{generation_stacked, generation_unstacked, generations_counted}
use Rattle.pli_world.specs.Storage.{Controlled, Place}
use Rattle.pli_world.specs.World.{Standing, Lies, Stacked, Stack, World, Yields, Raises, further, known, made_of, generation_ended, static_in}
use Rattle.pli_meaning_typed.specs.SoundWorlds.{EachGood, Shape, StandsGood, IsSound, IsLater, Answers}
use Rattle.pli_meaning_typed.proofs.ContextLaws.{IsUnit, first_unit, static_there}
use Rattle.pli_meaning_typed.proofs.RaisesLaws.{RaisesIn}
use Rattle.pli_meaning_typed.proofs.StorageLemmas.{lived_before}
use Rattle.pli_meaning_typed.proofs.WorldLaws.{later_same, later_then, eaches_later, statics_later, shaped_later, same_stack, error_named, further_answers, small_near, MadeWhole, made_answers, ended_later}

none_some : {A : Type 0} {x : A} → None ≡ Some x → ⊥
none_some e = absurd (cc)

some_same : {A : Type 0} {x y : A} → Some x ≡ Some y → x ≡ y
some_same e = cc

-- what is found where one of a list is changed
changed_found : {A : Type 0} (xs : List A) (i : ℕ) (x : A) (j : ℕ) (y : A) → slice_get (slice_set xs i x) j ≡ Some y
    → (slice_get xs j ≡ Some y) ⊎ ((i ≡ j) × (x ≡ y))
changed_found [] i x j y h = absurd (none_some h)
changed_found (z ∷ xs) zero x zero y h = inr (refl, some_same h)
changed_found (z ∷ xs) zero x (suc j) y h = inl h
changed_found (z ∷ xs) (suc i) x zero y h = inl h
changed_found (z ∷ xs) (suc i) x (suc j) y h = by (changed_found xs i x j y h)
  where
    by : (slice_get xs j ≡ Some y) ⊎ ((i ≡ j) × (x ≡ y)) → (slice_get xs j ≡ Some y) ⊎ ((suc i ≡ suc j) × (x ≡ y))
    by (inl h) = inl h
    by (inr h) = inr (ap (λ n. suc n) h.0, h.1)

still_found : {A : Type 0} (xs : List A) (i : ℕ) (x : A) (j : ℕ) (y : A) → slice_get xs j ≡ Some y
    → (z : A) × (slice_get (slice_set xs i x) j ≡ Some z) × ((y ≡ z) ⊎ ((i ≡ j) × (x ≡ z)))
still_found [] i x j y h = absurd (none_some h)
still_found (w ∷ xs) zero x zero y h = (x, refl, inr (refl, refl))
still_found (w ∷ xs) zero x (suc j) y h = (y, h, inl refl)
still_found (w ∷ xs) (suc i) x zero y h = (y, h, inl refl)
still_found (w ∷ xs) (suc i) x (suc j) y h = let r = still_found xs i x j y h in (r.0, r.1, by r.0 r.2)
  where
    by : (z : _) → (y ≡ z) ⊎ ((i ≡ j) × (x ≡ z)) → (y ≡ z) ⊎ ((suc i ≡ suc j) × (x ≡ z))
    by z (inl h) = inl h
    by z (inr h) = inr (ap (λ n. suc n) h.0, h.1)

module _ (units : List TypedUnit) (ss : List Shape) where
  -- the places of a stack changed, to good ones of its variable
  module _ (number : ℕ) (s t : Stack) (places : List Place) (w : World) (there : slice_get w.stacks number ≡ Some t) (same : t.variable ≡ s.variable) where
    abbrev changed : Stack
    changed = record { variable = s.variable; places = places }

    abbrev after : World
    after = with_places number s places w

    places_later : IsLater w after
    places_later = record {
      more = omega arith;
      lived = λ n g lt h. (g, h, refl);
      stacks = λ n r h. let f = still_found w.stacks number changed n r h in (f.0, f.1, like n r f.0 h f.2);
    }
      where
        like : (n : ℕ) (r z : Stack) → slice_get w.stacks n ≡ Some r → (r ≡ z) ⊎ ((number ≡ n) × (changed ≡ z)) → z.variable ≡ r.variable
        like n r z h (inl e) = ap (λ (x : Stack). x.variable) (sym e)
        like n r z h (inr e) =
            let old : t ≡ r = some_same (sym there ∙ ap (λ k. slice_get w.stacks k) e.0 ∙ h) in
            ap (λ (x : Stack). x.variable) (sym e.1) ∙ sym same ∙ ap (λ (x : Stack). x.variable) old

    pub places_sound : EachGood w s.variable.description places → IsSound units ss w → IsSound units ss after × IsLater w after
    places_sound good sound = (
      record {
        values = sound.values;
        stacks = λ n r h. each n r (changed_found w.stacks number changed n r h);
        stack = shaped_later units w after ss w.activations places_later sound.stack;
        of_units = sound.of_units;
        on_units = sound.on_units;
        made = statics_later units w after places_later refl sound.made;
      },
      places_later,
    )
      where
        each : (n : ℕ) (r : Stack) → (slice_get w.stacks n ≡ Some r) ⊎ ((number ≡ n) × (changed ≡ r))
            → IsMade r.variable × EachGood after r.variable.description r.places
        each n r (inl h) =
            let old = sound.stacks n r h in (old.0, eaches_later w after r.variable.description r.places places_later old.1)
        each n r (inr e) =
            subst (λ (r : Stack). IsMade r.variable × EachGood after r.variable.description r.places) e.1
            (subst (λ v. IsMade v) same (sound.stacks number t there).0, eaches_later w after s.variable.description places places_later good)

  -- a generation ended
  pub ended_sound : (n : ℕ) (w : World) → IsSound units ss w → IsSound units ss (generation_ended n w) × IsLater w (generation_ended n w)
  ended_sound n w sound =
      let later = ended_later units (n ∷ []) w (generation_ended n w) refl refl refl in (
        same_stack units ss w (generation_ended n w) sound later (λ m g h. sound.values m g (lived_before (n ∷ []) w.storage m g h)) refl refl refl,
        later,
      )

module _ (units : List TypedUnit) (x : Shape) (ss : List Shape) where
  abbrev Sound : World → Type 0
  Sound w = IsSound units (x ∷ ss) w

  abbrev Kept : World → Unit {0} → World → Type 0
  Kept w _ v = Sound v × IsLater w v

  -- by the number of a stack
  stacked_answers : (number : ℕ) (t : Stack) (w : World) → Sound w → slice_get w.stacks number ≡ Some t → Answers units (Kept w) (stacked number w)
  unfolding stacked
  stacked_answers number t w sound there =
      let d = t.variable.description in
      let good = sound.stacks number t there in
      subst (λ o. Answers units (Kept w) (further (known o w) (λ s w. further (made_of s.variable.description Controlled s.variable.initial w) (λ p w. Yields tt (with_places number s (p ∷ s.places) w))))) (sym there)
      (further_answers units (MadeWhole units x ss w d) (Kept w) (made_of d Controlled t.variable.initial w) (λ p w. Yields tt (with_places number t (p ∷ t.places) w))
      (made_answers units x ss d Controlled t.variable.initial w sound (small_near d good.0.0) good.0.1)
      (λ p v m. let old = m.2.stacks number t there in
      let r = places_sound units (x ∷ ss) number t old.0 (p ∷ t.places) v old.1 old.2 (m.0, eaches_later w v d t.places m.2 good.1) m.1 in
      (r.0, later_then w v (with_places number t (p ∷ t.places) v) m.2 r.1)))

  unstacked_answers : (number : ℕ) (t : Stack) (w : World) → Sound w → slice_get w.stacks number ≡ Some t → Answers units (Kept w) (unstacked number w)
  unfolding unstacked
  unstacked_answers number t w sound there =
      subst (λ o. Answers units (Kept w) (further (known o w) (λ s w. without_newest_of number s s.places w))) (sym there)
      (by t.places (sound.stacks number t there).1)
    where
      by : (places : List Place) → EachGood w t.variable.description places → Answers units (Kept w) (without_newest_of number t places w)
      by [] good = error_named units x ss w NoGeneration sound
      by (p ∷ older) good =
          let u = generation_ended p.generation w in
          let ended = ended_sound units (x ∷ ss) p.generation w sound in
          let r = places_sound units (x ∷ ss) number t t older u there refl (eaches_later w u t.variable.description older ended.1 good.1) ended.0 in
          (r.0, later_then w u (with_places number t older u) ended.1 r.1)

  abbrev Counted : World → Value → World → Type 0
  Counted w v u = IsOf (Numbers count_precision) v × Sound u × IsLater w u

  counted_is : (stack : ℕ) (t : Stack) (w : World) → Sound w → slice_get w.stacks stack ≡ Some t
      → Answers units (Counted w) (further (counted stack w) (λ count w. Yields (Number (pos count)) w))
  unfolding counted
  counted_is stack t w sound there =
      subst (λ o. Answers units (Counted w) (further (further (known o w) (λ s w. counted_in s.places w)) (λ count w. Yields (Number (pos count)) w))) (sym there)
      (by (nat_le (length t.places) count_limit) refl)
    where
      by : (b : Bool) → nat_le (length t.places) count_limit ≡ b
          → Answers units (Counted w) (further (if b then Yields (length t.places) w else Raises FixedOverflow w) (λ count w. Yields (Number (pos count)) w))
      by true e = ((pos (length t.places), refl, omega (arith, leb-true (length t.places) count_limit e)), sound, later_same w)
      by false e = error_named units x ss w FixedOverflow sound

  -- by the number of a global
  module _ (unit : ℕ) (globals : List Global) (number : ℕ) (own : IsUnit units unit globals) (top : x.unit ≡ unit)
      (is : kind_of (slice_get globals number) ≡ Some kinds.Controlled) where
    abbrev Named : World → Type 0
    Named w = (stack : ℕ) × (stack_named number w ≡ Yields stack w) × ((t : Stack) × (slice_get w.stacks stack ≡ Some t))

    stack_there : (w : World) → Sound w → Named w
    unfolding stack_named
    stack_there w sound =
        let d = kind_described kinds.Controlled (slice_get globals number) is in
        let t = static_there units unit globals (x ∷ ss) w number kinds.Controlled d.0 own sound d.1 in
        let found : stack_named number w ≡ stack_standing t.0 w =
        ap (λ o. further (known o w) (λ unit w. further (known (static_in w.statics unit number) w) stack_standing)) (first_unit w x ss w.activations sound.stack)
        ∙ ap (λ n. further (known (static_in w.statics n number) w) stack_standing) top ∙ ap (λ o. further (known o w) stack_standing) t.1 in
        by d.0 t.0 t.2 found
      where
        by : (d : Description) (t : Standing) → StandsGood w kinds.Controlled d t → stack_named number w ≡ stack_standing t w → Named w
        by d (Lies p) good e = absurd good
        by d (Stacked stack) good e = (stack, e, (good.0, good.1))

    pub allocated_answers : (w : World) → Sound w → Answers units (Kept w) (generation_stacked number w)
    unfolding generation_stacked
    allocated_answers w sound =
        let n = stack_there w sound in
        subst (λ o. Answers units (Kept w) (further o stacked)) (sym n.1) (stacked_answers n.0 n.2.0 w sound n.2.1)

    pub freed_answers : (w : World) → Sound w → Answers units (Kept w) (generation_unstacked number w)
    unfolding generation_unstacked
    freed_answers w sound =
        let n = stack_there w sound in
        subst (λ o. Answers units (Kept w) (further o unstacked)) (sym n.1) (unstacked_answers n.0 n.2.0 w sound n.2.1)

    pub counted_answers : (w : World) → Sound w → Answers units (Counted w) (generations_counted number w)
    unfolding generations_counted
    counted_answers w sound =
        let n = stack_there w sound in
        subst (λ o. Answers units (Counted w) (further o (λ stack w. further (counted stack w) (λ count w. Yields (Number (pos count)) w)))) (sym n.1)
        (counted_is n.0 n.2.0 w sound n.2.1)

    pub counted_raises : (w : World) → Sound w → RaisesIn w (generations_counted number w)
    unfolding generations_counted counted
    counted_raises w sound =
        let n = stack_there w sound in
        subst (λ o. RaisesIn w (further o (λ stack w. further (counted stack w) (λ count w. Yields (Number (pos count)) w)))) (sym n.1)
        (subst (λ o. RaisesIn w (further (further (known o w) (λ s w. counted_in s.places w)) (λ count w. Yields (Number (pos count)) w))) (sym n.2.1)
        (by n.2.0 (nat_le (length n.2.0.places) count_limit)))
      where
        by : (t : Stack) (b : Bool) → RaisesIn w (further (if b then Yields (length t.places) w else Raises FixedOverflow w) (λ count w. Yields (Number (pos count)) w))
        by t true = tt
        by t false = refl
