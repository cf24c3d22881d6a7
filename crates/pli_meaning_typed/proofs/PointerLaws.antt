-- BASED, ALLOCATE and FREE by pointers, and ADDR keep worlds sound, and none is wrong where it is given a pointer, or the place of a whole generation or block.
use Rattle.std.specs.Prelude.{◌≡◌, ℕ, suc, ◌<◌, ◌^◌, nat_eq, nat_lt, Bool, true, false, ◌&&◌, Option, Some, None, option_map, option_and_then, List, [], ◌∷◌, if◌then◌else◌, refl}
use Rattle.std.proofs.Common.{arith, sym, ap, ◌∙◌, subst, lt-ltb, true≢false}
use Rattle.std.proofs.lemmas.Bool.{eq-eqb}
use Rattle.pli_run.specs.declared.ending.RunError.TheVariants.{NullLocator, DeadLocator, DescriptionMismatch}
use Rattle.pli_map.specs.Description.{Description}
use Rattle.pli_map.specs.Same.{same}
use Rattle.pli_map.specs.Variables.{Variable}
use Rattle.pli_map.specs.laws.SameLaws.{same_decides}
use Rattle.pli_type_tree.specs.TypedTree.{TypedUnit}
use Rattle.pli_type_tree.specs.ValueTypes.{Pointers, IsPointer, IsOf}
use Rattle.pli_type_tree.specs.WellTyped.{IsMade}
use Rattle.pli_value.specs.Value.{Value, Located}
use Rattle.pli_value.specs.declared.locator.Locator.{Locator}
use Rattle.pli_value.specs.declared.locator.Locator.TheVariants as locators
use Rattle.pli_world.specs.Areas.{without_block}
use Rattle.pli_world.specs.Locating.{unless_other, located, based, pointer_to, based_allocated, ended, is_allocated, based_freed}
use Rattle.pli_world.specs.Locating.{is_whole_of, addressed, locator_of, place_by, freed_by, pointer_made, address_of}
use Rattle.pli_world.specs.Storage.{Block, Generation, Based, Place, Contents, whole, generation_in, block_at, with_blocks, without, generation_limit}
use Rattle.pli_world.specs.Targets.{Target, block_target, target_in}
use Rattle.pli_world.specs.Storage.{whole_at}
use Rattle.pli_world.specs.World.{World, Yields, Raises, Wrong, further, made_of, used}
use Rattle.pli_meaning_typed.specs.SoundWorlds.{IsPartAt, IsOwn, Shape, IsSound, IsLater, Answers}
use Rattle.pli_meaning_typed.proofs.BlockLemmas.{block_found, block_removed}
use Rattle.pli_meaning_typed.proofs.StackLaws.{ended_sound}
use Rattle.pli_meaning_typed.proofs.StorageLemmas.{numbered}
use Rattle.pli_meaning_typed.proofs.WorldLaws.{later_same, later_then, own_later, error_named, further_answers, small_near, new_part, MadeWhole, made_answers, blocks_sound, UsedAt, used_answers}
use Rattle.pli_world.specs.World.{unless_dead}

some_same : {A : Type 0} {x y : A} → Some x ≡ Some y → x ≡ y
some_same e = cc

false_true : false ≡ true → ⊥
false_true e = absurd (cc)

-- the pointer to a generation or a block
pub pointer_is : (p : Place) → p.generation < generation_limit → p.position < 2 ^ 32 → IsOf Pointers (Located (pointer_to p))
pointer_is p few low = (pointer_to p, refl, ap (λ b. b && nat_lt p.position (2 ^ 32)) first ∙ lt-ltb p.position (2 ^ 32) low)
  where
    first : nat_lt (suc p.generation) (2 ^ 32) ≡ true
    first = lt-ltb (suc p.generation) (2 ^ 32) (omega (arith, few))

-- a generation as what lives at position 0
abbrev generation_target : Generation → Target
generation_target g = record { place = whole g.number g.description; made = g.made }

module _ (units : List TypedUnit) (x : Shape) (ss : List Shape) where
  abbrev Sound : World → Type 0
  Sound w = IsSound units (x ∷ ss) w

  abbrev Kept : World → Unit {0} → World → Type 0
  Kept w _ v = Sound v × IsLater w v

  abbrev OwnPlace : World → Description → Place → World → Type 0
  OwnPlace w d p v = IsOwn v d p × Sound v × IsLater w v

  abbrev Leads : World → Description → Target → World → Type 0
  Leads w d t v = IsOwn v d t.place × Sound v × IsLater w v

  abbrev pub PointsTo : World → Locator → World → Type 0
  PointsTo w l v = IsOf Pointers (Located l) × Sound v × IsLater w v

  abbrev pub Pointed : World → Value → World → Type 0
  Pointed w v u = IsOf Pointers v × Sound u × IsLater w u

  -- what lives, as a whole: a generation, and a block of one
  whole_own : (n : ℕ) (g : Generation) (w : World) → Sound w → generation_in w.storage n ≡ Some g → IsOwn w g.description (whole n g.description)
  whole_own n g w sound e =
      let held = sound.values n g e in (
        record {
          was_made = held.0;
          described = refl;
          near = held.2;
          part = (λ outside y f. subst (λ d. IsPartAt d 0 g.description) (same_generation y f) (new_part g.description), λ inside. absurd (inside refl));
        },
        record { begins = refl; all = λ outside y f. sym (same_generation y f); block = λ inside. absurd (inside refl) },
      )
    where
      same_generation : (y : Generation) → generation_in w.storage n ≡ Some y → g.description ≡ y.description
      same_generation y f = ap (λ (z : Generation). z.description) (some_same (sym e ∙ f))

  generation_own : (n : ℕ) (g : Generation) (w : World) → Sound w → generation_in w.storage n ≡ Some g → IsOwn w g.description (whole g.number g.description)
  generation_own n g w sound e = subst (λ m. IsOwn w g.description (whole m g.description)) (sym (numbered w.storage n g e)) (whole_own n g w sound e)

  block_own : (n : ℕ) (g : Generation) (k : ℕ) (b : Block) (w : World) → Sound w → generation_in w.storage n ≡ Some g → nat_eq k 0 ≡ false → block_at g.blocks k ≡ Some b
      → IsOwn w b.description (whole_at g.number b.position b.description)
  block_own n g k b w sound e z f =
      let held = sound.values n g e in
      let found = block_found g.blocks k b held.5 f in (
        record {
          was_made = subst (λ m. m < w.made) (sym (numbered w.storage n g e)) held.0;
          described = refl;
          near = found.0.near;
          part = (λ outside y h. absurd (inside found.1 outside), λ is. new_part b.description);
        },
        record { begins = refl; all = λ outside y h. absurd (inside found.1 outside); block = λ is. refl },
      )
    where
      inside : b.position ≡ k → b.position ≡ 0 → ⊥
      inside at outside = true≢false (sym (eq-eqb k 0 (sym at ∙ outside)) ∙ z)

  -- what a pointer leads to
  located_answers : (d : Description) (l : Locator) (w : World) → IsPointer l → Sound w → Answers units (Leads w d) (located d l w)
  unfolding located
  located_answers d locators.Null w is sound = error_named units x ss w NullLocator sound
  located_answers d (locators.Offset k) w is sound = absurd (false_true is)
  located_answers d (locators.Pointer n k) w is sound = by (generation_in w.storage n) refl
    where
      unless : (t : Target) → IsOwn w t.place.description t.place → (b : Bool) → same t.place.description d ≡ b
          → Answers units (Leads w d) (if b then Yields t w else Raises DescriptionMismatch w)
      unless t own true alike = (subst (λ c. IsOwn w c t.place) ((same_decides t.place.description d).0 alike) own, sound, later_same w)
      unless t own false alike = error_named units x ss w DescriptionMismatch sound

      lives : (g : Generation) → generation_in w.storage n ≡ Some g → (b : Bool) → nat_eq k 0 ≡ b → (o : Option Block) → block_at g.blocks k ≡ o
          → Answers units (Leads w d) (further (unless_dead (if b then Some (generation_target g) else option_map (block_target g.number) o) w) (unless_other d))
      lives g e true z o f = unless (generation_target g) (generation_own n g w sound e) (same g.description d) refl
      lives g e false z None f = error_named units x ss w DeadLocator sound
      lives g e false z (Some b) f = unless (block_target g.number b) (block_own n g k b w sound e z f) (same b.description d) refl

      by : (o : Option Generation) → generation_in w.storage n ≡ o
          → Answers units (Leads w d) (further (unless_dead (option_and_then (target_in k) o) w) (unless_other d))
      by None e = error_named units x ss w DeadLocator sound
      by (Some g) e = lives g e (nat_eq k 0) refl (block_at g.blocks k) refl

  -- BASED
  pub place_answers : (d : Description) (v : Value) (w : World) → IsOf Pointers v → Sound w → Answers units (OwnPlace w d) (place_by d v w)
  unfolding place_by based
  place_answers d v w is sound =
      subst (λ v. Answers units (OwnPlace w d) (further (locator_of v w) (λ l w. further (located d l w) (λ t w. Yields t.place w)))) (sym is.1)
      (further_answers units (Leads w d) (OwnPlace w d) (located d is.0 w) (λ t w. Yields t.place w) (located_answers d is.0 w is.2 sound) (λ t u h. h))

  -- FREE
  ends_sound : (p : Place) (w : World) → Sound w → Sound (ended p w) × IsLater w (ended p w)
  ends_sound p w sound = by (nat_eq p.position 0)
    where
      without_it : Bool → World
      without_it b = record w { storage = if b then without (p.generation ∷ []) w.storage else with_blocks w.storage p.generation (λ bs. without_block bs p.position) }

      by : (b : Bool) → Sound (without_it b) × IsLater w (without_it b)
      by true = ended_sound units (x ∷ ss) p.generation w sound
      by false =
          blocks_sound units x ss p (λ bs. without_block bs p.position) w sound (λ g e. block_removed g.blocks p.position (sound.values p.generation g e).5)

  pub free_answers : (d : Description) (v : Value) (w : World) → IsOf Pointers v → Sound w → Answers units (Kept w) (freed_by d v w)
  unfolding freed_by based_freed
  free_answers d v w is sound =
      subst (λ v. Answers units (Kept w) (further (locator_of v w)
      (λ l w. further (located d l w) (λ t w. if is_allocated t.made then Yields tt (ended t.place w) else Raises DescriptionMismatch w)))) (sym is.1)
      (further_answers units (Leads w d) (Kept w) (located d is.0 w)
      (λ t w. if is_allocated t.made then Yields tt (ended t.place w) else Raises DescriptionMismatch w)
      (located_answers d is.0 w is.2 sound) (λ t u h. freed t u (is_allocated t.made) h.1 h.2))
    where
      freed : (t : Target) (u : World) (b : Bool) → Sound u → IsLater w u
          → Answers units (Kept w) (if b then Yields tt (ended t.place u) else Raises DescriptionMismatch u)
      freed t u true sound later =
          let r = ends_sound t.place u sound in
          (r.0, later_then w u (ended t.place u) later r.1)
      freed t u false sound later = error_named units x ss u DescriptionMismatch sound

  -- ALLOCATE
  pub pointer_answers : (v : Variable) (w : World) → IsMade v → Sound w → Answers units (Pointed w) (pointer_made v w)
  unfolding pointer_made based_allocated
  pointer_answers v w made sound =
      further_answers units (PointsTo w) (Pointed w) (further (made_of v.description Based v.initial w) (λ p w. Yields (pointer_to p) w)) (λ l w. Yields (Located l) w)
      (further_answers units (MadeWhole units x ss w v.description) (PointsTo w) (made_of v.description Based v.initial w) (λ p w. Yields (pointer_to p) w)
      (made_answers units x ss v.description Based v.initial w sound (small_near v.description made.0) made.1)
      (λ p u m. (pointer_is p m.3 (omega (arith, m.0.1)), m.1, m.2)))
      (λ l u h. h)

  -- ADDR
  pub address_answers : (d : Description) (p : Place) (w : World) → IsOwn w d p → Sound w → Answers units (Pointed w) (address_of p w)
  unfolding address_of addressed
  address_answers d p w own sound =
      further_answers units (PointsTo w) (Pointed w) (further (used p w) (λ c w. if is_whole_of c p then Yields (pointer_to p) w else Wrong)) (λ l w. Yields (Located l) w)
      (further_answers units (UsedAt units x ss w d p) (PointsTo w) (used p w) (λ c w. if is_whole_of c p then Yields (pointer_to p) w else Wrong)
      (used_answers units x ss d p w sound own.0)
      (λ c v h. subst (λ b. Answers units (PointsTo w) (if b then Yields (pointer_to p) v else Wrong)) (sym (all c (h.0.all (own_later w v d p h.2 own).1)))
      (pointer_is p h.0.few h.0.position, h.1, h.2)))
      (λ l u h. h)
    where
      all : (c : Contents) → c.description ≡ p.description → is_whole_of c p ≡ true
      all c is = ap (λ k. nat_eq k 0 && same c.description p.description) own.1.begins ∙ (same_decides c.description p.description).1 is
