-- ALLOCATE in areas, areas that are emptied and assigned, and pointers as offsets and back keep worlds sound, and none is wrong at the place of a whole area.
use Rattle.std.specs.Prelude.{◌≡◌, ℕ, suc, ◌<◌, ◌^◌, nat_eq, nat_le, nat_lt, Bool, true, false, ◌&&◌, Option, Some, None, List, [], ◌∷◌, if◌then◌else◌, refl}
use Rattle.std.proofs.Common.{arith, sym, ap, ◌∙◌, subst, lt-ltb}
use Rattle.std.proofs.lemmas.Bool.{and_parts}
use Rattle.pli_run.specs.declared.ending.RunError.TheVariants.{DeadLocator, OutsideArea}
use Rattle.pli_run.specs.declared.ending.RunError.TheVariants as error
use Rattle.pli_map.specs.Description.{Description}
use Rattle.pli_map.specs.Same.{same}
use Rattle.pli_map.specs.Scalars.{is_area, scalars_of}
use Rattle.pli_map.specs.Sizes.{size_of}
use Rattle.pli_map.specs.Variables.{Variable}
use Rattle.pli_map.specs.laws.SameLaws.{same_decides}
use Rattle.pli_type_tree.specs.TypedTree.{TypedUnit}
use Rattle.pli_type_tree.specs.ValueTypes.{Pointers, Offsets, IsPointer, IsOffset, IsOf}
use Rattle.pli_type_tree.specs.WellTyped.{IsMade}
use Rattle.pli_value.specs.Value.{Value, Located}
use Rattle.pli_value.specs.declared.locator.Locator.{Locator}
use Rattle.pli_value.specs.declared.locator.Locator.TheVariants.{Null, Pointer, Offset}
use Rattle.pli_world.specs.Areas.{place_in, end_of_blocks, with_block, is_whole_area, area_found, with_area, put_at, allocated_in, emptied, assigned, is_within, offset_in, pointer_in}
use Rattle.pli_world.specs.Locating.{locator_of, block_made, offset_made, pointer_within}
use Rattle.pli_world.specs.Storage.{Block, Generation, Place, generation_in}
use Rattle.pli_world.specs.World.{World, Answer, Yields, Raises, Wrong, further, led_into, unless_dead}
use Rattle.pli_meaning_typed.specs.SoundWorlds.{IsVariable, AreSoundBlocks, Shape, IsSound, IsLater, Answers}
use Rattle.pli_meaning_typed.proofs.BlockLemmas.{block_added, place_low}
use Rattle.pli_meaning_typed.proofs.PointerLaws.{PointsTo, Pointed}
use Rattle.pli_meaning_typed.proofs.WorldLaws.{later_same, later_then, variable_later, error_named, further_answers, values_held, small_near, blocks_sound, kept_since}

false_true : false ≡ true → ⊥
false_true e = absurd (cc)

-- the pointer to a position of a generation
pointer_at : (n k : ℕ) → suc n < 2 ^ 32 → nat_lt k (2 ^ 32) ≡ true → IsOf Pointers (Located (Pointer n k))
pointer_at n k few low = (Pointer n k, refl, ap (λ b. b && nat_lt k (2 ^ 32)) (lt-ltb (suc n) (2 ^ 32) few) ∙ low)

module _ (units : List TypedUnit) (x : Shape) (ss : List Shape) where
  abbrev Sound : World → Type 0
  Sound w = IsSound units (x ∷ ss) w

  abbrev Kept : World → Unit {0} → World → Type 0
  Kept w _ v = Sound v × IsLater w v

  abbrev AreaAt : World → Place → Generation → World → Type 0
  AreaAt w p g v = (generation_in v.storage p.generation ≡ Some g) × Sound v × IsLater w v

  -- the area that a place is
  area_answers : (d : Description) (p : Place) (w : World) → Sound w → IsVariable w d p → is_area d ≡ true → Answers units (AreaAt w p) (area_found p w)
  unfolding area_found
  area_answers d p w sound own area = by (generation_in w.storage p.generation) refl
    where
      all : (g : Generation) → generation_in w.storage p.generation ≡ Some g → is_whole_area g p ≡ true
      all g e =
          ap (λ k. nat_eq k 0 && nat_eq p.offset 0 && is_area p.description && same g.description p.description) own.1
          ∙ ap (λ k. nat_eq k 0 && is_area p.description && same g.description p.description) own.0.1.begins
          ∙ ap (λ e. is_area e && same g.description p.description) own.0.0.described
          ∙ ap (λ b. b && same g.description p.description) area ∙ (same_decides g.description p.description).1 (own.0.1.all own.1 g e)

      by : (o : Option Generation) → generation_in w.storage p.generation ≡ o
          → Answers units (AreaAt w p) (further (unless_dead o w) (λ g w. if is_whole_area g p then Yields g w else further (led_into p g w) (λ c w. Wrong)))
      by None e = error_named units x ss w DeadLocator sound
      by (Some g) e = subst (λ b. Answers units (AreaAt w p) (if b then Yields g w else further (led_into p g w) (λ c w. Wrong))) (sym (all g e)) (e, sound, later_same w)

  -- an operation on it
  at_area : {B : Type 0} (P : B → World → Type 0) (d : Description) (p : Place) (w : World) (go : Generation → World → Answer B) → Sound w → IsVariable w d p → is_area d ≡ true
      → ((g : Generation) (v : World) → AreaAt w p g v → Answers units P (go g v)) → Answers units P (further (area_found p w) go)
  at_area P d p w go sound own area f = further_answers units (AreaAt w p) P (area_found p w) go (area_answers d p w sound own area) f

  -- all its blocks end
  pub emptied_answers : (d : Description) (p : Place) (w : World) → Sound w → IsVariable w d p → is_area d ≡ true → Answers units (Kept w) (emptied p w)
  unfolding emptied
  emptied_answers d p w sound own area =
      at_area (Kept w) d p w (λ g w. Yields tt (with_area p (λ bs. []) w)) sound own area
      (λ g v h. let r = blocks_sound units x ss p (λ bs. []) v h.1 (λ y e. tt) in (r.0, later_then w v (with_area p (λ bs. []) v) h.2 r.1))

  -- it gets the blocks of another
  pub assigned_answers : (d e : Description) (source target : Place) (w : World) → Sound w → IsVariable w d source → is_area d ≡ true → IsVariable w e target → is_area e ≡ true
      → Answers units (Kept w) (assigned source target w)
  unfolding assigned
  assigned_answers d e source target w sound from first to second =
      at_area (Kept w) d source w _ sound from first
      (λ g v h. kept_since units x ss w v _ h.2
      (at_area (Kept v) e target v _ h.1 (variable_later w v e target h.2 to) second
      (λ y u i. put g y v u (nat_le (end_of_blocks g.blocks) (size_of y.description)) (h.1.values source.generation g h.0).5 i)))
    where
      put : (g y : Generation) (v u : World) (b : Bool) → AreSoundBlocks g.blocks → AreaAt v target y u
          → Answers units (Kept v) (if b then Yields tt (with_area target (λ bs. g.blocks) u) else Raises error.Area u)
      put g y v u true good i =
          let r = blocks_sound units x ss target (λ bs. g.blocks) u i.1 (λ z e. good) in
          (r.0, later_then v u (with_area target (λ bs. g.blocks) u) i.2 r.1)
      put g y v u false good i = error_named units x ss u error.Area i.1

  -- a pointer as an offset of it
  abbrev LeadsBy : World → Locator → World → Type 0
  LeadsBy w l v = IsOf Offsets (Located l) × Sound v × IsLater w v

  abbrev pub Offsetted : World → Value → World → Type 0
  Offsetted w v u = IsOf Offsets v × Sound u × IsLater w u

  offset_found : (d : Description) (p : Place) (l : Locator) (w : World) → IsPointer l → Sound w → IsVariable w d p → is_area d ≡ true → Answers units (LeadsBy w) (offset_in p l w)
  unfolding offset_in
  offset_found d p Null w is sound own area =
      at_area (LeadsBy w) d p w (λ _ w. Yields (Offset 0) w) sound own area (λ g v h. ((Offset 0, refl, lt-ltb 0 (2 ^ 32) (omega arith)), h.1, h.2))
  offset_found d p (Pointer n k) w is sound own area =
      at_area (LeadsBy w) d p w (λ _ w. if is_within p.generation n k then Yields (Offset k) w else Raises OutsideArea w) sound own area
      (λ g v h. within v (is_within p.generation n k) h.1 h.2)
    where
      within : (v : World) (b : Bool) → Sound v → IsLater w v → Answers units (LeadsBy w) (if b then Yields (Offset k) v else Raises OutsideArea v)
      within v true sound later = ((Offset k, refl, (and_parts (nat_lt (suc n) (2 ^ 32)) (nat_lt k (2 ^ 32)) is).1), sound, later)
      within v false sound later = error_named units x ss v OutsideArea sound
  offset_found d p (Offset k) w is sound own area = absurd (false_true is)

  pub offset_answers : (d : Description) (p : Place) (v : Value) (w : World) → IsOf Pointers v → Sound w → IsVariable w d p → is_area d ≡ true
      → Answers units (Offsetted w) (offset_made p v w)
  unfolding offset_made
  offset_answers d p v w is sound own area =
      subst (λ v. Answers units (Offsetted w) (further (locator_of v w) (λ l w. further (offset_in p l w) (λ o w. Yields (Located o) w)))) (sym is.1)
      (further_answers units (LeadsBy w) (Offsetted w) (offset_in p is.0 w) (λ o w. Yields (Located o) w) (offset_found d p is.0 w is.2 sound own area) (λ o u h. h))

  -- and back
  pointer_found : (d : Description) (p : Place) (l : Locator) (w : World) → IsOffset l → Sound w → IsVariable w d p → is_area d ≡ true
      → Answers units (PointsTo units x ss w) (pointer_in p l w)
  unfolding pointer_in
  pointer_found d p Null w is sound own area = absurd (false_true is)
  pointer_found d p (Pointer n k) w is sound own area = absurd (false_true is)
  pointer_found d p (Offset k) w is sound own area =
      at_area (PointsTo units x ss w) d p w (λ _ w. if nat_eq k 0 then Yields Null w else Yields (Pointer p.generation k) w) sound own area
      (λ g v h. led g v (nat_eq k 0) h)
    where
      led : (g : Generation) (v : World) (b : Bool) → AreaAt w p g v → Answers units (PointsTo units x ss w) (if b then Yields Null v else Yields (Pointer p.generation k) v)
      led g v true h = ((Null, refl, refl), h.1, h.2)
      led g v false h = let few = (h.1.values p.generation g h.0).3 in (pointer_at p.generation k (omega (arith, few)) is, h.1, h.2)

  pub within_answers : (d : Description) (p : Place) (v : Value) (w : World) → IsOf Offsets v → Sound w → IsVariable w d p → is_area d ≡ true
      → Answers units (Pointed units x ss w) (pointer_within p v w)
  unfolding pointer_within
  within_answers d p v w is sound own area =
      subst (λ v. Answers units (Pointed units x ss w) (further (locator_of v w) (λ l w. further (pointer_in p l w) (λ q w. Yields (Located q) w)))) (sym is.1)
      (further_answers units (PointsTo units x ss w) (Pointed units x ss w) (pointer_in p is.0 w) (λ q w. Yields (Located q) w) (pointer_found d p is.0 w is.2 sound own area) (λ q u h. h))

  -- ALLOCATE in it
  module _ (d : Description) (p : Place) (v : Variable) (w : World) (made : IsMade v) (sound : Sound w) (own : IsVariable w d p) (area : is_area d ≡ true) where
    abbrev block_of : ℕ → Block
    block_of k = record { position = k; description = v.description; values = v.initial }

    put_answers : (g : Generation) (u : World) (o : Option ℕ) → AreaAt w p g u → place_in (size_of g.description) g.blocks (size_of v.description) ≡ o
        → Answers units (PointsTo units x ss w) (put_at o p v u)
    put_answers g u None h e = error_named units x ss u error.Area h.1
    put_answers g u (Some k) h e =
        let held = h.1.values p.generation g h.0 in
        let low : k < 2 ^ 32 = place_low (size_of g.description) g.blocks (size_of v.description) k (omega (arith, held.4)) held.5 e in
        let r = blocks_sound units x ss p (λ bs. with_block bs (block_of k)) u h.1
        (λ y f. block_added y.blocks (block_of k) (h.1.values p.generation y f).5 (record { values = made.1; near = small_near v.description made.0; position = low })) in
        (pointer_at p.generation k (omega (arith, held.3)) (lt-ltb k (2 ^ 32) low), r.0, later_then w u (with_area p (λ bs. with_block bs (block_of k)) u) h.2 r.1)

    found_answers : Answers units (PointsTo units x ss w) (allocated_in p v w)
    unfolding allocated_in
    found_answers =
        subst (λ b. Answers units (PointsTo units x ss w) (if b then further (area_found p w)
        (λ g w. put_at (place_in (size_of g.description) g.blocks (size_of v.description)) p v w) else Wrong)) (sym (values_held (scalars_of v.description) v.initial made.1))
        (at_area (PointsTo units x ss w) d p w (λ g w. put_at (place_in (size_of g.description) g.blocks (size_of v.description)) p v w) sound own area
        (λ g u h. put_answers g u (place_in (size_of g.description) g.blocks (size_of v.description)) h refl))

    pub block_answers : is_area v.description ≡ false → Answers units (Pointed units x ss w) (block_made p v w)
    unfolding block_made
    block_answers none =
        subst (λ b. Answers units (Pointed units x ss w) (if b then Wrong else further (allocated_in p v w) (λ l w. Yields (Located l) w))) (sym none)
        (further_answers units (PointsTo units x ss w) (Pointed units x ss w) (allocated_in p v w) (λ l w. Yields (Located l) w) found_answers (λ l u h. h))
