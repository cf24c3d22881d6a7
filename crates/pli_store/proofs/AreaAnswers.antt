-- What operations on areas answer.
use Rattle.std.proofs.Common.{◌≡◌, ◌≢◌, ℕ, ◌≤◌, ◌<◌, Bool, true, false, nat_eq, ◌&&◌, Option, Some, None, Err, List, [], if◌then◌else◌, slice_get, sym, refl, ap, ◌∙◌, eq-eqb, ne_eqb}
use Rattle.std.proofs.lemmas.Bool.{and_parts, le-leb, lt-leb}
use Rattle.std.specs.Global.{Vec}
use Rattle.pli_run.specs.declared.ending.RunError.{RunError}
use Rattle.pli_run.specs.declared.ending.RunError.TheVariants.{DeadLocator}
use Rattle.pli_run.specs.declared.ending.RunError.TheVariants as error
use Rattle.pli_map.specs.Description.{Description}
use Rattle.pli_map.specs.Same.{same}
use Rattle.pli_map.specs.laws.SameLaws.{same_decides}
use Rattle.pli_map.specs.Scalars.{is_area, scalars_of}
use Rattle.pli_map.specs.Sizes.{size_of}
use Rattle.pli_map.specs.Values.{are_held}
use Rattle.pli_map.specs.Variables.{Variable}
use Rattle.pli_value.specs.Value.{Value}
use Rattle.pli_value.specs.declared.locator.Locator.TheVariants.{Pointer}
use Rattle.pli_world.specs.Areas.{allocated_in, area_found, is_whole_area, assigned, emptied, end_of_blocks, place_in, with_area, with_block}
use Rattle.pli_world.specs.Storage.{Contents, Generation, Place, contents_of, generation_in}
use Rattle.pli_world.specs.World.{World, Answer, Yields, Raises, Wrong, further, led_into, used, unless_dead}
use Rattle.pli_store.specs.answers.Answered.{Answered}
use Rattle.pli_store.specs.answers.Begins.{Begins}
use Rattle.pli_store.specs.answers.Blocks.{AreaRefused, AreaStands, WholeUsed}
use Rattle.pli_store.specs.declared.fault.StoreFault.{StoreFault}
use Rattle.pli_store.specs.declared.fault.StoreFault.TheVariants.{Raised, NoRule, OutOfMemory}

-- ---- where the area of a place stands

module _ (p : Place) (w : World) where
  pub area_dead : generation_in w.storage p.generation ≡ None → area_found p w ≡ Raises DeadLocator w
  unfolding area_found
  area_dead e = rw e refl

  -- what is asked of an area, where its generation is found or not
  abbrev area_in : Option Generation → Answer Generation
  area_in o = further (unless_dead o w) (λ g w. if is_whole_area g p then Yields g w else further (led_into p g w) (λ c w. Wrong))

  no_whole : (g : Generation) → nat_eq p.position 0 ≡ false → is_whole_area g p ≡ false
  no_whole g inside = rw inside refl

  led_outside : (g : Generation) → nat_eq p.position 0 ≡ true → led_into p g w ≡ Yields (contents_of g) w
  led_outside g outside = rw outside refl

  -- where no area is met, all is as where the place is used
  by_use : (g : Generation) (b : Bool) (a : Answer Contents) → b ≡ false → led_into p g w ≡ a
      → (if b then Yields g w else further (led_into p g w) (λ c w. Wrong)) ≡ further a (λ c w. Wrong)
  by_use g b a none l = rw none (ap (λ (x : Answer Contents). further {B = Generation} x (λ c w. Wrong)) l)

  -- a place in a block is that of no area
  pub in_a_block : nat_eq p.position 0 ≡ false → (c : Contents) → used p w ≡ Yields c w → area_found p w ≡ Wrong
  unfolding area_found
  in_a_block inside c lives = by (generation_in w.storage p.generation) lives
    where
      by : (o : Option Generation) → further (unless_dead o w) (led_into p) ≡ Yields c w → area_in o ≡ Wrong
      by None l = cc
      by (Some g) l = by_use g (is_whole_area g p) (Yields c w) (no_whole g inside) l

  -- what its use raises is raised
  in_no_block : (e : RunError) → used p w ≡ Raises e w → area_found p w ≡ Raises e w
  unfolding area_found
  in_no_block e dies = by (generation_in w.storage p.generation) dies
    where
      found : (g : Generation) (b : Bool) → nat_eq p.position 0 ≡ b → led_into p g w ≡ Raises e w → area_in (Some g) ≡ Raises e w
      found g true outside l = let both = sym (led_outside g outside) ∙ l in cc
      found g false inside l = by_use g (is_whole_area g p) (Raises e w) (no_whole g inside) l

      by : (o : Option Generation) → further (unless_dead o w) (led_into p) ≡ Raises e w → area_in o ≡ Raises e w
      by None l = ap (λ (x : Answer Contents). further {B = Generation} x (λ c w. Wrong)) l
      by (Some g) l = found g (nat_eq p.position 0) refl l

  pub block_refused : (f : StoreFault) → WholeUsed p w (Err f) → AreaRefused p w f
  block_refused (Raised e) l = in_no_block e l
  block_refused NoRule l = absurd l
  block_refused OutOfMemory l = l

  module _ (g : Generation) (found : generation_in w.storage p.generation ≡ Some g) (outside : p.position ≡ 0) where
    pub after_beginning : p.offset ≢ 0 → area_found p w ≡ Wrong
    unfolding area_found
    after_beginning beyond = rw (found, eq-eqb p.position 0 outside, ne_eqb p.offset 0 beyond) refl

    module _ (first : p.offset ≡ 0) where
      pub no_area : is_area p.description ≡ false → area_found p w ≡ Wrong
      unfolding area_found
      no_area none = rw (found, eq-eqb p.position 0 outside, eq-eqb p.offset 0 first, none) refl

      module _ (area : is_area p.description ≡ true) where
        pub other_area : same g.description p.description ≡ false → area_found p w ≡ Wrong
        unfolding area_found
        other_area other = rw (found, eq-eqb p.position 0 outside, eq-eqb p.offset 0 first, area, other) refl

        pub area_stands : same g.description p.description ≡ true → (at : ℕ) → slice_get w.storage at ≡ Some g → AreaStands w.storage p at
        area_stands equal at stands = record {
          generation = g;
          stands = stands;
          found = found;
          whole = rw (eq-eqb p.position 0 outside, eq-eqb p.offset 0 first, area, equal) refl;
        }

-- what is a whole area is an area
pub whole_is_area : (g : Generation) (p : Place) → is_whole_area g p ≡ true → is_area g.description ≡ true
whole_is_area g p e =
    let last = and_parts ((nat_eq p.position 0 && nat_eq p.offset 0) && is_area p.description) (same g.description p.description) e in
    let first = and_parts (nat_eq p.position 0 && nat_eq p.offset 0) (is_area p.description) last.0 in
    ap is_area ((same_decides g.description p.description).0 last.1) ∙ first.1

-- ---- what is answered

-- without bytes the scalars may not hold what they should begin with
pub begins_misfit : (d : Description) (o : Option (Vec ℕ)) (vs : List Value) → ((bytes : Vec ℕ) → o ≡ Some bytes → ⊥) → Begins d o vs
    → are_held (scalars_of d) vs ≡ false
begins_misfit d None vs nothing b = b
begins_misfit d (Some bytes) vs nothing b = absurd (nothing bytes refl)

module _ (p : Place) (w : World) where
  pub area_there : (at : ℕ) (s : AreaStands w.storage p at) → area_found p w ≡ Yields s.generation w
  unfolding area_found
  area_there at s = rw (s.found, s.whole) refl

  area_refused : {T A : Type 0} (view : T → A) (after : World) (go : Generation → World → Answer A) (f : StoreFault) → AreaRefused p w f
      → Answered view (Err f) w after (further (area_found p w) go)
  area_refused view after go (Raised e) l = ap (λ a. further a go) l
  area_refused view after go NoRule l = ap (λ a. further a go) l
  area_refused view after go OutOfMemory l = tt

  pub emptied_refused : {T : Type 0} (view : T → Unit {0}) (after : World) (f : StoreFault) → AreaRefused p w f → Answered view (Err f) w after (emptied p w)
  unfolding emptied
  emptied_refused view after f l = area_refused view after _ f l

  pub emptied_there : (at : ℕ) → AreaStands w.storage p at → emptied p w ≡ Yields tt (with_area p (λ bs. []) w)
  unfolding emptied
  emptied_there at s = rw (area_there at s) refl

  module _ (d : Description) (vs : List Value) where
    abbrev variable : Variable
    variable = record { description = d; initial = vs }

    pub allocated_misfit : are_held (scalars_of d) vs ≡ false → allocated_in p variable w ≡ Wrong
    unfolding allocated_in
    allocated_misfit misfit = rw misfit refl

    module _ (fits : are_held (scalars_of d) vs ≡ true) where
      pub allocated_refused : {T : Type 0} (view : T → _) (after : World) (f : StoreFault) → AreaRefused p w f
          → Answered view (Err f) w after (allocated_in p variable w)
      unfolding allocated_in
      allocated_refused view after f l = rw fits (area_refused view after _ f l)

      module _ (at : ℕ) (s : AreaStands w.storage p at) where
        pub allocated_full : place_in (size_of s.generation.description) s.generation.blocks (size_of d) ≡ None
            → allocated_in p variable w ≡ Raises error.Area w
        unfolding allocated_in
        allocated_full full = rw (fits, area_there at s, full) refl

        pub allocated_placed : (position : ℕ) → place_in (size_of s.generation.description) s.generation.blocks (size_of d) ≡ Some position
            → allocated_in p variable w
            ≡ Yields (Pointer p.generation position) (with_area p (λ bs. with_block bs (record { position = position; description = d; values = vs })) w)
        unfolding allocated_in
        allocated_placed position fit = rw (fits, area_there at s, fit) refl

module _ (source target : Place) (w : World) where
  pub assigned_from_none : {T : Type 0} (view : T → Unit {0}) (after : World) (f : StoreFault) → AreaRefused source w f
      → Answered view (Err f) w after (assigned source target w)
  unfolding assigned
  assigned_from_none view after f l = area_refused source w view after _ f l

  module _ (from : ℕ) (s : AreaStands w.storage source from) where
    pub assigned_to_none : {T : Type 0} (view : T → Unit {0}) (after : World) (f : StoreFault) → AreaRefused target w f
        → Answered view (Err f) w after (assigned source target w)
    unfolding assigned
    assigned_to_none view after f l = rw (area_there source w from s) (area_refused target w view after _ f l)

    module _ (to : ℕ) (t : AreaStands w.storage target to) where
      pub assigned_there : end_of_blocks s.generation.blocks ≤ size_of t.generation.description
          → assigned source target w ≡ Yields tt (with_area target (λ bs. s.generation.blocks) w)
      unfolding assigned
      assigned_there fits =
          rw (area_there source w from s, area_there target w to t, le-leb (end_of_blocks s.generation.blocks) (size_of t.generation.description) fits) refl

      pub assigned_full : size_of t.generation.description < end_of_blocks s.generation.blocks → assigned source target w ≡ Raises error.Area w
      unfolding assigned
      assigned_full over =
          rw (area_there source w from s, area_there target w to t, lt-leb (end_of_blocks s.generation.blocks) (size_of t.generation.description) over) refl
