-- Places in blocks: where they lead, and what operations on them answer.
use Rattle.std.proofs.Common.{◌≡◌, ◌<◌, ℕ, Bool, true, false, nat_eq, Some, None, Err, List, length, map, get_or, Option, option_map, option_and_then, if◌then◌else◌, slice_get, refl, sym, ap, subst, ◌∙◌}
use Rattle.std.specs.Option.{is_some}
use Rattle.pli_area_blocks.specs.answers.Parts.{PartHolds, PartStands}
use Rattle.pli_run.specs.declared.ending.RunError.TheVariants.{DeadLocator, DescriptionMismatch}
use Rattle.pli_map.specs.Description.{Description}
use Rattle.pli_map.specs.Same.{same}
use Rattle.pli_map.specs.Scalars.{first_scalar}
use Rattle.pli_value.specs.Value.{Value}
use Rattle.pli_world.specs.Storage as plain
use Rattle.pli_world.specs.Storage.{Block, Contents, Place, block_at, contents_of, whole, generation_in, scalar_at, with_block_values, with_blocks, with_values_at}
use Rattle.pli_world.specs.Targets.{Target, block_target, target_at, target_in}
use Rattle.pli_world.specs.World.{World, Yields, Raises, used, parts_held, parts_stored}
use Rattle.std.proofs.lemmas.Option.{none-some, same_Some, slice_get_read}
use Rattle.pli_store.specs.answers.Answered.{Answered}
use Rattle.pli_store.specs.answers.Blocks.{BlockLeads, BlockLeadsTo}
use Rattle.pli_store.specs.answers.Found.{StandsAt}
use Rattle.pli_store.specs.declared.fault.StoreFault.{StoreFault}
use Rattle.pli_store.specs.declared.fault.StoreFault.TheVariants.{Raised, NoRule, OutOfMemory}
use Rattle.pli_store.specs.declared.generation.Generation.{Generation}
use Rattle.pli_store.specs.views.GenerationView.{generation_view}
use Rattle.pli_store.proofs.PlaceLemmas.{nothing_found, something_found, stored_one}
use Rattle.pli_store.proofs.PartAnswers.{number_found}
use Rattle.pli_store.proofs.Searches.{slice_get_within_view, stands_in_view}

-- ---- what a block is

abbrev contents : Block → Contents
contents b = record { description = b.description; values = b.values }

pub block_dead : (p : Place) (w : World) → generation_in w.storage p.generation ≡ None → used p w ≡ Raises DeadLocator w
block_dead p w none = rw none refl

module _ (p : Place) (w : World) (inside : nat_eq p.position 0 ≡ false) (g : plain.Generation) (found : generation_in w.storage p.generation ≡ Some g) where
  pub block_gone : block_at g.blocks p.position ≡ None → used p w ≡ Raises DeadLocator w
  block_gone none = rw (found, inside, none) refl

  pub block_replaced : (b : Block) → block_at g.blocks p.position ≡ Some b → same b.description p.whole ≡ false → used p w ≡ Raises DescriptionMismatch w
  block_replaced b there other = rw (found, inside, there, other) refl

  pub block_used : (b : Block) → block_at g.blocks p.position ≡ Some b → same b.description p.whole ≡ true → used p w ≡ Yields (contents b) w
  block_used b there equal = rw (found, inside, there, equal) refl

-- ---- by what lives where a place leads

-- what is used, where something lives there
pub data TargetUsed (p : Place) (w : World) (t : Target) : Type 0 where
  Outside : nat_eq p.position 0 ≡ true → (c : Contents) → used p w ≡ Yields c w → c.description ≡ t.place.description → TargetUsed p w t
  Inside : nat_eq p.position 0 ≡ false → (g : plain.Generation) → generation_in w.storage p.generation ≡ Some g → (b : Block)
      → block_at g.blocks p.position ≡ Some b → b.description ≡ t.place.description → TargetUsed p w t

module _ (p : Place) (w : World) where
  abbrev whole_target : plain.Generation → Target
  whole_target g = record { place = whole g.number g.description; made = g.made }

  abbrev target_by : plain.Generation → Bool → Option Block → Option Target
  target_by g b o = if b then Some (whole_target g) else option_map (block_target g.number) o

  pub target_dead : target_at p.generation p.position w.storage ≡ None → used p w ≡ Raises DeadLocator w
  target_dead none = by (generation_in w.storage p.generation) refl none
    where
      block : (g : plain.Generation) → generation_in w.storage p.generation ≡ Some g → nat_eq p.position 0 ≡ false → (o : Option Block) → block_at g.blocks p.position ≡ o
          → option_map (block_target g.number) o ≡ None → used p w ≡ Raises DeadLocator w
      block g found inside None gone h = block_gone p w inside g found gone
      block g found inside (Some b) there h = absurd (none-some (block_target g.number b) (sym h))

      at : (g : plain.Generation) → generation_in w.storage p.generation ≡ Some g → (b : Bool) → nat_eq p.position 0 ≡ b
          → target_by g b (block_at g.blocks p.position) ≡ None → used p w ≡ Raises DeadLocator w
      at g found true outside h = absurd (none-some (whole_target g) (sym h))
      at g found false inside h = block g found inside (block_at g.blocks p.position) refl h

      by : (o : Option plain.Generation) → generation_in w.storage p.generation ≡ o → option_and_then (target_in p.position) o ≡ None
          → used p w ≡ Raises DeadLocator w
      by None gone h = rw gone refl
      by (Some g) found h = at g found (nat_eq p.position 0) refl h

  pub target_used : (t : Target) → target_at p.generation p.position w.storage ≡ Some t → TargetUsed p w t
  target_used t lives = by (generation_in w.storage p.generation) refl lives
    where
      block : (g : plain.Generation) → generation_in w.storage p.generation ≡ Some g → nat_eq p.position 0 ≡ false → (o : Option Block) → block_at g.blocks p.position ≡ o
          → option_map (block_target g.number) o ≡ Some t → TargetUsed p w t
      block g found inside None gone h = absurd (none-some t h)
      block g found inside (Some b) there h =
          Inside inside g found b there (ap (λ (x : Target). x.place.description) (same_Some (block_target g.number b) t h))

      at : (g : plain.Generation) → generation_in w.storage p.generation ≡ Some g → (b : Bool) → nat_eq p.position 0 ≡ b
          → target_by g b (block_at g.blocks p.position) ≡ Some t → TargetUsed p w t
      at g found true outside h =
          Outside outside (contents_of g) (rw (found, outside) refl) (ap (λ (x : Target). x.place.description) (same_Some (whole_target g) t h))
      at g found false inside h = block g found inside (block_at g.blocks p.position) refl h

      by : (o : Option plain.Generation) → generation_in w.storage p.generation ≡ o → option_and_then (target_in p.position) o ≡ Some t → TargetUsed p w t
      by None gone h = absurd (none-some t h)
      by (Some g) found h = at g found (nat_eq p.position 0) refl h

  pub target_replaced : (t : Target) → TargetUsed p w t → nat_eq p.position 0 ≡ false → same t.place.description p.whole ≡ false → used p w ≡ Raises DescriptionMismatch w
  target_replaced t (Outside outside c u d) inside other = let both = sym outside ∙ inside in cc
  target_replaced t (Inside inside g found b there is) i other = block_replaced p w inside g found b there (ap (λ d. same d p.whole) is ∙ other)

  pub target_alike : (t : Target) → TargetUsed p w t → (nat_eq p.position 0 ≡ false → same t.place.description p.whole ≡ true)
      → (c : Contents) × (used p w ≡ Yields c w) × (c.description ≡ t.place.description)
  target_alike t (Outside outside c u d) alike = (c, u, d)
  target_alike t (Inside inside g found b there is) alike =
      (contents b, block_used p w inside g found b there (ap (λ d. same d p.whole) is ∙ alike inside), is)

-- ---- where a place leads

module _ (items : List Generation) (p : Place) (at : ℕ) (s : StandsAt (map generation_view items) p.generation at) (inside : nat_eq p.position 0 ≡ false)
    (g : Generation) (here : slice_get items at ≡ Some g) (b : Block) (there : block_at (generation_view g).blocks p.position ≡ Some b) (d : Description)
    (is : b.description ≡ d) (equal : same d p.whole ≡ true) where
  alike : same b.description p.whole ≡ true
  alike = ap (λ e. same e p.whole) is ∙ equal

  pub block_leads : is_some (first_scalar d p.offset p.description) ≡ true → BlockLeadsTo (map generation_view items) p at
  block_leads e =
      let first = something_found (first_scalar d p.offset p.description) e in
      record {
        generation = generation_view g;
        stands = stands_in_view items at g here;
        found = stored_one items p.generation at g s here;
        inside = inside;
        part = record {
          block = b;
          scalar = first.0;
          found = there;
          first = ap (λ x. first_scalar x p.offset p.description) is ∙ first.1;
        };
        same = alike;
      }

  pub block_leads_nowhere : is_some (first_scalar d p.offset p.description) ≡ false → (w : World) → w.storage ≡ map generation_view items
      → (c : Contents) × (used p w ≡ Yields c w) × (scalar_at c p ≡ None)
  block_leads_nowhere e w same_storage = (
    contents b,
    block_used p w inside (generation_view g) (ap (λ gs. generation_in gs p.generation) same_storage ∙ stored_one items p.generation at g s here) b there alike,
    ap (λ x. first_scalar x p.offset p.description) is ∙ nothing_found (first_scalar d p.offset p.description) e,
  )

-- the generation that stands there
module _ (items : List Generation) (p : Place) (at : ℕ) (l : BlockLeadsTo (map generation_view items) p at) where
  pub block_inside : at < length items
  block_inside = slice_get_within_view items at l.generation l.stands

  module _ (g : Generation) (read : g ≡ get_or items at g) where
    pub block_stands : slice_get items at ≡ Some g
    block_stands = slice_get_read items (length items) at g refl block_inside read

    pub block_is : l.generation ≡ generation_view g
    block_is = same_Some l.generation (generation_view g) (sym l.stands ∙ stands_in_view items at g block_stands)

    pub block_part_is : (t : PartStands (generation_view g).blocks p.position p.offset p.description) × (same t.block.description p.whole ≡ true)
    block_part_is =
        subst (λ (x : plain.Generation). (t : PartStands x.blocks p.position p.offset p.description) × (same t.block.description p.whole ≡ true))
        block_is (l.part, l.same)

    pub block_found : generation_in (map generation_view items) p.generation ≡ Some (generation_view g)
    block_found = l.found ∙ ap Some block_is

    pub block_number : (generation_view g).number ≡ p.generation
    block_number = number_found (map generation_view items) p.generation (generation_view g) block_found

    abbrev pub block_here : BlockLeadsTo (map generation_view items) p at
    block_here =
        record {
          generation = generation_view g;
          stands = stands_in_view items at g block_stands;
          found = block_found;
          inside = l.inside;
          part = block_part_is.0;
          same = block_part_is.1;
        }

-- ---- what is answered

module _ (p : Place) (w : World) where
  pub block_unread : {T : Type 0} (view : T → List Value) (after : World) (f : StoreFault) → BlockLeads w.storage p (Err f)
      → Answered view (Err f) w after (parts_held p w)
  unfolding parts_held
  block_unread view after (Raised e) l = rw (l w refl) refl
  block_unread view after NoRule l = let u = l w refl in rw (u.1, u.2) refl
  block_unread view after OutOfMemory l = tt

  pub block_unwritten : {T : Type 0} (view : T → Unit {0}) (after : World) (vs : List Value) (f : StoreFault) → BlockLeads w.storage p (Err f)
      → Answered view (Err f) w after (parts_stored p vs w)
  unfolding parts_stored
  block_unwritten view after vs (Raised e) l = rw (l w refl) refl
  block_unwritten view after vs NoRule l = let u = l w refl in rw (u.1, u.2) refl
  block_unwritten view after vs OutOfMemory l = tt

  module _ (at : ℕ) (l : BlockLeadsTo w.storage p at) (t : PartStands l.generation.blocks p.position p.offset p.description) where
    there_used : used p w ≡ Yields (contents t.block) w
    there_used =
        block_used p w l.inside l.generation l.found t.block t.found
        (ap (λ (b : Block). same b.description p.whole) (sym (same_Some l.part.block t.block (sym l.part.found ∙ t.found))) ∙ l.same)

    pub block_written : (vs : List Value) → parts_stored p vs w
        ≡ Yields tt (record w { storage = with_blocks w.storage p.generation (λ bs. with_block_values bs p.position (with_values_at t.scalar vs t.block.values)) })
    unfolding parts_stored
    block_written vs = rw (there_used, t.first, l.inside) refl

  pub block_read : (at : ℕ) (l : BlockLeadsTo w.storage p at) (vs : List Value) → PartHolds l.generation.blocks p.position p.offset p.description vs
      → parts_held p w ≡ Yields vs w
  unfolding parts_held
  block_read at l vs h = rw (there_used at l h.there, h.there.first) (ap (λ x. Yields x w) h.held)
