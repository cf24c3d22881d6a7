-- Operations that may raise a condition raise it in the world that they were given.
use Rattle.std.specs.Prelude.{◌≡◌, ℕ, nat_eq, nat_le, Bool, true, false, Option, Some, None, if◌then◌else◌, refl}
use Rattle.std.proofs.Common.{sym, subst}
use Rattle.pli_run.specs.declared.ending.RunError.TheVariants as errors
use Rattle.pli_map.specs.Same.{same}
use Rattle.pli_map.specs.Scalars.{is_area, scalars_of}
use Rattle.pli_map.specs.Sizes.{size_of}
use Rattle.pli_map.specs.Values.{are_held}
use Rattle.pli_map.specs.Variables.{Variable}
use Rattle.pli_value.specs.Value.{Located}
use Rattle.pli_value.specs.declared.locator.Locator.{Locator}
use Rattle.pli_world.specs.Areas.{place_in, end_of_blocks, with_area, is_whole_area, area_found, put_at, allocated_in, assigned}
use Rattle.pli_world.specs.Locating.{block_made}
use Rattle.pli_world.specs.Storage.{Block, Generation, Place, Contents, block_at, contents_of, generation_in}
use Rattle.pli_world.specs.World.{World, Answer, Yields, Raises, Wrong, further, unless_replaced, led_into, unless_dead}

-- an operation leaves the world as it is
abbrev Stays : {A : Type 0} → World → Answer A → Type 0
Stays w (Yields x v) = v ≡ w
Stays w (Raises e v) = v ≡ w
Stays w Wrong = Unit {0}

-- an error is raised in a world
abbrev pub RaisesIn : {A : Type 0} → World → Answer A → Type 0
RaisesIn w (Yields x v) = Unit {0}
RaisesIn w (Raises e v) = v ≡ w
RaisesIn w Wrong = Unit {0}

-- one operation after another
further_stays : {A B : Type 0} (w : World) (o : Answer A) (go : A → World → Answer B) → Stays w o → ((x : A) → Stays w (go x w)) → Stays w (further o go)
further_stays w (Yields x v) go h f = subst (λ v. Stays w (go x v)) (sym h) (f x)
further_stays w (Raises e v) go h f = h
further_stays w Wrong go h f = tt

further_raises : {A B : Type 0} (w : World) (o : Answer A) (go : A → World → Answer B) → Stays w o → ((x : A) → RaisesIn w (go x w)) → RaisesIn w (further o go)
further_raises w (Yields x v) go h f = subst (λ v. RaisesIn w (go x v)) (sym h) (f x)
further_raises w (Raises e v) go h f = h
further_raises w Wrong go h f = tt

-- areas that are looked for
into_stays : (p : Place) (g : Generation) (w : World) → Stays w (led_into p g w)
into_stays p g w = by (nat_eq p.position 0)
  where
    met : (b : Block) (c : Bool) → Stays w (if c then Yields b w else Raises errors.DescriptionMismatch w)
    met b true = refl
    met b false = refl

    gone : (o : Option Block) → Stays w (unless_dead o w)
    gone None = refl
    gone (Some b) = refl

    contents_in : Block → World → Answer Contents
    contents_in b w = Yields (record { description = b.description; values = b.values }) w

    by : (c : Bool) → Stays w (if c then Yields (contents_of g) w else further (further (unless_dead (block_at g.blocks p.position) w) (unless_replaced p.whole)) contents_in)
    by true = refl
    by false =
        further_stays w (further (unless_dead (block_at g.blocks p.position) w) (unless_replaced p.whole)) contents_in
        (further_stays w (unless_dead (block_at g.blocks p.position) w) (unless_replaced p.whole) (gone (block_at g.blocks p.position)) (λ b. met b (same b.description p.whole)))
        (λ b. refl)

area_stays : (p : Place) (w : World) → Stays w (area_found p w)
unfolding area_found
area_stays p w =
    further_stays w (unless_dead (generation_in w.storage p.generation) w) (λ g w. if is_whole_area g p then Yields g w else further (led_into p g w) (λ c w. Wrong))
    (living (generation_in w.storage p.generation)) (λ g. by g (is_whole_area g p))
  where
    living : (o : Option Generation) → Stays w (unless_dead o w)
    living None = refl
    living (Some g) = refl

    by : (g : Generation) (b : Bool) → Stays w (if b then Yields g w else further (led_into p g w) (λ c w. Wrong))
    by g true = refl
    by g false = further_stays w (led_into p g w) (λ c w. Wrong) (into_stays p g w) (λ c. tt)

-- ALLOCATE in an area
allocated_raises : (p : Place) (v : Variable) (w : World) → RaisesIn w (allocated_in p v w)
unfolding allocated_in
allocated_raises p v w = by (are_held (scalars_of v.description) v.initial)
  where
    put : (o : Option ℕ) → RaisesIn w (put_at o p v w)
    put None = refl
    put (Some k) = tt

    by : (b : Bool) → RaisesIn w (if b then further (area_found p w) (λ g w. put_at (place_in (size_of g.description) g.blocks (size_of v.description)) p v w) else Wrong)
    by true =
        further_raises w (area_found p w) (λ g w. put_at (place_in (size_of g.description) g.blocks (size_of v.description)) p v w) (area_stays p w)
        (λ g. put (place_in (size_of g.description) g.blocks (size_of v.description)))
    by false = tt

pub block_raises : (p : Place) (v : Variable) (w : World) → RaisesIn w (block_made p v w)
unfolding block_made
block_raises p v w = by (is_area v.description)
  where
    pointed : (o : Answer Locator) → RaisesIn w o → RaisesIn w (further o (λ l w. Yields (Located l) w))
    pointed (Yields l u) h = tt
    pointed (Raises e u) h = h
    pointed Wrong h = tt

    by : (b : Bool) → RaisesIn w (if b then Wrong else further (allocated_in p v w) (λ l w. Yields (Located l) w))
    by true = tt
    by false = pointed (allocated_in p v w) (allocated_raises p v w)

-- one area put in the place of another
pub assigned_raises : (source target : Place) (w : World) → RaisesIn w (assigned source target w)
unfolding assigned
assigned_raises source target w =
    further_raises w (area_found source w) _ (area_stays source w)
    (λ g. further_raises w (area_found target w) _ (area_stays target w) (λ h. by g (nat_le (end_of_blocks g.blocks) (size_of h.description))))
  where
    by : (g : Generation) (b : Bool) → RaisesIn w (if b then Yields (tt {0}) (with_area target (λ bs. g.blocks) w) else Raises errors.Area w)
    by g true = tt
    by g false = refl
