-- Operations by locators and on areas change storage alone.
use Rattle.std.proofs.Common.{ℕ, Bool, true, false, Option, Some, None, List, [], refl, sym, subst, nat_eq, nat_le, if◌then◌else◌}
use Rattle.pli_run.specs.declared.ending.RunError.TheVariants.{DescriptionMismatch, OutsideArea}
use Rattle.pli_run.specs.declared.ending.RunError.TheVariants as error
use Rattle.pli_map.specs.Description.{Description}
use Rattle.pli_map.specs.Same.{same}
use Rattle.pli_map.specs.Scalars.{scalars_of}
use Rattle.pli_map.specs.Sizes.{size_of}
use Rattle.pli_map.specs.Values.{are_held}
use Rattle.pli_map.specs.Variables.{Variable}
use Rattle.pli_value.specs.declared.locator.Locator.{Locator}
use Rattle.pli_value.specs.declared.locator.Locator.TheVariants.{Null, Pointer, Offset}
use Rattle.pli_world.specs.Storage.{Block, Generation, Based, Place, block_at, contents_of, generation_in}
use Rattle.pli_world.specs.World.{World, Answer, Yields, Raises, Wrong, further, made_of, used, led_into, block_in, unless_replaced, unless_dead}
use Rattle.pli_world.specs.Areas.{area_found, allocated_in, assigned, emptied, end_of_blocks, is_whole_area, is_within, offset_in, place_in, pointer_in, put_at, with_area, with_block}
use Rattle.pli_world.specs.Targets.{Target, target_at}
use Rattle.pli_stacks.specs.laws.Operations.{SameBeside, AnswerStays}
use Rattle.pli_stacks.proofs.StorageAlone.{same_beside, Leaves, after_leaves, making_stays, after_made}
use Rattle.pli_world.specs.Locating.{unless_other, located, is_allocated, is_whole_of, pointer_to, ended}
use Rattle.pli_world.specs.Locating.{based, based_allocated, based_freed, addressed}
use Rattle.pli_locators.specs.laws.AreaLaws as area
use Rattle.pli_locators.specs.laws.Operations as law

pub leaves_further : {A B : Type 0} (w : World) (a : Answer A) (go : A → World → Answer B) → Leaves w a
    → ((x : A) → Leaves w (go x w)) → Leaves w (further a go)
leaves_further w (Yields x v) go same next = subst (λ u. Leaves w (go x u)) (sym same) (next x)
leaves_further w (Raises e v) go same next = same
leaves_further w Wrong go same next = tt

-- what changes nothing changes storage alone
pub leaves_stays : {A : Type 0} (w : World) (a : Answer A) → Leaves w a → AnswerStays w a
leaves_stays w (Yields x v) same = subst (SameBeside w) (sym same) (same_beside w)
leaves_stays w (Raises e v) same = same
leaves_stays w Wrong same = tt

unless_ended_leaves : (o : Option Target) (w : World) → Leaves w (unless_dead o w)
unless_ended_leaves None w = refl
unless_ended_leaves (Some t) w = refl

unless_other_leaves : (d : Description) (t : Target) (w : World) → Leaves w (unless_other d t w)
unless_other_leaves d t w = by (same t.place.description d)
  where
    by : (b : Bool) → Leaves w (if b then Yields t w else Raises DescriptionMismatch w)
    by true = refl
    by false = refl

pub located_leaves : (d : Description) (l : _) (w : World) → Leaves w (located d l w)
unfolding located
located_leaves d Null w = refl
located_leaves d (Pointer n k) w =
    leaves_further w (unless_dead (target_at n k w.storage) w) (unless_other d) (unless_ended_leaves (target_at n k w.storage) w)
    (λ t. unless_other_leaves d t w)
located_leaves d (Offset k) w = tt

pub locating_stays : law.LocatingStays
locating_stays d l w = leaves_stays w (located d l w) (located_leaves d l w)

pub based_stays : law.BasedStays
unfolding based
based_stays d l w = after_leaves w (located d l w) _ (located_leaves d l w) (λ t. same_beside w)

pub freeing_stays : law.FreeingStays
unfolding based_freed
freeing_stays d l w = after_leaves w (located d l w) _ (located_leaves d l w) (λ t. by t (is_allocated t.made))
  where
    by : (t : Target) (b : Bool) → AnswerStays w (if b then Yields (tt {0}) (ended t.place w) else Raises DescriptionMismatch w)
    by t true = record { statics = refl; activations = refl; output = refl; column = refl; steps = refl }
    by t false = refl

leaves_if : {A : Type 0} (w : World) (b : Bool) (done refused : Answer A) → Leaves w done → Leaves w refused → Leaves w (if b then done else refused)
leaves_if w true done refused l m = l
leaves_if w false done refused l m = m

living_leaves : (o : Option Generation) (w : World) → Leaves w (unless_dead o w)
living_leaves None w = refl
living_leaves (Some g) w = refl

block_leaves : (o : Option Block) (w : World) → Leaves w (unless_dead o w)
block_leaves None w = refl
block_leaves (Some b) w = refl

led_leaves : (p : Place) (g : Generation) (w : World) → Leaves w (led_into p g w)
led_leaves p g w =
    leaves_if w (nat_eq p.position 0) (Yields (contents_of g) w) _ refl
    (leaves_further w (block_in g p.position p.whole w) _
    (leaves_further w (unless_dead (block_at g.blocks p.position) w) (unless_replaced p.whole) (block_leaves (block_at g.blocks p.position) w)
    (λ b. leaves_if w (same b.description p.whole) (Yields b w) (Raises DescriptionMismatch w) refl refl))
    (λ b. refl))

used_leaves : (p : Place) (w : World) → Leaves w (used p w)
used_leaves p w =
    leaves_further w (unless_dead (generation_in w.storage p.generation) w) (led_into p) (living_leaves (generation_in w.storage p.generation) w)
    (λ g. led_leaves p g w)

pub address_stays : law.AddressStays
unfolding addressed
address_stays p w =
    leaves_stays w (further (used p w) _)
    (leaves_further w (used p w) _ (used_leaves p w) (λ c. leaves_if w (is_whole_of c p) (Yields (pointer_to p) w) Wrong refl tt))

-- ---- areas

found_leaves : (p : Place) (w : World) → Leaves w (area_found p w)
unfolding area_found
found_leaves p w =
    leaves_further w (unless_dead (generation_in w.storage p.generation) w) _ (living_leaves (generation_in w.storage p.generation) w)
    (λ g. leaves_if w (is_whole_area g p) (Yields g w) (further (led_into p g w) (λ c w. Wrong)) refl
    (leaves_further {B = Generation} w (led_into p g w) (λ c w. Wrong) (led_leaves p g w) (λ c. tt)))

-- other blocks of one area
area_changed : (p : Place) (change : List Block → List Block) (w : World) → SameBeside w (with_area p change w)
area_changed p change w = record { statics = refl; activations = refl; output = refl; column = refl; steps = refl }

stays_if : {A : Type 0} (w : World) (b : Bool) (done refused : Answer A) → AnswerStays w done → AnswerStays w refused → AnswerStays w (if b then done else refused)
stays_if w true done refused l m = l
stays_if w false done refused l m = m

put_stays : (o : Option ℕ) (p : Place) (v : Variable) (w : World) → AnswerStays w (put_at o p v w)
put_stays None p v w = refl
put_stays (Some position) p v w =
    area_changed p (λ bs. with_block bs (record { position = position; description = v.description; values = v.initial })) w

pub allocating_in_stays : area.AllocatingStays
unfolding allocated_in
allocating_in_stays p v w =
    stays_if w (are_held (scalars_of v.description) v.initial) (further (area_found p w) _) Wrong
    (after_leaves w (area_found p w) _ (found_leaves p w)
    (λ g. put_stays (place_in (size_of g.description) g.blocks (size_of v.description)) p v w)) tt

pub emptying_stays : area.EmptyingStays
unfolding emptied
emptying_stays p w = after_leaves w (area_found p w) _ (found_leaves p w) (λ g. area_changed p (λ bs. []) w)

pub assigning_stays : area.AssigningStays
unfolding assigned
assigning_stays source target w =
    after_leaves w (area_found source w) _ (found_leaves source w)
    (λ g. after_leaves w (area_found target w) _ (found_leaves target w)
    (λ h. stays_if w (nat_le (end_of_blocks g.blocks) (size_of h.description)) (Yields tt (with_area target (λ bs. g.blocks) w)) (Raises error.Area w)
    (area_changed target (λ bs. g.blocks) w) refl))

offset_leaves : (p : Place) (l : Locator) (w : World) → Leaves w (offset_in p l w)
unfolding offset_in
offset_leaves p Null w = leaves_further w (area_found p w) _ (found_leaves p w) (λ g. refl)
offset_leaves p (Pointer generation position) w =
    leaves_further w (area_found p w) _ (found_leaves p w)
    (λ g. leaves_if w (is_within p.generation generation position) (Yields (Offset position) w) (Raises OutsideArea w) refl refl)
offset_leaves p (Offset position) w = tt

pub offset_stays : area.OffsetStays
offset_stays p l w = leaves_stays w (offset_in p l w) (offset_leaves p l w)

pointer_leaves : (p : Place) (l : Locator) (w : World) → Leaves w (pointer_in p l w)
unfolding pointer_in
pointer_leaves p Null w = tt
pointer_leaves p (Pointer generation position) w = tt
pointer_leaves p (Offset position) w =
    leaves_further w (area_found p w) _ (found_leaves p w)
    (λ g. leaves_if w (nat_eq position 0) (Yields Null w) (Yields (Pointer p.generation position) w) refl refl)

pub pointer_stays : area.PointerStays
pointer_stays p l w = leaves_stays w (pointer_in p l w) (pointer_leaves p l w)

-- ---- what makes generations

pub allocating_stays : law.AllocatingStays
unfolding based_allocated
allocating_stays v w =
    after_made w (made_of v.description Based v.initial w) _ (making_stays v.description Based v.initial w) (λ p u f. f)
