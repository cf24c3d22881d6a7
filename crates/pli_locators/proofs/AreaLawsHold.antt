-- Laws of operations in areas.
use Rattle.std.proofs.Common.{◌≡◌, ◌≢◌, ℕ, Bool, true, false, nat_eq, nat_lt, nat_le, Option, Some, None, MatchOption, List, [], ◌∷◌, map, option_and_then, option_map, if◌then◌else◌, refl, sym, ap, subst, ◌∙◌, ne_eqb, eqb-true}
use Rattle.std.proofs.lemmas.Option.{none-some, same_Some}
use Rattle.pli_area.specs.Areas.{IsFull, IsLeast, Stand}
use Rattle.pli_area.proofs.FirstFits.{first_is_least}
use Rattle.pli_run.specs.declared.ending.RunError.TheVariants.{DeadLocator, DescriptionMismatch}
use Rattle.pli_run.specs.declared.ending.RunError.TheVariants as error
use Rattle.pli_map.specs.Description.{Description}
use Rattle.pli_map.specs.Scalars.{scalars_of}
use Rattle.pli_map.specs.Sizes.{size_of}
use Rattle.pli_map.specs.Values.{are_held}
use Rattle.pli_map.specs.Variables.{Variable}
use Rattle.pli_value.specs.declared.locator.Locator.TheVariants.{Pointer}
use Rattle.pli_world.specs.Areas.{allocated_in, area_found, assigned, end_of_blocks, is_whole_area, place_in, put_at, room_in, taken_by, with_area, with_block, without_block}
use Rattle.pli_world.specs.Storage.{Block, Generation, Place, block_at, generation_in, whole, with_block_values, with_blocks, without}
use Rattle.pli_world.specs.Targets.{block_target, target_at, target_in}
use Rattle.pli_world.specs.World.{World, Answer, Yields, Raises, Wrong, further, led_into, unless_dead}
use Rattle.pli_world.specs.Locating.{based, ended, based_freed, is_allocated, located, without_whole}
use Rattle.pli_locators.specs.laws.AreaLaws.{BlocksAre, TakesLeast}
use Rattle.pli_locators.specs.laws.AreaLaws as law
use Rattle.pli_stacks.specs.laws.Operations.{IfYields}
use Rattle.pli_stacks.proofs.YieldedAnswers.{yields_further, yields_guarded}
use Rattle.pli_locators.proofs.BlocksApart.{none_left}
use Rattle.pli_locators.proofs.EndedWholes.{blocks_other, blocks_same}
use Rattle.pli_locators.proofs.NumbersGiven.{gone_is_dead, position_of_pointer}
use Rattle.pli_locators.proofs.LivingBeside.{number_of_pointer}
use Rattle.pli_locators.proofs.YieldedAnswers.{IsTarget, yields_always, yields_located}

-- ---- the least position is taken

allocated_there : (p : Place) (v : Variable) (w : World) (g : Generation) → are_held (scalars_of v.description) v.initial ≡ true → area_found p w ≡ Yields g w
    → allocated_in p v w ≡ put_at (place_in (size_of g.description) g.blocks (size_of v.description)) p v w
unfolding allocated_in
allocated_there p v w g held found = rw (held, found) refl

pub least_is_taken : law.LeastIsTaken
least_is_taken p v w g found stands held =
    let capacity = size_of g.description in
    let size = size_of v.description in
    subst (TakesLeast capacity g.blocks p.generation size) (sym (allocated_there p v w g held found))
    (by capacity size (place_in capacity g.blocks size) (first_is_least (room_in capacity g.blocks) size stands))
  where
    by : (capacity size : ℕ) (o : Option ℕ) → MatchOption o (IsFull (room_in capacity g.blocks) size) (IsLeast (room_in capacity g.blocks) size)
        → TakesLeast capacity g.blocks p.generation size (put_at o p v w)
    by capacity size None full = (refl, full)
    by capacity size (Some position) least = (position, refl, least)

-- ---- what lives beside

pub other_blocks_stay : law.OtherBlocksStay
other_blocks_stay [] b vs other apart = (rw (ne_eqb b.position other (λ e. apart (sym e))) refl, refl, refl)
other_blocks_stay (c ∷ cs) b vs other apart =
    let rest = other_blocks_stay cs b vs other apart in (
      with_by (nat_lt b.position c.position) rest.0,
      without_by (nat_eq c.position b.position) refl rest.1,
      values_by (nat_eq c.position b.position) refl rest.2,
    )
  where
    with_by : (l : Bool) → block_at (with_block cs b) other ≡ block_at cs other
        → block_at (if l then b ∷ c ∷ cs else c ∷ with_block cs b) other ≡ block_at (c ∷ cs) other
    with_by true rest = rw (ne_eqb b.position other (λ e. apart (sym e))) refl
    with_by false rest = ap (λ o. if nat_eq c.position other then Some c else o) rest

    without_by : (e : Bool) → nat_eq c.position b.position ≡ e → block_at (without_block cs b.position) other ≡ block_at cs other
        → block_at (if e then cs else c ∷ without_block cs b.position) other ≡ block_at (c ∷ cs) other
    without_by true e rest =
        sym (ap (λ t. if t then Some c else block_at cs other)
        (ne_eqb c.position other (λ same. apart (sym same ∙ eqb-true c.position b.position e))))
    without_by false e rest = ap (λ o. if nat_eq c.position other then Some c else o) rest

    values_by : (e : Bool) → nat_eq c.position b.position ≡ e → block_at (with_block_values cs b.position vs) other ≡ block_at cs other
        → block_at (if e then record c { values = vs } ∷ cs else c ∷ with_block_values cs b.position vs) other ≡ block_at (c ∷ cs) other
    values_by true e rest = rw (ne_eqb c.position other (λ same. apart (sym same ∙ eqb-true c.position b.position e))) refl
    values_by false e rest = ap (λ o. if nat_eq c.position other then Some c else o) rest

pub other_areas_stay : law.OtherAreasStay
other_areas_stay gs generation other change apart = blocks_other change gs generation other apart

pub ends_with_generation : law.EndsWithGeneration
ends_with_generation d generation position w gone = gone_is_dead generation position d w gone

-- ---- ends

-- nothing lives where a block was taken away
gone_target : (gs : List Generation) (p : Place) (generation position : ℕ) (g : Generation) → p.generation ≡ generation → p.position ≡ position → position ≢ 0
    → generation_in gs generation ≡ Some g → Stand 0 (map taken_by g.blocks) → target_at generation position (without_whole p gs) ≡ None
gone_target gs p generation position g number place inside found stand =
    let outside : nat_eq p.position 0 ≡ false = ne_eqb p.position 0 (λ zero. inside (sym place ∙ zero)) in
    let less : generation_in (with_blocks gs generation (λ bs. without_block bs position)) generation ≡ Some (record g { blocks = without_block g.blocks position }) =
    blocks_same (λ bs. without_block bs position) gs generation g found in
    ap (λ b. target_at generation position (if b then without (p.generation ∷ []) gs else with_blocks gs p.generation (λ bs. without_block bs p.position))) outside
    ∙ ap (λ n. target_at generation position (with_blocks gs n (λ bs. without_block bs p.position))) number
    ∙ ap (λ k. target_at generation position (with_blocks gs generation (λ bs. without_block bs k))) place
    ∙ ap (option_and_then (target_in position)) less
    ∙ ap (λ b. if b then Some (record { place = whole g.number g.description; made = g.made })
    else option_map (block_target g.number) (block_at (without_block g.blocks position) position)) (ne_eqb position 0 inside)
    ∙ ap (option_map (block_target g.number)) (none_left 0 g.blocks position stand)

dead_target : (e : Description) (generation position : ℕ) (w : World) → target_at generation position w.storage ≡ None
    → based e (Pointer generation position) w ≡ Raises DeadLocator w
unfolding based located
dead_target e generation position w none = rw none refl

pub freed_block_is_dead : law.FreedBlockIsDead
unfolding based_freed
freed_block_is_dead d e generation position w g inside found stands =
    let l = Pointer generation position in
    yields_further (located d l w) _ (IsTarget l w) _ (yields_located d l w)
    (λ t v i. yields_guarded (is_allocated t.made) (Yields tt (ended t.place v)) (Raises DescriptionMismatch v) _
    (dead_target e generation position (ended t.place v)
    (gone_target v.storage t.place generation position g (sym (ap number_of_pointer i.pointer)) (sym (ap position_of_pointer i.pointer)) inside
    (ap (λ (x : World). generation_in x.storage generation) i.same ∙ found) stands.stand))
    tt)

-- ---- offsets

-- the area of a place
record IsFound (p : Place) (w : World) (g : Generation) (u : World) : Type 0 where
  found : generation_in w.storage p.generation ≡ Some g
  same : u ≡ w

living_is : (o : Option Generation) (w : World) → IfYields (unless_dead o w) (λ g u. (o ≡ Some g) × (u ≡ w))
living_is None w = tt
living_is (Some g) w = (refl, refl)

wrong_at_last : {A B : Type 0} (a : Answer A) (says : B → World → Type 0) → IfYields (further a (λ x v. Wrong)) says
wrong_at_last (Yields x v) says = tt
wrong_at_last (Raises e v) says = tt
wrong_at_last Wrong says = tt

found_is : (p : Place) (w : World) → IfYields (area_found p w) (IsFound p w)
unfolding area_found
found_is p w =
    yields_further (unless_dead (generation_in w.storage p.generation) w) _ (λ g u. (generation_in w.storage p.generation ≡ Some g) × (u ≡ w)) (IsFound p w)
    (living_is (generation_in w.storage p.generation) w)
    (λ g u i. yields_guarded (is_whole_area g p) (Yields g u) (further (led_into p g u) (λ c v. Wrong)) (IsFound p w)
    (record { found = i.0; same = i.1 }) (wrong_at_last (led_into p g u) (IsFound p w)))

-- the blocks of one generation are those that it was given
given_blocks : (gs : List Generation) (generation : ℕ) (bs : List Block) (x : Generation) → generation_in (with_blocks gs generation (λ cs. bs)) generation ≡ Some x
    → x.blocks ≡ bs
given_blocks [] generation bs x h = absurd (none-some x h)
given_blocks (g ∷ gs) generation bs x h = by (nat_eq g.number generation) refl h (given_blocks gs generation bs x)
  where
    by : (b : Bool) → nat_eq g.number generation ≡ b
        → generation_in (if b then record g { blocks = bs } ∷ gs else g ∷ with_blocks gs generation (λ cs. bs)) generation ≡ Some x
        → (generation_in (with_blocks gs generation (λ cs. bs)) generation ≡ Some x → x.blocks ≡ bs) → x.blocks ≡ bs
    by true e here rest = sym (ap (λ (y : Generation). y.blocks) (same_Some (record g { blocks = bs }) x (rw e at here)))
    by false e there rest = rest (rw e at there)

pub offsets_keep_their_meaning : law.OffsetsKeepTheirMeaning
unfolding assigned
offsets_keep_their_meaning source target w g there =
    let says : Unit {0} → World → Type 0 = λ x u. BlocksAre target.generation g.blocks u in
    yields_further (area_found source w) _ (IsFound source w) says (found_is source w)
    (λ a u read. yields_further (area_found target u) _ (λ h v. Unit {0}) says (yields_always (area_found target u))
    (λ h v written. yields_guarded (nat_le (end_of_blocks a.blocks) (size_of h.description)) (Yields tt (with_area target (λ bs. a.blocks) v))
    (Raises error.Area v) says
    (λ x found. given_blocks v.storage target.generation a.blocks x found
    ∙ ap (λ (y : Generation). y.blocks) (same_Some a g (sym read.found ∙ there))) tt))
