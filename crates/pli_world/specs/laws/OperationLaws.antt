-- Each operation keeps what it should: a lemma for each.
use Rattle.std.specs.Prelude.{ℕ, suc, ◌+◌, ◌-◌, nat_eq, nat_le, nat_lt, Bool, true, false, ◌&&◌}
use Rattle.std.specs.Prelude.{Option, ◌*◌, ◌-ℤ◌, int_le, unsigned_abs}
use Rattle.std.specs.Prelude.{Some, None, List, [], ◌∷◌, ◌++◌, length, slice_get, if◌then◌else◌, refl}
use Rattle.std.proofs.Common.{◌≡◌, ◌<◌, ◌≤◌, sym, ap, ◌∙◌, subst, arith, append_assoc, append-nil, le-leb}
use Rattle.std.proofs.lemmas.Bool.{lt-leb}
use Rattle.pli_map.specs.Description.{Description}
use Rattle.pli_map.specs.Dimensions.{ArrayDimension, dimension_at}
use Rattle.pli_run.specs.Print.{print}
use Rattle.pli_run.specs.declared.ending.RunError.TheVariants.{StorageLimit, SubscriptRange}
use Rattle.pli_run.specs.declared.ending.RunError.TheVariants.{DescriptionMismatch, FixedOverflow}
use Rattle.pli_run.specs.declared.ending.RunError.TheVariants.{OutsideArea}
use Rattle.pli_run.specs.declared.ending.RunError.TheVariants as error
use Rattle.pli_map.specs.Same.{same}
use Rattle.pli_map.specs.Scalars.{is_area, is_scalar, scalars_of}
use Rattle.pli_map.specs.Sizes.{size_of}
use Rattle.pli_value.specs.Value.{Value, Located}
use Rattle.pli_value.specs.declared.locator.Locator.{Locator}
use Rattle.pli_value.specs.declared.locator.Locator.TheVariants.{Null, Pointer, Offset}
use Rattle.pli_value.specs.declared.number.Raised.TheVariants as raised
use Rattle.pli_operation.specs.Operations.{Calculates, RaisesCondition, OutOfString, Misfits}
use Rattle.pli_operation.specs.Operations.{string_fitted_to}
use Rattle.pli_world.specs.Activations.{Activation, activation_at, outward_from, with_newest, without_newest}
use Rattle.pli_world.specs.Activations.{with_on_unit}
use Rattle.pli_world.specs.Storage.{Block, Generation, Automatic, Static as AsStatic, Controlled, Based}
use Rattle.pli_world.specs.Storage.{Dummy}
use Rattle.pli_world.specs.Storage.{Place, Contents, contents_of, whole, field_of, generation_in, block_at}
use Rattle.pli_world.specs.Storage.{scalar_at}
use Rattle.pli_world.specs.Storage.{live_bytes, generation_limit, offset_limit}
use Rattle.pli_map.specs.Variables.{byte_limit}
use Rattle.pli_map.specs.Values.{holds, are_held}
use Rattle.pli_program.specs.declared.kind.VariableKind.{VariableKind}
use Rattle.pli_program.specs.declared.kind.VariableKind.TheVariants as kinds
use Rattle.pli_world.specs.World.{Standing, Lies, Stacked, Stack, World, Answer, Yields, Raises, Wrong}
use Rattle.pli_world.specs.World.{further, known, height}
use Rattle.pli_map.specs.Variables.{Variable}
use Rattle.pli_world.specs.World.{made_of, unless_replaced, living, led_into, used, unless_dead}
use Rattle.pli_world.specs.World.{parts_held, parts_stored, single, held}
use Rattle.pli_world.specs.World.{stored}
use Rattle.pli_world.specs.World.{copied, led_on, made_all, in_newest, with_slot, begun_in}
use Rattle.pli_world.specs.World.{without_handed, entered, left_by, cleared, at_statement, stepped, height_of}
use Rattle.pli_world.specs.World.{slot_in, slot_place, newest_unit, static_in, newest_in, place_standing}
use Rattle.pli_world.specs.World.{static_place, made_before}
use Rattle.pli_world.specs.World.{made_as, made_once, with_shared, with_static, statics_made}
use Rattle.pli_world.specs.World.{dummy_of, printed, line_ended}
use Rattle.pli_world.specs.Areas.{place_in, end_of_blocks, with_block, is_whole_area, area_found, with_area}
use Rattle.pli_world.specs.Areas.{put_at, allocated_in, emptied, assigned, is_within, offset_in, pointer_in}
use Rattle.pli_world.specs.Conditions.{is_newest, established, reverted}
use Rattle.pli_world.specs.Targets.{Target, target_at}
use Rattle.pli_world.specs.Locating.{unless_other, located, based, pointer_to, based_allocated}
use Rattle.pli_world.specs.Locating.{ended, is_allocated, based_freed, is_whole_of, addressed, locator_of}
use Rattle.pli_world.specs.Locating.{place_by, freed_by, pointer_made, block_made, address_of, offset_made}
use Rattle.pli_world.specs.Locating.{pointer_within}
use Rattle.pli_world.specs.Stacks.{stack_of, stacked, without_newest_of, unstacked}
use Rattle.pli_world.specs.Stacks.{count_limit, counted, stack_standing, stack_named}
use Rattle.pli_world.specs.Stacks.{generation_stacked, generation_unstacked, generations_counted}
use Rattle.pli_world.specs.Strings.{StringDummy, string_dummy, made_dummy, string_dummy_of, subscripted_in}
use Rattle.pli_world.specs.Strings.{subscripted_by, bound_at, bound_of_place, string_as}
use Rattle.pli_world.specs.laws.Operations.{IsPrefix, Follows, AnswerFollows, MakingKeeps, LoadingKeeps}
use Rattle.pli_world.specs.laws.Operations.{StoringKeeps, PartsHeldKeep, PartsStoredKeep, CopyingKeeps}
use Rattle.pli_world.specs.laws.Operations.{LeadingKeeps, SubscriptKeeps, CalculatingKeeps, WalkingKeeps}
use Rattle.pli_world.specs.laws.Operations.{DimensionKeeps, BoundKeeps, FittingKeeps, StringDummyKeeps}
use Rattle.pli_world.specs.laws.Operations.{SlotKeeps}
use Rattle.pli_world.specs.laws.Operations.{StaticKeeps, StaticsKeep, StackingKeeps, UnstackingKeeps}
use Rattle.pli_world.specs.laws.Operations.{CountingKeeps, BasedKeeps, AllocatingKeeps, FreeingKeeps}
use Rattle.pli_world.specs.laws.Operations.{AddressKeeps, BlockKeeps, OffsetKeeps, PointerKeeps}
use Rattle.pli_world.specs.laws.Operations.{AssigningKeeps, EmptyingKeeps, EstablishingKeeps}
use Rattle.pli_world.specs.laws.Operations.{SignallingKeeps, RevertingKeeps, DummyKeeps, EnteringAdds}
use Rattle.pli_world.specs.laws.Operations.{LeavingTakes, ClearingKeeps, StatementKeeps, PrintingKeeps}
use Rattle.pli_world.specs.laws.Operations.{LineKeeps, SteppingCounts}

-- prefixes

pub prefix_same : (out : List ℕ) → IsPrefix out out
prefix_same out = record { rest = []; whole = sym (append-nil out) }

pub prefix_then : (a b c : List ℕ) → IsPrefix a b → IsPrefix b c → IsPrefix a c
prefix_then a b c p q =
    record {
      rest = p.rest ++ q.rest;
      whole = q.whole ∙ ap (λ l. l ++ q.rest) p.whole ∙ append_assoc a p.rest q.rest;
    }

-- one world after another

pub follows_same : (w : World) → Follows (height w) w w
follows_same w = record { steps = refl; heights = refl; output = prefix_same w.output }

pub follows_then : (n m : ℕ) (u v w : World) → Follows m u v → Follows n v w → Follows n u w
follows_then n m u v w f g =
    record {
      steps = g.steps ∙ f.steps;
      heights = g.heights;
      output = prefix_then u.output v.output w.output f.output g.output;
    }

pub answer_then : {A : Type 0} (n m : ℕ) (u v : World) (a : Answer A) → Follows m u v → AnswerFollows n v a
    → AnswerFollows n u a
answer_then n m u v (Yields x w) f g = follows_then n m u v w f g
answer_then n m u v (Raises e w) f g = follows_then n m u v w f g
answer_then n m u v Wrong f g = tt

pub further_follows : {A B : Type 0} (n m : ℕ) (w : World) (a : Answer A) (go : A → World → Answer B)
    → AnswerFollows m w a → m ≡ n → ((x : A) (v : World) → Follows m w v → AnswerFollows n w (go x v))
    → AnswerFollows n w (further a go)
further_follows n m w (Yields x v) go f e next = next x v f
further_follows n m w (Raises r v) go f e next = subst (λ k. Follows k w v) e f
further_follows n m w Wrong go f e next = tt

pub known_follows : {A : Type 0} (o : Option A) (w : World) → AnswerFollows (height w) w (known o w)
known_follows (Some x) w = follows_same w
known_follows None w = tt

-- what is done only where it may be
guarded : {A : Type 0} (n : ℕ) (w : World) (b : Bool) (a : Answer A) → AnswerFollows n w a
    → AnswerFollows n w (if b then a else Wrong)
guarded n w true a f = f
guarded n w false a f = tt

-- storage

pub making_keeps : MakingKeeps
unfolding made_of
making_keeps d how vs w =
    by _ (nat_lt w.made generation_limit && nat_le (live_bytes w.storage + size_of d) byte_limit)
    (record { steps = refl; heights = refl; output = prefix_same w.output })
  where
    by : (new : World) (room : Bool) → Follows (height w) w new
        → AnswerFollows (height w) w (if room then (if are_held (scalars_of d) vs
        then Yields (whole w.made d) new else Wrong) else Raises StorageLimit w)
    by new true f = guarded (height w) w (are_held (scalars_of d) vs) (Yields (whole w.made d) new) f
    by new false f = follows_same w

-- an operation in the world that another has left
after : {A : Type 0} (n : ℕ) (u v : World) (a : Answer A) → Follows n u v → AnswerFollows (height v) v a
    → AnswerFollows n u a
after n u v a f answer = answer_then n n u v a f (subst (λ k. AnswerFollows k v a) f.heights answer)

living_keeps : (p : Place) (w : World) → AnswerFollows (height w) w (living p w)
living_keeps p w = found (generation_in w.storage p.generation)
  where
    found : (o : Option Generation) → AnswerFollows (height w) w (unless_dead o w)
    found None = follows_same w
    found (Some g) = follows_same w

leading_into_keeps : (p : Place) (g : Generation) (w : World) → AnswerFollows (height w) w (led_into p g w)
leading_into_keeps p g w = by (nat_eq p.position 0) (block_at g.blocks p.position)
  where
    contents : Block → World → Answer Contents
    contents b w = Yields (record { description = b.description; values = b.values }) w

    replaced : (equal : Bool) (b : Block)
        → AnswerFollows (height w) w
        (further (if equal then Yields b w else Raises DescriptionMismatch w) contents)
    replaced true b = follows_same w
    replaced false b = follows_same w

    by : (outside : Bool) (o : Option Block)
        → AnswerFollows (height w) w (if outside then Yields (contents_of g) w
        else further (further (unless_dead o w) (unless_replaced p.whole)) contents)
    by true o = follows_same w
    by false None = follows_same w
    by false (Some b) = replaced (same b.description p.whole) b

using_keeps : (p : Place) (w : World) → AnswerFollows (height w) w (used p w)
using_keeps p w =
    further_follows (height w) (height w) w (living p w) (led_into p) (living_keeps p w) refl
    (λ g v f. after (height w) w v (led_into p g v) f (leading_into_keeps p g v))

pub parts_held_keep : PartsHeldKeep
unfolding parts_held
parts_held_keep p w =
    further_follows (height w) (height w) w (used p w) _ (using_keeps p w) refl
    (λ c v f. after (height w) w v _ f
    (further_follows (height v) (height v) v (known (scalar_at c p) v) _
    (known_follows (scalar_at c p) v) refl
    (λ k u h. h)))

pub parts_stored_keep : PartsStoredKeep
unfolding parts_stored
parts_stored_keep p vs w =
    further_follows (height w) (height w) w (used p w) _ (using_keeps p w) refl
    (λ c v f. after (height w) w v _ f
    (further_follows (height v) (height v) v (known (scalar_at c p) v) _
    (known_follows (scalar_at c p) v) refl
    (λ k u h. record { steps = h.steps; heights = h.heights; output = h.output })))

single_keeps : (vs : List Value) (w : World) → AnswerFollows (height w) w (single vs w)
single_keeps [] w = tt
single_keeps (v ∷ []) w = follows_same w
single_keeps (v ∷ x ∷ vs) w = tt

pub loading_keeps : LoadingKeeps
unfolding held
loading_keeps p w =
    further_follows (height w) (height w) w (parts_held p w) _ (parts_held_keep p w) refl
    (λ vs v f. after (height w) w v _ f
    (guarded (height v) v (is_scalar p.description) (single vs v) (single_keeps vs v)))

pub storing_keeps : StoringKeeps
unfolding stored
storing_keeps p x w =
    further_follows (height w) (height w) w (used p w) _ (using_keeps p w) refl
    (λ c v f. after (height w) w v _ f
    (guarded (height v) v (holds p.description x) (parts_stored p (x ∷ []) v)
    (parts_stored_keep p (x ∷ []) v)))

pub copying_keeps : CopyingKeeps
unfolding copied
copying_keeps source target w =
    further_follows (height w) (height w) w (parts_held source w) _ (parts_held_keep source w) refl
    (λ vs v f. after (height w) w v _ f
    (by vs v (is_area source.description) (same source.description target.description)))
  where
    by : (vs : List Value) (v : World) (area alike : Bool)
        → AnswerFollows (height v) v (if area then Wrong else if alike then parts_stored target vs v
        else further (used target v) (λ c w. Wrong))
    by vs v true alike = tt
    by vs v false true = parts_stored_keep target vs v
    by vs v false false =
        further_follows (height v) (height v) v (used target v) (λ c w. Wrong) (using_keeps target v) refl
        (λ c u f. tt)

-- a place is led on to the limit, and no further
pub led_near : (offset : ℕ) (d : Description) (p : Place) (w : World) → p.offset + offset ≤ offset_limit
    → led_on offset d p w ≡ Yields (field_of offset d p) w
led_near offset d p w near =
    ap (λ b. if b then Yields (field_of offset d p) w else Wrong)
    (le-leb (p.offset + offset) offset_limit near)

pub led_too_far : (offset : ℕ) (d : Description) (p : Place) (w : World) → offset_limit < p.offset + offset
    → led_on offset d p w ≡ Wrong
led_too_far offset d p w far =
    ap (λ b. if b then Yields (field_of offset d p) w else Wrong)
    (lt-leb (p.offset + offset) offset_limit far)

pub leading_keeps : LeadingKeeps
leading_keeps offset d p w =
    guarded (height w) w (nat_le (p.offset + offset) offset_limit) (Yields (field_of offset d p) w)
    (follows_same w)

-- where a subscript is within its bounds
within_bounds : (w : World) (a : Answer Place) (within : Bool) → AnswerFollows (height w) w a
    → AnswerFollows (height w) w (if within then a else Raises SubscriptRange w)
within_bounds w a true f = f
within_bounds w a false f = follows_same w

pub subscript_keeps : SubscriptKeeps
subscript_keeps low high multiplier x p w =
    within_bounds w (led_on (unsigned_abs (x -ℤ low) * multiplier) p.description p w)
    (int_le low x && int_le x high)
    (leading_keeps (unsigned_abs (x -ℤ low) * multiplier) p.description p w)

pub dimension_keeps : DimensionKeeps
unfolding subscripted_by
dimension_keeps k x p w = by (dimension_at p.description k)
  where
    by : (o : Option ArrayDimension) → AnswerFollows (height w) w (subscripted_in o x p w)
    by None = tt
    by (Some d) =
        within_bounds w (led_on (unsigned_abs (x -ℤ d.bounds.low) * d.multiplier) d.after p w)
        (int_le d.bounds.low x && int_le x d.bounds.high)
        (leading_keeps (unsigned_abs (x -ℤ d.bounds.low) * d.multiplier) d.after p w)

pub bound_keeps : BoundKeeps
unfolding bound_of_place
bound_keeps which k p w = by (dimension_at p.description k)
  where
    by : (o : Option ArrayDimension) → AnswerFollows (height w) w (bound_at which o w)
    by None = tt
    by (Some d) = follows_same w

pub calculating_keeps : CalculatingKeeps
calculating_keeps (Calculates v) w = follows_same w
calculating_keeps (RaisesCondition raised.Overflow) w = follows_same w
calculating_keeps (RaisesCondition raised.ZeroDivide) w = follows_same w
calculating_keeps OutOfString w = follows_same w
calculating_keeps Misfits w = tt

pub fitting_keeps : FittingKeeps
unfolding string_as
fitting_keeps p v w = calculating_keeps (string_fitted_to p.description v) w

-- activations

pub newest_stays : (change : Activation → Activation) (stack : List Activation)
    → length (with_newest change stack) ≡ length stack
newest_stays change [] = refl
newest_stays change (a ∷ older) = refl

pub newest_follows : (change : Activation → Activation) (w : World)
    → Follows (height w) w (in_newest change w)
newest_follows change w =
    record { steps = refl; heights = newest_stays change w.activations; output = prefix_same w.output }

-- a change of the newest after another operation
newest_after : (n : ℕ) (change : Activation → Activation) (u v : World) → Follows n u v
    → Follows n u (in_newest change v)
newest_after n change u v f =
    record {
      steps = f.steps;
      heights = newest_stays change v.activations ∙ f.heights;
      output = f.output;
    }

making_all_keeps : (vs : List Variable) (w : World) → AnswerFollows (height w) w (made_all vs w)
making_all_keeps [] w = follows_same w
making_all_keeps (v ∷ vs) w =
    further_follows (height w) (height w) w (made_of v.description Automatic v.initial w) _
    (making_keeps v.description Automatic v.initial w) refl
    (λ p u f. let slotted = in_newest (with_slot p) u in
    after (height w) w slotted (made_all vs slotted) (newest_after (height w) (with_slot p) w u f)
    (making_all_keeps vs slotted))

pub entering_adds : EnteringAdds
unfolding entered
entering_adds head link given w =
    let begun = begun_in head link given w in
    let change = without_handed given in
    let more : height begun ≡ suc (height w) = ap (λ k. suc k) (newest_stays change w.activations) in
    answer_then (suc (height w)) (suc (height w)) w begun (made_all head.variables begun)
    (record { steps = refl; heights = more; output = prefix_same w.output })
    (subst (λ k. AnswerFollows k begun (made_all head.variables begun)) more
    (making_all_keeps head.variables begun))

pub leaving_takes : LeavingTakes
unfolding left_by
leaving_takes w =
    record { steps = refl; heights = one_less w.activations; output = prefix_same w.output }
  where
    one_less : (stack : List Activation) → length (without_newest stack) ≡ length stack - 1
    one_less [] = refl
    one_less (a ∷ older) = omega arith

pub clearing_keeps : ClearingKeeps
unfolding cleared
clearing_keeps w =
    record { steps = refl; heights = newest_stays _ w.activations; output = prefix_same w.output }

pub statement_keeps : StatementKeeps
unfolding at_statement
statement_keeps s w = newest_follows (λ a. record a { statement = s }) w

pub stepping_counts : SteppingCounts
unfolding stepped
stepping_counts w = record { steps = refl; heights = refl; output = refl }

pub walking_keeps : WalkingKeeps
unfolding height_of
walking_keeps outward w = known_follows (outward_from w.activations (height w) outward) w

pub slot_keeps : SlotKeeps
unfolding height_of slot_place
slot_keeps outward slot w = walked (outward_from w.activations (height w) outward)
  where
    in_slot : (o : Option Activation) → AnswerFollows (height w) w (slot_in o slot w)
    in_slot None = tt
    in_slot (Some a) = known_follows (slice_get a.slots slot) w

    walked : (o : Option ℕ)
        → AnswerFollows (height w) w
        (further (known o w) (λ h w. slot_in (activation_at w.activations h) slot w))
    walked None = tt
    walked (Some h) = in_slot (activation_at w.activations h)

pub dummy_keeps : DummyKeeps
unfolding dummy_of
dummy_keeps d v w =
    guarded (height w) w (holds d v) _
    (further_follows (height w) (height w) w (made_of d Dummy (v ∷ []) w) _ (making_keeps d Dummy (v ∷ []) w)
    refl
    (λ p u f. newest_after (height w) _ w u f))

pub string_dummy_keeps : StringDummyKeeps
unfolding string_dummy_of
string_dummy_keeps form v w = by (string_dummy form v)
  where
    by : (o : Option StringDummy) → AnswerFollows (height w) w (made_dummy o w)
    by None = tt
    by (Some d) = dummy_keeps d.description d.value w

-- an operation that keeps, after another
one_after_another : {A B : Type 0} (a : World → Answer A) (go : A → World → Answer B)
    → ((w : World) → AnswerFollows (height w) w (a w))
    → ((x : A) (v : World) → AnswerFollows (height v) v (go x v)) → (w : World)
    → AnswerFollows (height w) w (further (a w) go)
one_after_another a go first next w =
    further_follows (height w) (height w) w (a w) go (first w) refl
    (λ x v f. after (height w) w v (go x v) f (next x v))

-- one on where a global stands
named_keeps : {A : Type 0} (number : ℕ) (go : Standing → World → Answer A)
    → ((s : Standing) (v : World) → AnswerFollows (height v) v (go s v)) → (w : World)
    → AnswerFollows (height w) w
    (further (known (newest_unit w.activations) w)
    (λ unit w. further (known (static_in w.statics unit number) w) go))
named_keeps number go keeps w =
    one_after_another (known (newest_unit w.activations)) _ (known_follows (newest_unit w.activations))
    (λ unit v. one_after_another (known (static_in v.statics unit number)) go
    (known_follows (static_in v.statics unit number)) keeps v) w

pub static_keeps : StaticKeeps
unfolding static_place
static_keeps number w = named_keeps number place_standing standing_keeps w
  where
    newest_keeps : (ps : List Place) (w : World) → AnswerFollows (height w) w (newest_in ps w)
    newest_keeps [] w = follows_same w
    newest_keeps (p ∷ older) w = follows_same w

    standing_keeps : (s : Standing) (w : World) → AnswerFollows (height w) w (place_standing s w)
    standing_keeps (Lies p) w = follows_same w
    standing_keeps (Stacked number) w =
        one_after_another (known (slice_get w.stacks number)) (λ s w. newest_in s.places w)
        (known_follows (slice_get w.stacks number)) (λ s v. newest_keeps s.places v) w

-- stacks

-- so is one in a stack of a number
stack_keeps : {A : Type 0} (number : ℕ) (go : Stack → World → Answer A)
    → ((s : Stack) (v : World) → AnswerFollows (height v) v (go s v)) → (w : World)
    → AnswerFollows (height w) w (further (stack_of number w) go)
stack_keeps number go keeps w =
    one_after_another (known (slice_get w.stacks number)) go (known_follows (slice_get w.stacks number)) keeps
    w

stacked_keeps : (number : ℕ) (w : World) → AnswerFollows (height w) w (stacked number w)
unfolding stacked
stacked_keeps number =
    stack_keeps number _
    (λ s v. further_follows (height v) (height v) v
    (made_of s.variable.description Controlled s.variable.initial v) _
    (making_keeps s.variable.description Controlled s.variable.initial v) refl
    (λ p u f. record { steps = f.steps; heights = f.heights; output = f.output }))

unstacked_keeps : (number : ℕ) (w : World) → AnswerFollows (height w) w (unstacked number w)
unfolding unstacked
unstacked_keeps number = stack_keeps number _ (λ s v. by s s.places v)
  where
    by : (s : Stack) (ps : List Place) (v : World)
        → AnswerFollows (height v) v (without_newest_of number s ps v)
    by s [] v = follows_same v
    by s (p ∷ older) v = record { steps = refl; heights = refl; output = prefix_same v.output }

counted_keeps : (number : ℕ) (w : World) → AnswerFollows (height w) w (counted number w)
unfolding counted
counted_keeps number = stack_keeps number _ (λ s v. by s.places (nat_le (length s.places) count_limit) v)
  where
    by : (ps : List Place) (few : Bool) (v : World)
        → AnswerFollows (height v) v (if few then Yields (length ps) v else Raises FixedOverflow v)
    by ps true v = follows_same v
    by ps false v = follows_same v

stack_named_keeps : (number : ℕ) (w : World) → AnswerFollows (height w) w (stack_named number w)
unfolding stack_named
stack_named_keeps number = named_keeps number stack_standing by
  where
    by : (s : Standing) (w : World) → AnswerFollows (height w) w (stack_standing s w)
    by (Lies p) w = tt
    by (Stacked number) w = follows_same w

pub stacking_keeps : StackingKeeps
unfolding generation_stacked
stacking_keeps number =
    one_after_another (stack_named number) stacked (stack_named_keeps number) stacked_keeps

pub unstacking_keeps : UnstackingKeeps
unfolding generation_unstacked
unstacking_keeps number =
    one_after_another (stack_named number) unstacked (stack_named_keeps number) unstacked_keeps

pub counting_keeps : CountingKeeps
unfolding generations_counted
counting_keeps number =
    one_after_another (stack_named number) _ (stack_named_keeps number)
    (λ stack. one_after_another (counted stack) _ (counted_keeps stack) (λ count v. follows_same v))

-- BASED variables, and ADDR

unless_ended_keeps : (o : Option Target) (w : World) → AnswerFollows (height w) w (unless_dead o w)
unless_ended_keeps None w = follows_same w
unless_ended_keeps (Some t) w = follows_same w

unless_other_keeps : (d : Description) (t : Target) (w : World)
    → AnswerFollows (height w) w (unless_other d t w)
unless_other_keeps d t w = by (same t.place.description d)
  where
    by : (b : Bool) → AnswerFollows (height w) w (if b then Yields t w else Raises DescriptionMismatch w)
    by true = follows_same w
    by false = follows_same w

located_keeps : (d : Description) (l : Locator) (w : World) → AnswerFollows (height w) w (located d l w)
unfolding located
located_keeps d Null w = follows_same w
located_keeps d (Pointer generation position) w =
    one_after_another (λ w. unless_dead (target_at generation position w.storage) w) (unless_other d)
    (λ w. unless_ended_keeps (target_at generation position w.storage) w) (unless_other_keeps d) w
located_keeps d (Offset position) w = tt

locator_keeps : (v : Value) (w : World) → AnswerFollows (height w) w (locator_of v w)
locator_keeps (Located l) w = follows_same w
locator_keeps v w = tt

pub based_keeps : BasedKeeps
unfolding based place_by
based_keeps d v =
    one_after_another (locator_of v) (based d) (locator_keeps v)
    (λ l. one_after_another (located d l) _ (located_keeps d l) (λ t u. follows_same u))

pub allocating_keeps : AllocatingKeeps
unfolding based_allocated pointer_made
allocating_keeps v =
    one_after_another (based_allocated v) _
    (one_after_another (made_of v.description Based v.initial) _
    (making_keeps v.description Based v.initial) (λ p u. follows_same u))
    (λ l u. follows_same u)

-- what is done where a test holds, and what else
either : {A : Type 0} (w : World) (b : Bool) (done other : Answer A) → AnswerFollows (height w) w done
    → AnswerFollows (height w) w other → AnswerFollows (height w) w (if b then done else other)
either w true done other f g = f
either w false done other f g = g

pub freeing_keeps : FreeingKeeps
unfolding based_freed freed_by
freeing_keeps d v =
    one_after_another (locator_of v) (based_freed d) (locator_keeps v)
    (λ l. one_after_another (located d l) _ (located_keeps d l)
    (λ t u. either u (is_allocated t.made) (Yields (tt {0}) (ended t.place u)) (Raises DescriptionMismatch u)
    (record { steps = refl; heights = refl; output = prefix_same u.output }) (follows_same u)))

pub address_keeps : AddressKeeps
unfolding addressed address_of
address_keeps p =
    one_after_another (addressed p) _
    (one_after_another (used p) _ (using_keeps p)
    (λ c u. guarded (height u) u (is_whole_of c p) (Yields (pointer_to p) u) (follows_same u)))
    (λ l u. follows_same u)

-- areas

area_keeps : (p : Place) (w : World) → AnswerFollows (height w) w (area_found p w)
unfolding area_found
area_keeps p =
    one_after_another (living p) _ (living_keeps p)
    (λ g u. either u (is_whole_area g p) (Yields g u) _ (follows_same u)
    (one_after_another (led_into p g) (λ c v. Wrong) (leading_into_keeps p g) (λ c v. tt) u))

-- other blocks of an area
blocks_change : (p : Place) (change : List Block → List Block) (w : World)
    → Follows (height w) w (with_area p change w)
blocks_change p change w = record { steps = refl; heights = refl; output = prefix_same w.output }

putting_keeps : (o : Option ℕ) (p : Place) (v : Variable) (w : World)
    → AnswerFollows (height w) w (put_at o p v w)
putting_keeps None p v w = follows_same w
putting_keeps (Some position) p v w =
    blocks_change p
    (λ bs. with_block bs (record { position = position; description = v.description; values = v.initial })) w

allocating_in_keeps : (p : Place) (v : Variable) (w : World)
    → AnswerFollows (height w) w (allocated_in p v w)
unfolding allocated_in
allocating_in_keeps p v w =
    guarded (height w) w (are_held (scalars_of v.description) v.initial) _
    (one_after_another (area_found p) _ (area_keeps p)
    (λ g u. putting_keeps (place_in (size_of g.description) g.blocks (size_of v.description)) p v u) w)

pub block_keeps : BlockKeeps
unfolding block_made
block_keeps p v w =
    either w (is_area v.description) Wrong _ tt
    (one_after_another (allocated_in p v) _ (allocating_in_keeps p v) (λ l u. follows_same u) w)

pub emptying_keeps : EmptyingKeeps
unfolding emptied
emptying_keeps p =
    one_after_another (area_found p) _ (area_keeps p) (λ g u. blocks_change p (λ bs. []) u)

pub assigning_keeps : AssigningKeeps
unfolding assigned
assigning_keeps source target =
    one_after_another (area_found source) _ (area_keeps source)
    (λ g. one_after_another (area_found target) _ (area_keeps target)
    (λ h u. either u (nat_le (end_of_blocks g.blocks) (size_of h.description))
    (Yields (tt {0}) (with_area target (λ bs. g.blocks) u)) (Raises error.Area u)
    (blocks_change target (λ bs. g.blocks) u) (follows_same u)))

offset_keeps_area : (p : Place) (l : Locator) (w : World) → AnswerFollows (height w) w (offset_in p l w)
unfolding offset_in
offset_keeps_area p Null w = one_after_another (area_found p) _ (area_keeps p) (λ g u. follows_same u) w
offset_keeps_area p (Pointer generation position) w =
    one_after_another (area_found p) _ (area_keeps p)
    (λ g u. either u (is_within p.generation generation position) (Yields (Offset position) u)
    (Raises OutsideArea u) (follows_same u) (follows_same u)) w
offset_keeps_area p (Offset position) w = tt

pointer_keeps_area : (p : Place) (l : Locator) (w : World) → AnswerFollows (height w) w (pointer_in p l w)
unfolding pointer_in
pointer_keeps_area p Null w = tt
pointer_keeps_area p (Pointer generation position) w = tt
pointer_keeps_area p (Offset position) w =
    one_after_another (area_found p) _ (area_keeps p)
    (λ g u. either u (nat_eq position 0) (Yields Null u) (Yields (Pointer p.generation position) u)
    (follows_same u) (follows_same u)) w

pub offset_keeps : OffsetKeeps
unfolding offset_made
offset_keeps p v =
    one_after_another (locator_of v) _ (locator_keeps v)
    (λ l. one_after_another (offset_in p l) _ (offset_keeps_area p l) (λ o u. follows_same u))

pub pointer_keeps : PointerKeeps
unfolding pointer_within
pointer_keeps p v =
    one_after_another (locator_of v) _ (locator_keeps v)
    (λ l. one_after_another (pointer_in p l) _ (pointer_keeps_area p l) (λ q u. follows_same u))

-- conditions

pub establishing_keeps : EstablishingKeeps
unfolding established
establishing_keeps unit parent c block w =
    guarded (height w) w (is_newest unit parent w.activations) _
    (newest_follows (λ a. record a { on_units = with_on_unit c (Some block) a.on_units }) w)

pub reverting_keeps : RevertingKeeps
unfolding reverted
reverting_keeps c w = newest_follows (λ a. record a { on_units = with_on_unit c None a.on_units }) w

pub signalling_keeps : SignallingKeeps
signalling_keeps c w = follows_same w

-- static variables

once_keeps : (kind : VariableKind) (v : Variable) (before : Option Standing) (w : World)
    → AnswerFollows (height w) w (made_once kind v before w)
once_keeps kind v (Some s) w = follows_same w
once_keeps kind v None w = by kind
  where
    by : (kind : VariableKind) → AnswerFollows (height w) w (made_as kind v w)
    by kinds.Static =
        further_follows (height w) (height w) w (made_of v.description AsStatic v.initial w) _
        (making_keeps v.description AsStatic v.initial w) refl (λ p v f. f)
    by kinds.Controlled = record { steps = refl; heights = refl; output = prefix_same w.output }

pub statics_keep : (K : Type 0) → StaticsKeep K
statics_keep K equal unit number [] shared w = follows_same w
statics_keep K equal unit number (None ∷ gs) shared w = statics_keep K equal unit (suc number) gs shared w
statics_keep K equal unit number (Some g ∷ gs) shared w =
    let before = made_before equal g.global.external shared in
    further_follows (height w) (height w) w (made_once g.kind g.global.variable before w) _
    (once_keeps g.kind g.global.variable before w) refl
    (λ s v f.
    let new = with_static unit number s v in
    let more = with_shared g.global.external s shared in
    after (height w) w new (statics_made equal unit (suc number) gs more new)
    (record { steps = f.steps; heights = f.heights; output = f.output })
    (statics_keep K equal unit (suc number) gs more new))

-- output

pub printing_keeps : PrintingKeeps
unfolding printed
printing_keeps item w =
    record {
      steps = refl;
      heights = refl;
      output = record { rest = (print w.column item).bytes; whole = refl };
    }

pub line_keeps : LineKeeps
unfolding line_ended
line_keeps w =
    record { steps = refl; heights = refl; output = record { rest = 10 ∷ []; whole = refl } }
