-- Operations on stacks change storage and stacks alone.
use Rattle.std.proofs.Common.{◌≡◌, ℕ, Bool, true, false, Option, Some, None, List, [], ◌∷◌, refl, sym, ap, subst, nat_lt, nat_le, ◌&&◌, ◌+◌, length, slice_get, if◌then◌else◌}
use Rattle.pli_run.specs.declared.ending.RunError.TheVariants.{StorageLimit, FixedOverflow}
use Rattle.pli_map.specs.Description.{Description}
use Rattle.pli_map.specs.Scalars.{scalars_of}
use Rattle.pli_map.specs.Sizes.{size_of}
use Rattle.pli_map.specs.Values.{are_held}
use Rattle.pli_map.specs.Variables.{byte_limit}
use Rattle.pli_value.specs.Value.{Value}
use Rattle.pli_world.specs.Storage.{Made, Controlled, Place, whole, live_bytes, generation_limit}
use Rattle.pli_world.specs.Stacks.{stack_of, without_newest_of, count_limit, newest, stacked, unstacked, counted}
use Rattle.pli_world.specs.World.{Stack, World, Answer, Yields, Raises, Wrong, further, known, made_of, newest_in}
use Rattle.pli_world.specs.laws.Operations.{IsPrefix}
use Rattle.pli_world.specs.laws.OperationLaws.{prefix_same}
use Rattle.pli_stacks.specs.laws.Operations.{SameBeside, AnswerStays, ChangesStorage}
use Rattle.pli_stacks.specs.laws.Operations as law

-- nothing has changed
pub same_beside : (w : World) → SameBeside w w
same_beside w = record { statics = refl; activations = refl; output = refl; column = refl; steps = refl }

-- an answer that leaves the world as it is; one that gives something has changed nothing either
abbrev pub Leaves : {A : Type 0} → (before : World) → Answer A → Type 0
Leaves before (Yields x w) = w ≡ before
Leaves before (Raises e w) = w ≡ before
Leaves before Wrong = Unit {0}

-- after an answer that has changed nothing
pub after_leaves : {A B : Type 0} (w : World) (a : Answer A) (go : A → World → Answer B) → Leaves w a
    → ((x : A) → AnswerStays w (go x w)) → AnswerStays w (further a go)
after_leaves w (Yields x v) go same next = subst (λ u. AnswerStays w (go x u)) (sym same) (next x)
after_leaves w (Raises e v) go same next = same
after_leaves w Wrong go same next = tt

pub known_leaves : {A : Type 0} (o : Option A) (w : World) → Leaves w (known o w)
known_leaves None w = tt
known_leaves (Some x) w = refl

-- ---- what makes generations

pub making_stays : (d : Description) (how : Made) (vs : List Value) → ChangesStorage (made_of d how vs)
unfolding made_of
making_stays d how vs w =
    by _ (nat_lt w.made generation_limit && nat_le (live_bytes w.storage + size_of d) byte_limit) (are_held (scalars_of d) vs)
    (record { statics = refl; activations = refl; output = refl; column = refl; steps = refl })
  where
    by : (new : World) (room fits : Bool) → SameBeside w new
        → AnswerStays w (if room then (if fits then Yields (whole w.made d) new else Wrong) else Raises StorageLimit w)
    by new true true f = f
    by new true false f = tt
    by new false fits f = refl

-- after what makes a generation
pub after_made : {A B : Type 0} (w : World) (a : Answer A) (go : A → World → Answer B) → AnswerStays w a
    → ((x : A) (v : World) → SameBeside w v → AnswerStays w (go x v)) → AnswerStays w (further a go)
after_made w (Yields x v) go f next = next x v f
after_made w (Raises e v) go f next = f
after_made w Wrong go f next = tt

-- ---- stacks

stack_leaves : (number : ℕ) (w : World) → Leaves w (stack_of number w)
stack_leaves number w = known_leaves (slice_get w.stacks number) w

pub newest_stays : law.NewestStays
unfolding newest
newest_stays number w = after_leaves w (stack_of number w) _ (stack_leaves number w) (λ s. by s.places)
  where
    by : (ps : List Place) → AnswerStays w (newest_in ps w)
    by [] = refl
    by (p ∷ older) = same_beside w

pub stacking_stays : law.StackingStays
unfolding stacked
stacking_stays number w =
    after_leaves w (stack_of number w) _ (stack_leaves number w)
    (λ s. after_made w (made_of s.variable.description Controlled s.variable.initial w) _ (making_stays s.variable.description Controlled s.variable.initial w)
    (λ p u f. record { statics = f.statics; activations = f.activations; output = f.output; column = f.column; steps = f.steps }))

pub unstacking_stays : law.UnstackingStays
unfolding unstacked
unstacking_stays number w = after_leaves w (stack_of number w) _ (stack_leaves number w) (λ s. by s s.places)
  where
    by : (s : Stack) (ps : List Place) → AnswerStays w (without_newest_of number s ps w)
    by s [] = refl
    by s (p ∷ older) = record { statics = refl; activations = refl; output = refl; column = refl; steps = refl }

pub counting_stays : law.CountingStays
unfolding counted
counting_stays number w = after_leaves w (stack_of number w) _ (stack_leaves number w) (λ s. by s.places (nat_le (length s.places) count_limit))
  where
    by : (ps : List Place) (b : Bool) → AnswerStays w (if b then Yields (length ps) w else Raises FixedOverflow w)
    by ps true = same_beside w
    by ps false = refl

pub same_beside_follows : law.SameBesideFollows
same_beside_follows before after s =
    record {
      steps = s.steps;
      heights = ap length s.activations;
      output = subst (IsPrefix before.output) (sym s.output) (prefix_same before.output);
    }
