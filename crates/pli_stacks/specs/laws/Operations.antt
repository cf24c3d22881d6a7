-- Laws of operations on storage and on stacks.
use Rattle.std.specs.Prelude.{◌≡◌, ◌≢◌, ◌<◌, ℕ, Some, None, List, ◌∷◌, slice_get}
use Rattle.pli_map.specs.Description.{Description}
use Rattle.pli_value.specs.Value.{Value}
use Rattle.pli_world.specs.Stacks.{newest, stacked, unstacked, counted}
use Rattle.pli_world.specs.Storage.{Generation, Made, Place, generation_in}
use Rattle.pli_world.specs.World.{Stack, World, Answer, Yields, Raises, Wrong, height, made_of}
use Rattle.pli_world.specs.World.{generation_ended}
use Rattle.pli_world.specs.laws.Operations.{Follows}

-- ---- what stays

-- from one world to another storage and stacks may have changed, and nothing else
pub record SameBeside (before after : World) : Type 0 where
  pub statics : after.statics ≡ before.statics
  pub activations : after.activations ≡ before.activations
  pub output : after.output ≡ before.output
  pub column : after.column ≡ before.column
  pub steps : after.steps ≡ before.steps

-- an answer that leaves storage and stacks alone changed; a refusal leaves the world as it was
abbrev pub AnswerStays : {A : Type 0} → (before : World) → Answer A → Type 0
AnswerStays before (Yields x w) = SameBeside before w
AnswerStays before (Raises e w) = w ≡ before
AnswerStays before Wrong = Unit {0}

-- an operation changes storage and stacks alone, and nothing where it is refused
abbrev pub ChangesStorage : {A : Type 0} → (World → Answer A) → Type 0
ChangesStorage operation = (w : World) → AnswerStays w (operation w)

-- a reference to a CONTROLLED variable is such an operation
abbrev pub NewestStays : Type 0
NewestStays = (number : ℕ) → ChangesStorage (newest number)

-- so is ALLOCATE of one
abbrev pub StackingStays : Type 0
StackingStays = (number : ℕ) → ChangesStorage (stacked number)

-- so is FREE of one
abbrev pub UnstackingStays : Type 0
UnstackingStays = (number : ℕ) → ChangesStorage (unstacked number)

-- so is ALLOCATION
abbrev pub CountingStays : Type 0
CountingStays = (number : ℕ) → ChangesStorage (counted number)

-- where they alone have changed, no step was taken, nothing printed, and there are as many activations
abbrev pub SameBesideFollows : Type 0
SameBesideFollows = (before after : World) → SameBeside before after → Follows (height before) before after

-- ---- numbers of generations

-- what is so of the result and the world after it, where an operation gives a result
abbrev pub IfYields : {A : Type 0} → Answer A → (A → World → Type 0) → Type 0
IfYields (Yields x w) says = says x w
IfYields (Raises e w) says = Unit {0}
IfYields Wrong says = Unit {0}

-- the generation of a number has ended: the number was given out, and nothing of it lives
pub record HasEnded (number : ℕ) (w : World) : Type 0 where
  pub given : number < w.made
  pub gone : generation_in w.storage number ≡ None

-- what has ended stays so after an operation
abbrev pub StaysEnded : {A : Type 0} → (World → Answer A) → Type 0
StaysEnded operation =
    (w : World) (number : ℕ) → HasEnded number w → IfYields (operation w) (λ _ u. HasEnded number u)

-- so it is after whatever makes a generation
abbrev pub EndedAfterMaking : Type 0
EndedAfterMaking = (d : Description) (how : Made) (vs : List Value) → StaysEnded (made_of d how vs)

-- after ALLOCATE of a CONTROLLED variable
abbrev pub EndedAfterStacking : Type 0
EndedAfterStacking = (number : ℕ) → StaysEnded (stacked number)

-- after FREE of one
abbrev pub EndedAfterUnstacking : Type 0
EndedAfterUnstacking = (number : ℕ) → StaysEnded (unstacked number)

-- ---- what lives beside

-- what lives stays as it is after an operation
abbrev pub LivingStays : {A : Type 0} → (World → Answer A) → Type 0
LivingStays operation =
    (w : World) (number : ℕ) (g : Generation) → generation_in w.storage number ≡ Some g
    → IfYields (operation w) (λ _ u. generation_in u.storage number ≡ Some g)

-- after ALLOCATE of a CONTROLLED variable
abbrev pub BesideStacked : Type 0
BesideStacked = (number : ℕ) → LivingStays (stacked number)

-- FREE of a CONTROLLED variable ends the newest of its generations, never an older one; the older ones are left
abbrev pub NewestGoes : Type 0
NewestGoes =
    (number : ℕ) (s : Stack) (p : Place) (older : List Place) (w : World)
    → slice_get w.stacks number ≡ Some (record s { places = p ∷ older })
    → IfYields (unstacked number w)
    (λ _ u. (slice_get u.stacks number ≡ Some (record s { places = older }))
    × (u.storage ≡ (generation_ended p.generation w).storage))

-- other stacks stay as they are
abbrev pub OtherStacks : Type 0
OtherStacks =
    (number other : ℕ) (w : World) → other ≢ number
    → IfYields (stacked number w) (λ _ u. slice_get u.stacks other ≡ slice_get w.stacks other)
    × IfYields (unstacked number w) (λ _ u. slice_get u.stacks other ≡ slice_get w.stacks other)
