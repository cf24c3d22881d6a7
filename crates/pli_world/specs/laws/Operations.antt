-- What every operation on the world keeps: it takes no step, adds to the output, and leaves as many
-- activations as it should.
use Rattle.std.specs.Prelude.{◌≡◌, ℕ, suc, ◌-◌, Bool, ℤ, Option, List, ◌++◌}
use Rattle.pli_base.specs.declared.statement.Condition.{Condition}
use Rattle.pli_map.specs.Description.{Description}
use Rattle.pli_map.specs.declared.dimension.WhichBound.{WhichBound}
use Rattle.pli_map.specs.declared.parameter.StringForm.{StringForm}
use Rattle.pli_value.specs.Value.{Value}
use Rattle.pli_operation.specs.Operations.{Calculation}
use Rattle.pli_world.specs.Storage.{Made, Place}
use Rattle.pli_world.specs.World.{Standing, World, Answer, Yields, Raises, Wrong, height, made_of}
use Rattle.pli_program.specs.Program.{ProgramVariable}
use Rattle.pli_world.specs.Activations.{Head}
use Rattle.pli_world.specs.World.{parts_held, parts_stored, held, stored, copied, led_on, subscripted}
use Rattle.pli_world.specs.World.{calculation}
use Rattle.pli_world.specs.World.{entered, left_by, cleared, at_statement, stepped, height_of, slot_place}
use Rattle.pli_world.specs.World.{static_place, statics_made, dummy_of, printed, line_ended}
use Rattle.pli_world.specs.Areas.{emptied, assigned}
use Rattle.pli_world.specs.Conditions.{established, reverted, signalled}
use Rattle.pli_world.specs.Locating.{place_by, freed_by, pointer_made, block_made, address_of, offset_made}
use Rattle.pli_world.specs.Locating.{pointer_within}
use Rattle.pli_world.specs.Stacks.{generation_stacked, generation_unstacked, generations_counted}
use Rattle.pli_world.specs.Strings.{string_dummy_of, subscripted_by, bound_of_place, string_as}
use Rattle.pli_map.specs.Variables.{Variable}

-- a list begins another
pub record IsPrefix (short long : List ℕ) : Type 0 where
  pub rest : List ℕ
  pub whole : long ≡ short ++ rest

-- one world after another, with so many activations: no step was taken since, and what was printed is still
-- there, before what was printed since
pub record Follows (activations : ℕ) (before after : World) : Type 0 where
  pub steps : after.steps ≡ before.steps
  pub heights : height after ≡ activations
  pub output : IsPrefix before.output after.output

-- in whatever world an operation ends, also where it raises an error
abbrev pub AnswerFollows : {A : Type 0} → (activations : ℕ) (before : World) → Answer A → Type 0
AnswerFollows activations before (Yields x w) = Follows activations before w
AnswerFollows activations before (Raises e w) = Follows activations before w
AnswerFollows activations before Wrong = Unit {0}

-- an operation that leaves the activations as many as they are
abbrev pub Keeps : {A : Type 0} → (World → Answer A) → Type 0
Keeps operation = (w : World) → AnswerFollows (height w) w (operation w)

-- making a generation is such an operation
abbrev pub MakingKeeps : Type 0
MakingKeeps = (d : Description) (how : Made) (vs : List Value) → Keeps (made_of d how vs)

-- asking what a place holds is such an operation
abbrev pub LoadingKeeps : Type 0
LoadingKeeps = (p : Place) → Keeps (held p)

-- putting a value at a place is such an operation
abbrev pub StoringKeeps : Type 0
StoringKeeps = (p : Place) (v : Value) → Keeps (stored p v)

-- asking what the place of an aggregate holds is such an operation
abbrev pub PartsHeldKeep : Type 0
PartsHeldKeep = (p : Place) → Keeps (parts_held p)

-- putting values at the place of an aggregate is such an operation
abbrev pub PartsStoredKeep : Type 0
PartsStoredKeep = (p : Place) (vs : List Value) → Keeps (parts_stored p vs)

-- copying what one place holds to another is such an operation
abbrev pub CopyingKeeps : Type 0
CopyingKeeps = (source target : Place) → Keeps (copied source target)

-- leading a place on is such an operation
abbrev pub LeadingKeeps : Type 0
LeadingKeeps = (offset : ℕ) (d : Description) (p : Place) → Keeps (led_on offset d p)

-- leading a place on by a subscript is such an operation
abbrev pub SubscriptKeeps : Type 0
SubscriptKeeps =
    (low high : ℤ) (multiplier : ℕ) (x : ℤ) (p : Place) → Keeps (subscripted low high multiplier x p)

-- so is leading one on by a subscript of the array that it is
abbrev pub DimensionKeeps : Type 0
DimensionKeeps = (dimension : ℕ) (x : ℤ) (p : Place) → Keeps (subscripted_by dimension x p)

-- and asking for a bound of that array
abbrev pub BoundKeeps : Type 0
BoundKeeps = (which : WhichBound) (dimension : ℕ) (p : Place) → Keeps (bound_of_place which dimension p)

-- taking what an operation of expressions comes to is such an operation
abbrev pub CalculatingKeeps : Type 0
CalculatingKeeps = (c : Calculation) → Keeps (calculation c)

-- fitting a string to the one at a place is such an operation
abbrev pub FittingKeeps : Type 0
FittingKeeps = (p : Place) (v : Value) → Keeps (string_as p v)

-- looking for the activation so many static links outward is such an operation
abbrev pub WalkingKeeps : Type 0
WalkingKeeps = (outward : ℕ) → Keeps (height_of outward)

-- asking for the place in a slot is such an operation
abbrev pub SlotKeeps : Type 0
SlotKeeps = (outward slot : ℕ) → Keeps (slot_place outward slot)

-- making a dummy argument is such an operation
abbrev pub DummyKeeps : Type 0
DummyKeeps = (d : Description) (v : Value) → Keeps (dummy_of d v)

-- so is making one for a string of any length
abbrev pub StringDummyKeeps : Type 0
StringDummyKeeps = (form : StringForm) (v : Value) → Keeps (string_dummy_of form v)

-- asking for the place of a variable that is made once is such an operation
abbrev pub StaticKeeps : Type 0
StaticKeeps = (number : ℕ) → Keeps (static_place number)

-- making such variables is such an operation, whatever units know the external ones by
abbrev pub StaticsKeep : (K : Type 0) → Type 0
StaticsKeep K =
    (equal : K → K → Bool) → (unit number : ℕ) (gs : List (Option (ProgramVariable K)))
    (shared : List (K × Standing)) → Keeps (statics_made equal unit number gs shared)

-- ALLOCATE of a CONTROLLED variable is such an operation
abbrev pub StackingKeeps : Type 0
StackingKeeps = (number : ℕ) → Keeps (generation_stacked number)

-- FREE of one is such an operation
abbrev pub UnstackingKeeps : Type 0
UnstackingKeeps = (number : ℕ) → Keeps (generation_unstacked number)

-- ALLOCATION is such an operation
abbrev pub CountingKeeps : Type 0
CountingKeeps = (number : ℕ) → Keeps (generations_counted number)

-- asking for the place of a BASED variable by a value is such an operation
abbrev pub BasedKeeps : Type 0
BasedKeeps = (d : Description) (v : Value) → Keeps (place_by d v)

-- ALLOCATE of a BASED variable is such an operation
abbrev pub AllocatingKeeps : Type 0
AllocatingKeeps = (v : Variable) → Keeps (pointer_made v)

-- FREE of one is such an operation
abbrev pub FreeingKeeps : Type 0
FreeingKeeps = (d : Description) (v : Value) → Keeps (freed_by d v)

-- ADDR is such an operation
abbrev pub AddressKeeps : Type 0
AddressKeeps = (p : Place) → Keeps (address_of p)

-- ALLOCATE of a BASED variable in an area is such an operation
abbrev pub BlockKeeps : Type 0
BlockKeeps = (p : Place) (v : Variable) → Keeps (block_made p v)

-- a pointer as an offset of an area is such an operation
abbrev pub OffsetKeeps : Type 0
OffsetKeeps = (p : Place) (v : Value) → Keeps (offset_made p v)

-- an offset as a pointer into an area is such an operation
abbrev pub PointerKeeps : Type 0
PointerKeeps = (p : Place) (v : Value) → Keeps (pointer_within p v)

-- assigning an area is such an operation
abbrev pub AssigningKeeps : Type 0
AssigningKeeps = (source target : Place) → Keeps (assigned source target)

-- emptying one is such an operation
abbrev pub EmptyingKeeps : Type 0
EmptyingKeeps = (p : Place) → Keeps (emptied p)

-- establishing an ON-unit is such an operation
abbrev pub EstablishingKeeps : Type 0
EstablishingKeeps =
    (unit : ℕ) (parent : Option ℕ) (c : Condition) (block : ℕ) → Keeps (established unit parent c block)

-- and so is raising a condition
abbrev pub SignallingKeeps : Type 0
SignallingKeeps = (c : Condition) → Keeps (signalled c)

-- removing an ON-unit leaves the activations as many, and takes no step
abbrev pub RevertingKeeps : Type 0
RevertingKeeps = (c : Condition) (w : World) → Follows (height w) w (reverted c w)

-- entering a block adds an activation, also where there is no room for its variables
abbrev pub EnteringAdds : Type 0
EnteringAdds =
    (head : Head) (link : ℕ) (given : List Place) (w : World)
    → AnswerFollows (suc (height w)) w (entered head link given w)

-- leaving one takes it away
abbrev pub LeavingTakes : Type 0
LeavingTakes = (w : World) → Follows (height w - 1) w (left_by w)

-- giving up the calls that are prepared leaves the activations as many, and takes no step
abbrev pub ClearingKeeps : Type 0
ClearingKeeps = (w : World) → Follows (height w) w (cleared w)

-- coming to a statement leaves the activations as many, and takes no step
abbrev pub StatementKeeps : Type 0
StatementKeeps = (statement : ℕ) (w : World) → Follows (height w) w (at_statement statement w)

-- printing leaves the activations as many, and takes no step
abbrev pub PrintingKeeps : Type 0
PrintingKeeps = (item : List ℕ) (w : World) → Follows (height w) w (printed item w)

-- ending a line leaves the activations as many, and takes no step
abbrev pub LineKeeps : Type 0
LineKeeps = (w : World) → Follows (height w) w (line_ended w)

-- a step is one step, and nothing else
pub record TakesStep (before after : World) : Type 0 where
  pub steps : after.steps ≡ suc before.steps
  pub heights : height after ≡ height before
  pub output : after.output ≡ before.output

-- taking a step counts one
abbrev pub SteppingCounts : Type 0
SteppingCounts = (w : World) → TakesStep w (stepped w)
