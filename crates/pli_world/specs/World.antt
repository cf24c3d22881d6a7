-- What the meaning of a program and the machine share (X3.53): storage, activations, output and column, and
-- the operations on them. An operation gives a result and a world; or it raises an error, in a world; or it
-- is one that no well-typed program asks for.
use Rattle.std.specs.Prelude.{ℕ, suc, ◌+◌, ◌*◌, nat_eq, nat_le, nat_lt, Bool, ◌&&◌, not, ℤ, ◌-ℤ◌}
use Rattle.std.specs.Prelude.{int_le}
use Rattle.std.specs.Prelude.{unsigned_abs, Option, Some, None, List, [], ◌∷◌, ◌++◌, length, slice_get}
use Rattle.std.specs.Prelude.{if◌then◌else◌}
use Rattle.std.specs.List.{filter, list_any}
use Rattle.std.specs.Map.{lookup}
use Rattle.pli_run.specs.Print.{print}
use Rattle.pli_run.specs.declared.ending.RunError.{RunError}
use Rattle.pli_run.specs.declared.ending.RunError.TheVariants.{SubscriptRange, StringRange, DeadLocator}
use Rattle.pli_run.specs.declared.ending.RunError.TheVariants.{DescriptionMismatch, NoGeneration}
use Rattle.pli_run.specs.declared.ending.RunError.TheVariants.{FixedOverflow, ZeroDivide, StorageLimit}
use Rattle.pli_map.specs.Description.{Description}
use Rattle.pli_map.specs.Same.{same}
use Rattle.pli_map.specs.Scalars.{is_area, is_scalar, scalars_in, scalars_of}
use Rattle.pli_map.specs.Sizes.{size_of}
use Rattle.pli_value.specs.Value.{Value}
use Rattle.pli_value.specs.declared.number.Raised.TheVariants as raised
use Rattle.pli_operation.specs.Operations.{Calculation, Calculates, RaisesCondition, OutOfString, Misfits}
use Rattle.pli_program.specs.Kinds.{ProgramVariable}
use Rattle.pli_program.specs.declared.kind.VariableKind.{VariableKind}
use Rattle.pli_program.specs.declared.kind.VariableKind.TheVariants as kinds
use Rattle.pli_world.specs.Activations.{Activation, outward_from, with_newest, without_newest}
use Rattle.pli_world.specs.Activations.{activation_at, Head, no_on_unit}
use Rattle.pli_world.specs.Ends.{RunEnd, Error, MachineFault}
use Rattle.pli_world.specs.Storage.{Block, Generation, Made, Automatic, Static as AsStatic, Dummy, Place}
use Rattle.pli_world.specs.Storage.{Contents, contents_of, whole, field_of, generation_in, block_at}
use Rattle.pli_world.specs.Storage.{scalar_at, values_from, with_values_at, with_contents, without, live_bytes}
use Rattle.pli_world.specs.Storage.{generation_limit, offset_limit}
use Rattle.pli_map.specs.Variables.{byte_limit}
use Rattle.pli_map.specs.Values.{holds, are_held}
use Rattle.pli_map.specs.Variables.{Variable}

-- where a variable stands that is there before the program begins: it lies at a place; or its generations are
-- stacked, as those of a CONTROLLED variable, in the stack of a number
pub data Standing : Type 0 where
  Lies : (place : Place) → Standing
  Stacked : (number : ℕ) → Standing

-- a variable that is there before the program begins, as a unit has it: the unit's number and the number
-- among its globals; and where it stands, the same in all units that share it
pub record Static : Type 0 where
  pub unit : ℕ
  pub number : ℕ
  pub standing : Standing

-- a stack: the variable from which generations are made, and the places of those that it has, the newest
-- first
pub record Stack : Type 0 where
  pub variable : Variable
  pub places : List Place

-- storage with the number that the next generation gets; the variables that were there before the program
-- began, and the stacks of those that are stacked; activations; what is printed, and the next column; how
-- many steps were taken
pub record World : Type 0 where
  pub storage : List Generation
  pub made : ℕ
  pub statics : List Static
  pub stacks : List Stack
  pub activations : List Activation
  pub output : List ℕ
  pub column : ℕ
  pub steps : ℕ

-- before a run
unfoldable pub nothing : World
nothing =
    record {
      storage = [];
      made = 0;
      statics = [];
      stacks = [];
      activations = [];
      output = [];
      column = 1;
      steps = 0;
    }

-- what an operation gives
pub data Answer (A : Type 0) : Type 0 where
  Yields : (result : A) (world : World) → Answer A
  Raises : (error : RunError) (world : World) → Answer A
  Wrong : Answer A

-- one operation after another
abbrev pub further : {A B : Type 0} → Answer A → (A → World → Answer B) → Answer B
further (Yields x w) go = go x w
further (Raises e w) go = Raises e w
further Wrong go = Wrong

-- what is there; it is wrong to ask for what is not there
abbrev pub known : {A : Type 0} → Option A → World → Answer A
known (Some x) w = Yields x w
known None w = Wrong

-- how many activations there are
abbrev pub height : World → ℕ
height w = length w.activations

-- storage

-- a new generation, unless a limit is passed; it is wrong where its scalars may not hold these values
unfoldable pub made_of : Description → Made → List Value → World → Answer Place
made_of d how vs w =
    if nat_lt w.made generation_limit && nat_le (live_bytes w.storage + size_of d) byte_limit
    then (if are_held (scalars_of d) vs
    then Yields (whole w.made d) (record w {
      storage = w.storage
          ++ record { number = w.made; description = d; made = how; values = vs; blocks = [] } ∷ [];
      made = suc w.made;
    })
    else Wrong)
    else Raises StorageLimit w

-- what is found; where nothing is, what leads there is dead
abbrev pub unless_dead : {A : Type 0} → Option A → World → Answer A
unless_dead None w = Raises DeadLocator w
unless_dead (Some x) w = Yields x w

-- the generation of a place, which is dead where that has ended
abbrev pub living : Place → World → Answer Generation
living p w = unless_dead (generation_in w.storage p.generation) w

-- a block that has this whole description; one that has another is another variable's
abbrev pub unless_replaced : Description → Block → World → Answer Block
unless_replaced d b w = if same b.description d then Yields b w else Raises DescriptionMismatch w

-- the block at a position of a generation, where one of this whole description is asked for
abbrev pub block_in : Generation → (position : ℕ) → Description → World → Answer Block
block_in g position d w = further (unless_dead (block_at g.blocks position) w) (unless_replaced d)

-- what a place leads into, where its generation lives: at position 0 this, else one of its blocks
abbrev pub led_into : Place → Generation → World → Answer Contents
led_into p g w =
    if nat_eq p.position 0
    then Yields (contents_of g) w
    else further (block_in g p.position p.whole w)
    (λ b w. Yields (record { description = b.description; values = b.values }) w)

-- a place is used: it is dead where its generation has ended or its block, and another block of the same whole
-- description serves in the place of the one that it met
abbrev pub used : Place → World → Answer Contents
used p w = further (living p w) (led_into p)

-- what the place of an aggregate or of a scalar holds, scalar by scalar
unfoldable pub parts_held : Place → World → Answer (List Value)
parts_held p w =
    further (used p w)
    (λ c w. further (known (scalar_at c p) w)
    (λ k w. Yields (values_from k (scalars_in p.description) c.values) w))

-- values put there
unfoldable pub parts_stored : Place → List Value → World → Answer Unit
parts_stored p vs w =
    further (used p w)
    (λ c w. further (known (scalar_at c p) w)
    (λ k w. Yields tt (record w { storage = with_contents w.storage p (with_values_at k vs c.values) })))

-- one value alone
abbrev pub single : List Value → World → Answer Value
single (v ∷ []) w = Yields v w
single vs w = Wrong

-- what the place of a scalar holds
unfoldable pub held : Place → World → Answer Value
held p w = further (parts_held p w) (λ vs w. if is_scalar p.description then single vs w else Wrong)

-- a value put at the place of a scalar that may hold it
unfoldable pub stored : Place → Value → World → Answer Unit
stored p v w =
    further (used p w) (λ c w. if holds p.description v then parts_stored p (v ∷ []) w else Wrong)

-- what one place holds put at another of an equal description, which is no area's: the source is looked at
-- whole, and then the target. It is wrong to copy an area, or to a place of another description, where these
-- places are not dead
unfoldable pub copied : (source target : Place) → World → Answer Unit
copied source target w =
    further (parts_held source w)
    (λ vs w. if is_area source.description then Wrong
    else if same source.description target.description then parts_stored target vs w
    else further (used target w) (λ c w. Wrong))

-- a generation ends
abbrev pub generation_ended : (generation : ℕ) → World → World
generation_ended generation w = record w { storage = without (generation ∷ []) w.storage }

-- a place is led on by so many bytes, to a part of this description; it is wrong where that is too far from
-- the beginning
abbrev pub led_on : (offset : ℕ) → Description → Place → World → Answer Place
led_on offset description p w =
    if nat_le (p.offset + offset) offset_limit then Yields (field_of offset description p) w else Wrong

-- a subscript of a place: it is within the bounds, and leads on by so many bytes for each number over the
-- low one; the description stays, as the field before has it
abbrev pub subscripted : (low high : ℤ) (multiplier : ℕ) → ℤ → Place → World → Answer Place
subscripted low high multiplier x p w =
    if int_le low x && int_le x high
    then led_on (unsigned_abs (x -ℤ low) * multiplier) p.description p w
    else Raises SubscriptRange w

-- what an operation comes to
abbrev pub calculation : Calculation → World → Answer Value
calculation (Calculates v) w = Yields v w
calculation (RaisesCondition raised.Overflow) w = Raises FixedOverflow w
calculation (RaisesCondition raised.ZeroDivide) w = Raises ZeroDivide w
calculation OutOfString w = Raises StringRange w
calculation Misfits w = Wrong

-- activations

-- the newest activation changed
abbrev pub in_newest : (Activation → Activation) → World → World
in_newest change w = record w { activations = with_newest change w.activations }

-- the newest has a slot more, for a variable that ends with it
abbrev pub with_slot : Place → Activation → Activation
with_slot p a = record a { slots = a.slots ++ p ∷ []; owned = a.owned ++ p.generation ∷ [] }

-- the variables of the newest are made, one after another
abbrev pub made_all : List Variable → World → Answer Unit
made_all [] w = Yields tt w
made_all (v ∷ vs) w =
    further (made_of v.description Automatic v.initial w)
    (λ p w. made_all vs (in_newest (with_slot p) w))

-- a generation is that of one of these places
abbrev pub is_given : List Place → (generation : ℕ) → Bool
is_given given g = list_any (λ p. nat_eq p.generation g) given

-- the pending dummy arguments of the newest that are among these places
abbrev pub handed : List Place → List Activation → List ℕ
handed given [] = []
handed given (a ∷ older) = filter (is_given given) a.pending

-- those that are not stay pending
abbrev pub without_handed : List Place → Activation → Activation
without_handed given a = record a { pending = filter (λ g. not (is_given given g)) a.pending }

-- a new activation, before its variables are made: its first slots are the places that it is given, of which
-- dummy arguments end with it from now on
abbrev pub begun_in : Head → (link : ℕ) → List Place → World → World
begun_in head link given w = record w {
  activations =
      record {
        unit = head.unit;
        block = head.block;
        statement = head.statement;
        link = link;
        slots = given;
        pending = [];
        owned = handed given w.activations;
        on_units = no_on_unit;
      } ∷ with_newest (without_handed given) w.activations;
}

-- a block is entered: first there is the activation, then its variables are made, so that it is the new
-- activation's statement at which there may be no room for them
unfoldable pub entered : Head → (link : ℕ) → List Place → World → Answer Unit
entered head link given w = made_all head.variables (begun_in head link given w)

-- what ends with the newest
abbrev pub ended_with : List Activation → List ℕ
ended_with [] = []
ended_with (a ∷ older) = a.pending ++ a.owned

-- the newest activation ends, with what it owns and with what it has prepared
unfoldable pub left_by : World → World
left_by w = record w {
  storage = without (ended_with w.activations) w.storage;
  activations = without_newest w.activations;
}

-- the dummy arguments that the newest has prepared for calls
abbrev pub prepared_by : List Activation → List ℕ
prepared_by [] = []
prepared_by (a ∷ older) = a.pending

-- the calls that the newest prepares are given up, as a jump has come to it
unfoldable pub cleared : World → World
cleared w = record w {
  storage = without (prepared_by w.activations) w.storage;
  activations = with_newest (λ a. record a { pending = [] }) w.activations;
}

-- the newest is at this statement
unfoldable pub at_statement : (statement : ℕ) → World → World
at_statement s w = in_newest (λ a. record a { statement = s }) w

-- a step is taken
unfoldable pub stepped : World → World
stepped w = record w { steps = suc w.steps }

-- the height of the activation so many static links outward
unfoldable pub height_of : (outward : ℕ) → World → Answer ℕ
height_of outward w = known (outward_from w.activations (height w) outward) w

-- the place in a slot
abbrev pub slot_in : Option Activation → (slot : ℕ) → World → Answer Place
slot_in None slot w = Wrong
slot_in (Some a) slot w = known (slice_get a.slots slot) w

-- the place in a slot of the activation so many static links outward
unfoldable pub slot_place : (outward slot : ℕ) → World → Answer Place
slot_place outward slot w =
    further (height_of outward w) (λ h w. slot_in (activation_at w.activations h) slot w)

-- a value becomes a dummy argument, which the newest prepares
unfoldable pub dummy_of : Description → Value → World → Answer Place
dummy_of d v w =
    if holds d v
    then further (made_of d Dummy (v ∷ []) w)
    (λ p w. Yields p (in_newest (λ a. record a { pending = a.pending ++ p.generation ∷ [] }) w))
    else Wrong

-- static variables

-- where the one of a number of a unit stands
abbrev pub static_in : List Static → (unit number : ℕ) → Option Standing
static_in [] unit number = None
static_in (s ∷ ss) unit number =
    if nat_eq s.unit unit && nat_eq s.number number then Some s.standing else static_in ss unit number

-- the newest of these places; it is an error to ask for it where there is none
abbrev pub newest_in : List Place → World → Answer Place
newest_in [] w = Raises NoGeneration w
newest_in (p ∷ older) w = Yields p w

-- the place of what stands so
abbrev pub place_standing : Standing → World → Answer Place
place_standing (Lies p) w = Yields p w
place_standing (Stacked number) w =
    further (known (slice_get w.stacks number) w) (λ s w. newest_in s.places w)

-- the unit of the newest activation
abbrev pub newest_unit : List Activation → Option ℕ
newest_unit [] = None
newest_unit (a ∷ older) = Some a.unit

-- the place of the one of a number of the newest activation's unit
unfoldable pub static_place : (number : ℕ) → World → Answer Place
static_place number w =
    further (known (newest_unit w.activations) w)
    (λ unit w. further (known (static_in w.statics unit number) w) place_standing)

-- where a variable stands that was made already: only an external one is made for several units, which know
-- it by a key: its name, or its number
abbrev pub made_before : {K : Type 0} → (equal : K → K → Bool) → (external : Option K) → List (K × Standing)
    → Option Standing
made_before equal None shared = None
made_before equal (Some key) shared = lookup (equal key) shared

-- the external ones that are made, with this one if it is external
abbrev pub with_shared : {K : Type 0} → (external : Option K) → Standing → List (K × Standing)
    → List (K × Standing)
with_shared None s shared = shared
with_shared (Some key) s shared = shared ++ (key, s) ∷ []

-- a stack more, of a variable that has no generation yet
abbrev pub with_new_stack : Variable → World → World
with_new_stack v w = record w { stacks = w.stacks ++ record { variable = v; places = [] } ∷ [] }

-- a variable is made: one generation; or, where ALLOCATE makes generations, a stack
abbrev pub made_as : VariableKind → Variable → World → Answer Standing
made_as kinds.Static v w = further (made_of v.description AsStatic v.initial w) (λ p w. Yields (Lies p) w)
made_as kinds.Controlled v w = Yields (Stacked (length w.stacks)) (with_new_stack v w)

-- what was made already is not made again
abbrev pub made_once : VariableKind → Variable → (before : Option Standing) → World → Answer Standing
made_once kind v (Some s) w = Yields s w
made_once kind v None w = made_as kind v w

-- a unit has such a variable, which stands so
abbrev pub with_static : (unit number : ℕ) → Standing → World → World
with_static unit number s w =
    record w { statics = w.statics ++ record { unit = unit; number = number; standing = s } ∷ [] }

-- those among the globals of a unit are made, one after another, from a number on; the external ones that are
-- made then, of all units so far
abbrev pub statics_made : {K : Type 0} → (equal : K → K → Bool) → (unit number : ℕ)
    → List (Option (ProgramVariable K)) → (shared : List (K × Standing)) → World
    → Answer (List (K × Standing))
statics_made equal unit number [] shared w = Yields shared w
statics_made equal unit number (None ∷ gs) shared w = statics_made equal unit (suc number) gs shared w
statics_made equal unit number (Some v ∷ gs) shared w =
    further (made_once v.kind v.global.variable (made_before equal v.global.external shared) w)
    (λ s w. statics_made equal unit (suc number) gs (with_shared v.global.external s shared)
    (with_static unit number s w))

-- output

-- characters printed at the next column
unfoldable pub printed : List ℕ → World → World
printed item w = let p = print w.column item in record w { output = w.output ++ p.bytes; column = p.column }

-- a line ended
unfoldable pub line_ended : World → World
line_ended w = record w { output = w.output ++ 10 ∷ []; column = 1 }

-- ends

-- the end by an error, at the newest's statement
abbrev pub error_in : RunError → List Activation → RunEnd
error_in e [] = MachineFault
error_in e (a ∷ older) = Error e a.unit a.statement

-- an error at the statement that is being executed
unfoldable pub error_at : RunError → World → RunEnd
error_at e w = error_in e w.activations
