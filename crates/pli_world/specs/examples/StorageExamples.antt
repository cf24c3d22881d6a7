-- Worked examples: two activations, the static link between them, and what ends with each; parts of
-- aggregates; variables that are made once.
use Rattle.std.specs.Prelude.{◌≡◌, ℕ, nat_eq, ℤ, pos, negsuc, Option, Some, None, List, [], ◌∷◌, codes}
use Rattle.pli_map.specs.Description.{Description, FixedBinary, Character, Array, Structure, NoMembers}
use Rattle.pli_map.specs.Description.{MemberThen}
use Rattle.pli_value.specs.Value.{Value, Number, Characters}
use Rattle.pli_run.specs.declared.ending.RunError.{RunError}
use Rattle.pli_run.specs.declared.ending.RunError.TheVariants.{DeadLocator, SubscriptRange, NoGeneration}
use Rattle.pli_world.specs.Storage.{Automatic, Place, whole, field_of}
use Rattle.pli_map.specs.Values.{first_values}
use Rattle.pli_world.specs.World.{Stacked, World, nothing, Answer, Yields, Raises, Wrong, further}
use Rattle.pli_map.specs.Variables.{Variable}
use Rattle.pli_program.specs.Program.{ProgramVariable}
use Rattle.pli_program.specs.declared.kind.VariableKind.{VariableKind}
use Rattle.pli_program.specs.declared.kind.VariableKind.TheVariants as kinds
use Rattle.pli_world.specs.Activations.{Head}
use Rattle.pli_world.specs.Stacks.{generation_stacked, generation_unstacked, generations_counted}
use Rattle.pli_world.specs.World.{made_of, entered, left_by, cleared, dummy_of, parts_held, held, slot_place}
use Rattle.pli_world.specs.World.{stored, copied, led_on, subscripted, static_place, statics_made}

-- a procedure with one variable, FIXED BINARY(15)
abbrev pub procedure : Head
procedure = record {
  unit = 0;
  block = 0;
  statement = 1;
  variables = record { description = FixedBinary 15; initial = Number (pos 0) ∷ [] } ∷ [];
}

-- a block of it, with none
abbrev pub inner : Head
inner = record { unit = 0; block = 1; statement = 4; variables = [] }

-- the block runs within the procedure, whose variable has the value 7
abbrev pub within : {A : Type 0} → (World → Answer A) → Answer A
within go =
    further (entered procedure 0 [] nothing)
    (λ _ w. further (slot_place 0 0 w)
    (λ p w. further (stored p (Number (pos 7)) w)
    (λ _ w. further (entered inner 1 [] w) (λ _ w. go w))))

-- the result of an operation that gives one
abbrev pub result_of : {A : Type 0} → Answer A → Option A
result_of (Yields x w) = Some x
result_of (Raises e w) = None
result_of Wrong = None

-- from the block the variable is reached over its static link
abbrev pub OuterVariable : Type 0
OuterVariable = result_of (within (λ w. further (slot_place 1 0 w) held)) ≡ Some (Number (pos 7))

-- a dummy argument gets the next number
abbrev pub DummyNumber : Type 0
DummyNumber =
    result_of (within (dummy_of (Character 2) (Characters (codes "AB")))) ≡ Some (whole 1 (Character 2))

-- the error that an operation raises
abbrev pub error_of : {A : Type 0} → Answer A → Option RunError
error_of (Yields x w) = None
error_of (Raises e w) = Some e
error_of Wrong = None

-- when the call that it was made for is given up, it is no longer there
abbrev pub DummyEnds : Type 0
DummyEnds =
    error_of (within (λ w. further (dummy_of (Character 2) (Characters (codes "AB")) w)
    (λ p w. held p (cleared w)))) ≡ Some DeadLocator

-- and a value that its description does not hold makes none
abbrev pub TooLong : Type 0
TooLong = within (dummy_of (Character 2) (Characters (codes "ABC"))) ≡ Wrong

-- a place that has ended is dead, also for a value that it would not hold
abbrev pub DummyDead : Type 0
DummyDead =
    error_of (within (λ w. further (dummy_of (Character 2) (Characters (codes "AB")) w)
    (λ p w. stored p (Number (pos 1)) (cleared w)))) ≡ Some DeadLocator

-- a structure of a CHARACTER(1) and, two bytes after its beginning, a FIXED BINARY(15)
abbrev pub element : Description
element = Structure (MemberThen (Character 1) (MemberThen (FixedBinary 15) NoMembers))

-- an array (3) of such structures, which are four bytes apart
abbrev pub elements : Description
elements = Array (record { low = pos 1; high = pos 3 } ∷ []) element

-- a structure of a FIXED BINARY(15) and, two bytes after its beginning, that array
abbrev pub aggregate : Description
aggregate = Structure (MemberThen (FixedBinary 15) (MemberThen elements NoMembers))

-- a variable of it, before which there is another
abbrev pub with_aggregate : {A : Type 0} → (Place → World → Answer A) → Answer A
with_aggregate go =
    further (made_of (FixedBinary 15) Automatic (Number (pos 7) ∷ []) nothing)
    (λ _ w. further (made_of aggregate Automatic (first_values aggregate) w) go)

-- the element of a subscript
abbrev pub at_element : ℤ → Place → World → Answer Place
at_element x p w = subscripted (pos 1) (pos 3) 4 x (field_of 2 element p) w

-- the number in the element of a subscript
abbrev pub at_number : ℤ → Place → World → Answer Place
at_number x p w = subscripted (pos 1) (pos 3) 4 x (field_of 4 (FixedBinary 15) p) w

-- 5 put into the number of element 2, which is the fifth scalar of the aggregate
abbrev pub fifth_stored : Place → World → Answer (Unit {0})
fifth_stored p w = further (at_number (pos 2) p w) (λ q w. stored q (Number (pos 5)) w)

-- the scalars, in the order of the members, element by element
abbrev pub scalars : (second third : ℕ) → List Value
scalars second third =
    Number (pos 0) ∷ Characters (codes " ") ∷ Number (pos 0) ∷ Characters (codes " ") ∷ Number (pos second)
    ∷ Characters (codes " ") ∷ Number (pos third) ∷ []

-- it is the fifth of the scalars that the aggregate holds
abbrev pub PartStored : Type 0
PartStored =
    result_of (with_aggregate (λ p w. further (fifth_stored p w) (λ _ w. parts_held p w)))
    ≡ Some (scalars 5 0)

-- its place holds it
abbrev pub PartHeld : Type 0
PartHeld =
    result_of (with_aggregate (λ p w. further (fifth_stored p w)
    (λ _ w. further (at_number (pos 2) p w) held))) ≡ Some (Number (pos 5))

-- an element is copied to another, with all that it has
abbrev pub ElementCopied : Type 0
ElementCopied =
    result_of (with_aggregate (λ p w. further (fifth_stored p w)
    (λ _ w. further (at_element (pos 2) p w)
    (λ source w. further (at_element (pos 3) p w)
    (λ target w. further (copied source target w) (λ _ w. parts_held p w))))))
    ≡ Some (scalars 5 5)

-- an aggregate is not held as one value
abbrev pub AggregateHeld : Type 0
AggregateHeld = with_aggregate (λ p w. held p w) ≡ Wrong

-- there is no element 4, nor -1
abbrev pub NoElement : Type 0
NoElement =
    (error_of (with_aggregate (at_element (pos 4))) ≡ Some SubscriptRange)
    × (error_of (with_aggregate (at_element (negsuc 0))) ≡ Some SubscriptRange)

-- a place is led on to the limit, and no further; a subscript out of its bounds is an error also there
abbrev pub TooFar : Type 0
TooFar =
    (result_of (with_aggregate (led_on 1000000 (Character 1)))
    ≡ Some (field_of 1000000 (Character 1) (whole 1 aggregate)))
    × (with_aggregate (led_on 1000001 (Character 1)) ≡ Wrong)
    × (with_aggregate (subscripted (pos 1) (pos 3) 1000000 (pos 3)) ≡ Wrong)
    × (error_of (with_aggregate (subscripted (pos 1) (pos 3) 1000000 (pos 4))) ≡ Some SubscriptRange)

-- after a character there is none
abbrev pub NoPart : Type 0
NoPart = with_aggregate (λ p w. held (field_of 3 (Character 1) p) w) ≡ Wrong

-- a variable that is made once
abbrev pub once : Variable
once = record { description = FixedBinary 15; initial = Number (pos 3) ∷ [] }

-- as the one global of a unit, of a kind
abbrev pub own : VariableKind → List (Option (ProgramVariable ℕ))
own kind = Some (record { kind = kind; global = record { external = None; variable = once } }) ∷ []

-- it is there in each activation of its unit, and keeps what it holds
abbrev pub StaticStays : Type 0
StaticStays =
    result_of
    (further (statics_made nat_eq 0 0 (own kinds.Static) [] nothing)
    (λ _ w. further (entered inner 0 [] w)
    (λ _ w. further (static_place 0 w)
    (λ p w. further (stored p (Number (pos 8)) w)
    (λ _ w. further (entered inner 0 [] (left_by w))
    (λ _ w. further (static_place 0 w) held))))))
    ≡ Some (Number (pos 8))

-- that of another unit is not there
abbrev pub StaticOfOther : Type 0
StaticOfOther =
    further (statics_made nat_eq 1 0 (own kinds.Static) [] nothing)
    (λ _ w. further (entered inner 0 [] w) (λ _ w. static_place 0 w)) ≡ Wrong

-- the place of a unit's one variable, whose stack has these places
abbrev pub newest_of : List Place → Answer Place
newest_of places =
    further (entered inner 0 [] (record nothing {
      statics = record { unit = 0; number = 0; standing = Stacked 0 } ∷ [];
      stacks = record { variable = once; places = places } ∷ [];
    }))
    (λ _ w. static_place 0 w)

-- it is the newest one; where there is none it is an error to ask for it
abbrev pub NewestOfStack : Type 0
NewestOfStack =
    (result_of (newest_of (whole 2 (FixedBinary 15) ∷ whole 1 (FixedBinary 15) ∷ []))
    ≡ Some (whole 2 (FixedBinary 15)))
    × (error_of (newest_of []) ≡ Some NoGeneration)

-- a unit begins whose one global is a variable of a kind, and then
abbrev pub with_own : {A : Type 0} → VariableKind → (World → Answer A) → Answer A
with_own kind go =
    further (statics_made nat_eq 0 0 (own kind) [] nothing)
    (λ _ w. further (entered inner 0 [] w) (λ _ w. go w))

-- where it is CONTROLLED
abbrev pub with_controlled : {A : Type 0} → (World → Answer A) → Answer A
with_controlled go = with_own kinds.Controlled go

-- it has no generation: there is none to mean or to free, and none was made
abbrev pub NoneAtFirst : Type 0
NoneAtFirst =
    (error_of (with_controlled (static_place 0)) ≡ Some NoGeneration)
    × (error_of (with_controlled (generation_unstacked 0)) ≡ Some NoGeneration)
    × (result_of (with_controlled (generations_counted 0)) ≡ Some (Number (pos 0)))
    × (result_of (with_controlled (made_of (FixedBinary 15) Automatic (Number (pos 0) ∷ [])))
    ≡ Some (whole 0 (FixedBinary 15)))

-- it gets one, which is changed, and then another, and then
abbrev pub with_two : {A : Type 0} → (World → Answer A) → Answer A
with_two go =
    with_controlled (λ w. further (generation_stacked 0 w)
    (λ _ w. further (static_place 0 w)
    (λ p w. further (stored p (Number (pos 8)) w) (λ _ w. further (generation_stacked 0 w) (λ _ w. go w)))))

-- the newer one is meant, and begins as the variable does; when it is freed the older one is meant again
abbrev pub NewestFirst : Type 0
NewestFirst =
    (result_of (with_two (λ w. further (static_place 0 w) held)) ≡ Some (Number (pos 3)))
    × (result_of (with_two (generations_counted 0)) ≡ Some (Number (pos 2)))
    × (result_of (with_two (λ w. further (generation_unstacked 0 w)
    (λ _ w. further (static_place 0 w) held))) ≡ Some (Number (pos 8)))

-- a variable that is made once is not allocated, freed or counted
abbrev pub StaticIsNotAllocated : Type 0
StaticIsNotAllocated =
    (with_own kinds.Static (generation_stacked 0) ≡ Wrong)
    × (with_own kinds.Static (generation_unstacked 0) ≡ Wrong)
    × (with_own kinds.Static (generations_counted 0) ≡ Wrong)

-- a variable that units share, by its number
abbrev pub shared : ProgramVariable ℕ
shared = record { kind = kinds.Static; global = record { external = Some 0; variable = once } }

-- a procedure of another unit
abbrev pub other : Head
other = record { unit = 1; block = 0; statement = 1; variables = [] }

-- it is one: what one unit puts there the other one finds; the numbers are those among all globals of the
-- unit, of which an entry is one too
abbrev pub ExternalIsShared : Type 0
ExternalIsShared =
    result_of
    (further (statics_made nat_eq 0 0 (None ∷ Some shared ∷ []) [] nothing)
    (λ known w. further (statics_made nat_eq 1 0 (Some shared ∷ []) known w)
    (λ _ w. further (entered inner 0 [] w)
    (λ _ w. further (static_place 1 w)
    (λ p w. further (stored p (Number (pos 8)) w)
    (λ _ w. further (entered other 0 [] w)
    (λ _ w. further (static_place 0 w) held)))))))
    ≡ Some (Number (pos 8))
