-- Storage by locators (X3.53): what a locator leads to, BASED variables outside areas and in them, ADDR, and
-- pointers as offsets and back.
use Rattle.std.specs.Prelude.{nat_eq, Bool, true, false, ◌&&◌, List, [], ◌∷◌}
use Rattle.std.specs.Prelude.{if◌then◌else◌}
use Rattle.pli_run.specs.declared.ending.RunError.TheVariants.{NullLocator, DescriptionMismatch}
use Rattle.pli_map.specs.Description.{Description}
use Rattle.pli_map.specs.Same.{same}
use Rattle.pli_map.specs.Scalars.{is_area}
use Rattle.pli_map.specs.Variables.{Variable}
use Rattle.pli_value.specs.Value.{Value, Located}
use Rattle.pli_value.specs.declared.locator.Locator.{Locator}
use Rattle.pli_value.specs.declared.locator.Locator.TheVariants.{Null, Pointer, Offset}
use Rattle.pli_world.specs.Areas.{without_block, allocated_in, offset_in, pointer_in}
use Rattle.pli_world.specs.Storage.{Generation, Made, Based, Place, Contents, without, with_blocks}
use Rattle.pli_world.specs.Targets.{Target, target_at}
use Rattle.pli_world.specs.World.{World, Answer, Yields, Raises, Wrong, further, made_of, used}
use Rattle.pli_world.specs.World.{unless_dead}

-- ---- what a pointer leads to

-- what has this whole description; what has another is another variable's
abbrev pub unless_other : Description → Target → World → Answer Target
unless_other d t w = if same t.place.description d then Yields t w else Raises DescriptionMismatch w

-- what a locator leads to, where a variable of this description is asked for: null leads nowhere, and an
-- offset tells nothing without its area
unfoldable pub located : Description → Locator → World → Answer Target
located d Null w = Raises NullLocator w
located d (Pointer generation position) w =
    further (unless_dead (target_at generation position w.storage) w) (unless_other d)
located d (Offset position) w = Wrong

-- ---- BASED variables

-- the place of a BASED variable by a locator
unfoldable pub based : Description → Locator → World → Answer Place
based d l w = further (located d l w) (λ t w. Yields t.place w)

-- the pointer to what a place is the whole of
abbrev pub pointer_to : Place → Locator
pointer_to p = Pointer p.generation p.position

-- ALLOCATE of a BASED variable, outside areas: a new generation, and the pointer to it
unfoldable pub based_allocated : Variable → World → Answer Locator
based_allocated v w = further (made_of v.description Based v.initial w) (λ p w. Yields (pointer_to p) w)

-- without what a place is the whole of: a generation, with all that lies in it, or a block of one
abbrev pub without_whole : Place → List Generation → List Generation
without_whole p gs =
    if nat_eq p.position 0
    then without (p.generation ∷ []) gs
    else with_blocks gs p.generation (λ bs. without_block bs p.position)

-- what a place is the whole of ends
abbrev pub ended : Place → World → World
ended p w = record w { storage = without_whole p w.storage }

-- something was made by ALLOCATE of a BASED variable
abbrev pub is_allocated : Made → Bool
is_allocated Based = true
is_allocated other = false

-- FREE of a BASED variable: what the locator leads to ends, if ALLOCATE of a BASED variable has made it
unfoldable pub based_freed : Description → Locator → World → Answer Unit
based_freed d l w =
    further (located d l w)
    (λ t w. if is_allocated t.made then Yields tt (ended t.place w) else Raises DescriptionMismatch w)

-- ---- ADDR

-- a place is the whole of what it leads into
abbrev pub is_whole_of : Contents → Place → Bool
is_whole_of c p = nat_eq p.offset 0 && same c.description p.description

-- ADDR of a place: the pointer to what it is the whole of; it is wrong to ask for one to a part
unfoldable pub addressed : Place → World → Answer Locator
addressed p w =
    further (used p w) (λ c w. if is_whole_of c p then Yields (pointer_to p) w else Wrong)

-- ---- by values

-- the locator that a value is; it is wrong to ask another value for one
abbrev pub locator_of : Value → World → Answer Locator
locator_of (Located l) w = Yields l w
locator_of v w = Wrong

-- the place of a BASED variable
unfoldable pub place_by : Description → Value → World → Answer Place
place_by d v w = further (locator_of v w) (based d)

-- FREE of one
unfoldable pub freed_by : Description → Value → World → Answer Unit
freed_by d v w = further (locator_of v w) (based_freed d)

-- ALLOCATE of one
unfoldable pub pointer_made : Variable → World → Answer Value
pointer_made v w = further (based_allocated v w) (λ l w. Yields (Located l) w)

-- ALLOCATE of one in an area; it is wrong for a variable that is an area itself
unfoldable pub block_made : Place → Variable → World → Answer Value
block_made p v w =
    if is_area v.description then Wrong else further (allocated_in p v w) (λ l w. Yields (Located l) w)

-- ADDR
unfoldable pub address_of : Place → World → Answer Value
address_of p w = further (addressed p w) (λ l w. Yields (Located l) w)

-- a pointer as an offset of an area
unfoldable pub offset_made : Place → Value → World → Answer Value
offset_made p v w =
    further (locator_of v w) (λ l w. further (offset_in p l w) (λ o w. Yields (Located o) w))

-- an offset as a pointer into an area
unfoldable pub pointer_within : Place → Value → World → Answer Value
pointer_within p v w =
    further (locator_of v w) (λ l w. further (pointer_in p l w) (λ q w. Yields (Located q) w))
