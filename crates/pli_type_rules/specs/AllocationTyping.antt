-- ALLOCATE and FREE: which variables they take, and where the first fault of each stands (X3.74; the order of
-- faults is own). Their items are looked at one after the other.
use Rattle.std.specs.Prelude.{ℕ, ◌+◌, Option, Some, None, option_map, List, [], ◌∷◌, slice_get, Result, Ok}
use Rattle.pli_base.specs.Results.{◌>>=◌}
use Rattle.pli_base.specs.Reading.{at_fault}
use Rattle.pli_base.specs.Statements.{Allocation}
use Rattle.pli_base.specs.Syntax.{Reference}
use Rattle.pli_base.specs.declared.code.Code.TheVariants.{NotAVariable, CannotAllocateOrFree}
use Rattle.pli_base.specs.declared.token.Fault.{Fault}
use Rattle.pli_type_rules.specs.Beginnings.{area_meant, whole_at}
use Rattle.pli_type_rules.specs.Faults.{or_fault}
use Rattle.pli_type_rules.specs.FunctionCalls.{Denoted, DenotesVariable}
use Rattle.pli_type_rules.specs.Names.{LocatorVariable, OfPointer, OfOffset, NamedStorage, Begins, IsBased}
use Rattle.pli_type_rules.specs.Names.{NamedAs}
use Rattle.pli_type_rules.specs.Names.{AVariable, Naming}
use Rattle.pli_type_rules.specs.References.{AsLocator, AsTarget, Referent, locator_at}
use Rattle.pli_type_rules.specs.Typing.{own_token, referred}
pub use Rattle.pli_type_tree.specs.Allocations.{kept_for}
use Rattle.pli_type_tree.specs.Templates.{Template}
use Rattle.pli_type_rules.specs.declared.beginning.Beginning.{Beginning}
use Rattle.pli_type_tree.specs.TypedTree.{NewestOf, Located, TypedReference, Whole, AllocatedItem}
use Rattle.pli_type_tree.specs.TypedTree.{AllocatesControlled, AllocatesBased, AllocatesInArea, ByOperations}
use Rattle.pli_type_tree.specs.TypedTree.{AsOffsetIn, FreedItem, FreesControlled, FreesBased}

-- each of several in turn, up to the first fault
abbrev pub in_turn : {A B : Type 0} → (A → Result B Fault) → List A → Result (List B) Fault
in_turn each [] = Ok []
in_turn each (x ∷ xs) = do
  y ← each x
  ys ← in_turn each xs
  Ok (y ∷ ys)

-- what may be left out
abbrev pub if_written : {A B : Type 0} → (A → Result B Fault) → Option A → Result (Option B) Fault
if_written each None = Ok None
if_written each (Some x) = do
  y ← each x
  Ok (Some y)

-- a variable or a part of one; T1 at this token where it is none
abbrev pub only_variable : (at : ℕ) → Denoted → Result Referent Fault
only_variable at (DenotesVariable r) = Ok r
only_variable at denoted = at_fault NotAVariable at

-- ALLOCATE

-- the reference in IN or in SET, if one stands: a scalar variable
abbrev pub place_given : Naming → Option Reference → Result (Option Referent) Fault
place_given n None = Ok None
place_given n (Some reference) = do
  d ← referred n AsLocator reference
  r ← only_variable (own_token reference) d
  Ok (Some r)

-- the locator that is set: that in SET, or without SET the one that BASED names
abbrev pub locator_set : (target : Option Referent) → (implied : Option LocatorVariable)
    → Option LocatorVariable
locator_set None implied = implied
locator_set (Some r) implied = locator_at r.reference r.description r.area

-- a BASED variable in an area, of whose block this locator gets the pointer, an OFFSET as an offset of its
-- own area
abbrev pub placed_within : (area : Beginning) → Template → (temporary : ℕ) → LocatorVariable → AllocatedItem
placed_within area t temporary (OfPointer target) =
    AllocatesInArea (whole_at area) t temporary target (ByOperations [])
placed_within area t temporary (OfOffset target own) =
    AllocatesInArea (whole_at area) t temporary target (AsOffsetIn (whole_at own))

-- a BASED variable in free storage, or where the locator is an OFFSET, in the area that this names
abbrev pub placed_freely : Template → (temporary : ℕ) → LocatorVariable → AllocatedItem
placed_freely t temporary (OfPointer target) = AllocatesBased t temporary target
placed_freely t temporary (OfOffset target own) = placed_within own t temporary (OfOffset target own)

-- where a BASED variable is placed: in the area in IN, if one stands, which must be that of an area
abbrev pub placed_in : (area : Option Referent) → Template → (temporary : ℕ) → LocatorVariable
    → Option AllocatedItem
placed_in None t temporary locator = Some (placed_freely t temporary locator)
placed_in (Some r) t temporary locator =
    option_map (λ area. placed_within area t temporary locator) (area_meant r.reference r.description)

-- a BASED variable of this template, whose pointer is kept under this temporary while the locator is found
abbrev pub placed_by : (temporary : ℕ) → (area : Option Referent) → Option Template → Option LocatorVariable
    → Option AllocatedItem
placed_by temporary area (Some t) (Some locator) = placed_in area t temporary locator
placed_by temporary area t locator = None

-- what a variable in this storage takes, by the members on the way to it, where these references stand in IN
-- and in SET: one that is CONTROLLED neither
abbrev pub taken_in : Naming → (temporary : ℕ) → NamedStorage → (path : List ℕ)
    → (area target : Option Referent) → Option AllocatedItem
taken_in n temporary (Begins (NewestOf number) is_parameter) [] None None = Some (AllocatesControlled number)
taken_in n temporary (IsBased block number implied) [] area target =
    placed_by temporary area (slice_get (n.based block) number) (locator_set target implied)
taken_in n temporary storage path area target = None

-- what a name in ALLOCATE takes
abbrev pub taken : Naming → (temporary : ℕ) → NamedAs → (area target : Option Referent)
    → Option AllocatedItem
taken n temporary (AVariable v) area target = taken_in n temporary v.storage v.path area target
taken n temporary meant area target = None

-- an item of ALLOCATE: the faults of IN, then those of SET, whatever their order in the text; then T11 at the
-- name of what can't be allocated
abbrev pub allocated : Naming → (temporary : ℕ) → Allocation → Result AllocatedItem Fault
allocated n temporary a = do
  area ← place_given n a.area
  target ← place_given n a.target
  or_fault CannotAllocateOrFree a.name.at (taken n temporary (n.meaning a.name.at) area target)

-- items one after the other, up to the first fault, the next temporary being this one
abbrev pub all_allocated : Naming → (temporary : ℕ) → List Allocation → Result (List AllocatedItem) Fault
all_allocated n temporary [] = Ok []
all_allocated n temporary (a ∷ others) = do
  x ← allocated n temporary a
  xs ← all_allocated n (temporary + kept_for x) others
  Ok (x ∷ xs)

-- FREE

-- what is freed: the newest generation of a CONTROLLED variable as a whole, or the generation or the block of
-- a BASED one to which its locator leads
abbrev pub released : TypedReference → Option FreedItem
released (Whole (NewestOf number)) = Some (FreesControlled number)
released (Whole (Located locator d)) = Some (FreesBased locator d)
released reference = None

-- an item of FREE: the faults of its reference, then T11 where that can't be freed, at its first name after
-- its last arrow
abbrev pub freed : Naming → Reference → Result FreedItem Fault
freed n reference = do
  d ← referred n AsTarget reference
  r ← only_variable (own_token reference) d
  or_fault CannotAllocateOrFree (own_token reference) (released r.reference)
