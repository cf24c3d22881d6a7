-- ALLOCATE and FREE are of what is within the limits.
use Rattle.std.specs.Prelude.{ℕ, zero, suc, ◌+◌, Option, Some, None, option_map, List, [], ◌∷◌, slice_get}
use Rattle.std.specs.List.{AllByRecursion}
use Rattle.pli_base.specs.Statements.{Allocation}
use Rattle.pli_base.specs.Syntax.{Reference}
use Rattle.pli_base.specs.declared.code.Code.TheVariants.{CannotAllocateOrFree}
use Rattle.pli_type_rules.specs.AllocationTyping.{in_turn, only_variable, place_given, locator_set, placed_within, placed_freely, placed_in, placed_by, taken_in, taken, allocated, all_allocated, released, freed}
use Rattle.pli_type_rules.specs.Beginnings.{area_meant, whole_at}
use Rattle.pli_type_rules.specs.FunctionCalls.{Denoted, DenotesVariable, DenotesResult, DenotesEmpty}
use Rattle.pli_type_rules.specs.Names.{LocatorVariable, OfPointer, OfOffset, NamedStorage, Begins, IsBased, NamedAs, AVariable, Naming}
use Rattle.pli_type_rules.specs.References.{AsLocator, AsTarget, Referent}
use Rattle.pli_type_rules.specs.declared.beginning.Beginning.{Beginning}
use Rattle.pli_type_rules.specs.Typing.{own_token, referred}
use Rattle.pli_type_rules.specs.TypingSteps.{allocate_typed, free_typed}
use Rattle.pli_type_tree.specs.Allocations.{kept_for}
use Rattle.pli_type_tree.specs.Templates.{Template}
use Rattle.pli_type_tree.specs.TypedTree.{NewestOf, Located, TypedReference, Whole, TypedUnit}
use Rattle.pli_type_laws.proofs.Conversions.{OnGiven}
use Rattle.pli_type_laws.proofs.Denotations.{OnRead}
use Rattle.pli_type_laws.proofs.Expressions.{read_option}
use Rattle.pli_type_laws.proofs.References.{read_then}
use Rattle.pli_type_bounds.proofs.ExpressionsFit.{N, referred_fits}
use Rattle.pli_type_bounds.proofs.Meanings.{IsAreaNamed, IsLocatorVariable, IsImplied, locator_fits, IsStorage, IsMeaning, IsReferent, IsDenoted}
use Rattle.pli_type_bounds.proofs.OperatorsFit.{area_fits}
use Rattle.pli_deck_laws.specs.Limits.{IfThere, IsTemplate}
use Rattle.pli_deck_laws.specs.WellFormed.{IsReference, IsAllocated, IsFreed, IsForm}

template_at : (ts : List Template) (k : ℕ) → AllByRecursion IsTemplate ts → OnGiven IsTemplate (slice_get ts k)
template_at [] k h = tt
template_at (x ∷ ts) zero h = h.0
template_at (x ∷ ts) (suc k) h = template_at ts k h.1

module _ (t : TypedUnit) where
  -- the reference in IN or in SET, if one stands
  abbrev IsGiven : Option Referent → Type 0
  IsGiven o = IfThere (IsReferent t) o

  -- ALLOCATE: the locator that is set
  set_fits : (target : Option Referent) (implied : Option LocatorVariable) → IsGiven target → IsImplied t implied
      → IsImplied t (locator_set target implied)
  set_fits None implied h k = k
  set_fits (Some r) implied h k = locator_fits t r.reference r.description r.area h.reference h.area

  -- a BASED variable in an area
  module _ (temporary : ℕ) (x : Template) (made : IsTemplate x) where
    within_fits : (area : Beginning) → IsReference t (whole_at area) → (locator : LocatorVariable) → IsLocatorVariable t locator
        → IsAllocated t (placed_within area x temporary locator)
    within_fits area h (OfPointer target) k = (h, made, k, tt)
    within_fits area h (OfOffset target own) k = (h, made, k.0, k.1)

    freely_fits : (locator : LocatorVariable) → IsLocatorVariable t locator → IsAllocated t (placed_freely x temporary locator)
    freely_fits (OfPointer target) k = (made, k)
    freely_fits (OfOffset target own) k = within_fits own k.1 (OfOffset target own) k

    in_area : (locator : LocatorVariable) → IsLocatorVariable t locator → (o : Option Beginning) → IsAreaNamed t o
        → OnGiven (IsAllocated t) (option_map (λ area. placed_within area x temporary locator) o)
    in_area locator k (Some area) h = within_fits area h locator k
    in_area locator k None h = tt

    somewhere_fits : (area : Option Referent) → IsGiven area → (locator : LocatorVariable) → IsLocatorVariable t locator
        → OnGiven (IsAllocated t) (placed_in area x temporary locator)
    somewhere_fits None h locator k = freely_fits locator k
    somewhere_fits (Some r) h locator k =
        in_area locator k (area_meant r.reference r.description) (area_fits t r.reference r.description h.reference)

  based_placed : (temporary : ℕ) (area : Option Referent) → IsGiven area → (x : Option Template) (locator : Option LocatorVariable)
      → OnGiven IsTemplate x → IsImplied t locator → OnGiven (IsAllocated t) (placed_by temporary area x locator)
  based_placed temporary area g (Some x) (Some locator) h k = somewhere_fits temporary x h area g locator k
  based_placed temporary area g (Some x) None h k = tt
  based_placed temporary area g None locator h k = tt

  module _ (n : Naming) (templates : (block : ℕ) → AllByRecursion IsTemplate (n.based block)) where
    stored_taken : (temporary : ℕ) (storage : NamedStorage) (path : List ℕ) → IsStorage t storage → (area target : Option Referent) → IsGiven area
        → IsGiven target → OnGiven (IsAllocated t) (taken_in n temporary storage path area target)
    stored_taken temporary (Begins (NewestOf number) is_parameter) [] h None None g k = h
    stored_taken temporary (IsBased block number implied) [] h area target g k =
        based_placed temporary area g (slice_get (n.based block) number) (locator_set target implied)
        (template_at (n.based block) number (templates block)) (set_fits target implied k h)
    stored_taken temporary storage path h area target g k = tt

    one_taken : (temporary : ℕ) (a : NamedAs) → IsMeaning t a → (area target : Option Referent) → IsGiven area → IsGiven target
        → OnGiven (IsAllocated t) (taken n temporary a area target)
    one_taken temporary (AVariable v) h area target g k = stored_taken temporary v.storage v.path h.storage area target g k
    one_taken temporary a h area target g k = tt

  -- FREE
  one_released : (r : TypedReference) → IsReference t r → OnGiven (IsFreed t) (released r)
  one_released (Whole (NewestOf number)) h = h
  one_released (Whole (Located locator d)) h = h
  one_released r h = tt

  only_fits : (at : ℕ) (d : Denoted) → IsDenoted t d → OnRead (IsReferent t) (only_variable at d)
  only_fits at (DenotesVariable r) h = h
  only_fits at (DenotesResult v) h = tt
  only_fits at DenotesEmpty h = tt

module _ (t : TypedUnit) (based : ℕ → List Template) (areas : ℕ → Option Beginning) (meaning : ℕ → NamedAs)
    (known : (at : ℕ) → IsMeaning t (meaning at)) where
  abbrev M : Naming
  M = N t based areas meaning known

  given_fits : (o : Option Reference) → OnRead (IsGiven t) (place_given M o)
  given_fits None = tt
  given_fits (Some r) =
      read_then (IsDenoted t) (IsGiven t) (referred M AsLocator r) _ (referred_fits t based areas meaning known AsLocator r)
      (λ d h. read_then (IsReferent t) (IsGiven t) (only_variable (own_token r) d) _ (only_fits t (own_token r) d h) (λ q k. k))

  module _ (templates : (block : ℕ) → AllByRecursion IsTemplate (based block)) where
    one_allocated : (temporary : ℕ) (a : Allocation) → OnRead (IsAllocated t) (allocated M temporary a)
    one_allocated temporary a =
        read_then (IsGiven t) (IsAllocated t) (place_given M a.area) _ (given_fits a.area)
        (λ area h. read_then (IsGiven t) (IsAllocated t) (place_given M a.target) _ (given_fits a.target)
        (λ target k. read_option (IsAllocated t) CannotAllocateOrFree a.name.at (taken M temporary (meaning a.name.at) area target)
        (one_taken t M templates temporary (meaning a.name.at) (known a.name.at) area target h k)))

    each_allocated : (temporary : ℕ) (list : List Allocation)
        → OnRead (AllByRecursion (IsAllocated t)) (all_allocated M temporary list)
    each_allocated temporary [] = tt
    each_allocated temporary (a ∷ more) =
        read_then (IsAllocated t) (AllByRecursion (IsAllocated t)) (allocated M temporary a) _ (one_allocated temporary a)
        (λ x h. read_then (AllByRecursion (IsAllocated t)) (AllByRecursion (IsAllocated t)) (all_allocated M (temporary + kept_for x) more) _
        (each_allocated (temporary + kept_for x) more) (λ xs k. (h, k)))

    pub allocate_fits : (temporary : ℕ) (list : List Allocation)
        → OnRead (IsForm t) (allocate_typed M temporary list)
    allocate_fits temporary list =
        read_then (AllByRecursion (IsAllocated t)) (IsForm t) (all_allocated M temporary list) _ (each_allocated temporary list) (λ xs h. h)

  one_freed : (r : Reference) → OnRead (IsFreed t) (freed M r)
  one_freed r =
      read_then (IsDenoted t) (IsFreed t) (referred M AsTarget r) _ (referred_fits t based areas meaning known AsTarget r)
      (λ d h. read_then (IsReferent t) (IsFreed t) (only_variable (own_token r) d) _ (only_fits t (own_token r) d h)
      (λ q k. read_option (IsFreed t) CannotAllocateOrFree (own_token r) (released q.reference) (one_released t q.reference k.reference)))

  all_freed : (list : List Reference) → OnRead (AllByRecursion (IsFreed t)) (in_turn (freed M) list)
  all_freed [] = tt
  all_freed (r ∷ more) =
      read_then (IsFreed t) (AllByRecursion (IsFreed t)) (freed M r) _ (one_freed r)
      (λ x h. read_then (AllByRecursion (IsFreed t)) (AllByRecursion (IsFreed t)) (in_turn (freed M) more) _ (all_freed more)
      (λ xs k. (h, k)))

  pub free_fits : (list : List Reference) → OnRead (IsForm t) (free_typed M list)
  free_fits list =
      read_then (AllByRecursion (IsFreed t)) (IsForm t) (in_turn (freed M) list) _ (all_freed list) (λ xs h. h)
