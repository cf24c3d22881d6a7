-- ALLOCATE and FREE take CONTROLLED and BASED variables.
use Rattle.std.specs.Prelude.{ℕ, zero, suc, ◌+◌, Option, Some, None, option_map, List, [], ◌∷◌, slice_get, refl}
use Rattle.std.specs.List.{AllByRecursion}
use Rattle.pli_base.specs.Statements.{Allocation}
use Rattle.pli_base.specs.Syntax.{Reference}
use Rattle.pli_base.specs.declared.code.Code.TheVariants.{CannotAllocateOrFree}
use Rattle.pli_map.specs.Description.{Pointer, Offset}
use Rattle.pli_map.specs.ParameterTypes.{ParameterType}
use Rattle.pli_program.specs.declared.kind.VariableKind.TheVariants.{Controlled}
use Rattle.pli_type_rules.specs.AllocationTyping.{in_turn, only_variable, place_given, locator_set, placed_within, placed_freely, placed_in, placed_by, taken_in, taken, allocated, all_allocated, released, freed}
use Rattle.pli_type_rules.specs.Beginnings.{area_meant, whole_at}
use Rattle.pli_type_rules.specs.FunctionCalls.{Denoted, DenotesVariable, DenotesResult, DenotesEmpty}
use Rattle.pli_type_rules.specs.Names.{LocatorVariable, OfPointer, OfOffset, NamedStorage, Begins, IsBased, NamedAs, AVariable, Naming}
use Rattle.pli_type_rules.specs.References.{AsLocator, AsTarget, Referent}
use Rattle.pli_type_rules.specs.declared.beginning.Beginning.{Beginning}
use Rattle.pli_type_rules.specs.Typing.{own_token, referred}
use Rattle.pli_type_rules.specs.TypingSteps.{allocate_typed, free_typed}
use Rattle.pli_type_laws.proofs.Conversions.{OnGiven}
use Rattle.pli_type_laws.proofs.Denotations.{OnRead, IsReferent, IsDenoted}
use Rattle.pli_type_laws.proofs.Expressions.{IsMeaning, N, read_option, referred_typed}
use Rattle.pli_type_laws.proofs.Functions.{area_typed}
use Rattle.pli_type_laws.proofs.References.{read_then, locator_kept}
use Rattle.pli_type_laws.specs.NameFacts.{IsAreaNamed, IsLocatorThere, IsImplied, IsStoredIn, IsBasedTemplate}
use Rattle.pli_type_tree.specs.Allocations.{kept_for}
use Rattle.pli_type_tree.specs.Templates.{Template}
use Rattle.pli_type_tree.specs.laws.GlobalLaws.{described_parts}
use Rattle.pli_type_tree.specs.TypedTree.{NewestOf, Located, TypedReference, Whole}
use Rattle.pli_type_tree.specs.ValueTypes.{Pointers, Offsets}
use Rattle.pli_type_tree.specs.WellTyped.{TypingContext, IsPlaced, IsAreaReference, IsAllocated, AreAllocated, IsFreed, AreFreed, IsTypedForm}

-- the reference in IN or in SET, if one stands, is to a part of a variable
abbrev IsGiven : TypingContext → Option Referent → Type 0
IsGiven s None = Unit {0}
IsGiven s (Some r) = IsReferent s r

made_at : (ts : List Template) (k : ℕ) → AllByRecursion IsBasedTemplate ts → OnGiven IsBasedTemplate (slice_get ts k)
made_at [] k h = tt
made_at (t ∷ ts) zero h = h.0
made_at (t ∷ ts) (suc k) h = made_at ts k h.1

module _ (s : TypingContext) where
  -- ALLOCATE: the locator that is set
  locator_typed : (target : Option Referent) (implied : Option LocatorVariable) → IsGiven s target → IsImplied 63 s implied
      → IsImplied 63 s (locator_set target implied)
  locator_typed None implied h k = k
  locator_typed (Some r) implied h k = locator_kept s r.reference r.description r.area h.0 h.3

  -- a BASED variable in an area
  module _ (temporary : ℕ) (t : Template) (made : IsBasedTemplate t) where
    within_typed : (area : Beginning) → IsAreaReference 63 s (whole_at area) → (locator : LocatorVariable) → IsLocatorThere 63 s locator
        → IsAllocated 63 s (placed_within area t temporary locator)
    within_typed area h (OfPointer target) k = (h, made, (Pointer, k, (Pointers, refl, tt)))
    within_typed area h (OfOffset target own) k = (h, made, (Offset, k.0, (k.1, refl, (Offsets, refl, tt))))

    freely_typed : (locator : LocatorVariable) → IsLocatorThere 63 s locator → IsAllocated 63 s (placed_freely t temporary locator)
    freely_typed (OfPointer target) k = (made.0, k)
    freely_typed (OfOffset target own) k = within_typed own k.1 (OfOffset target own) k

    in_area : (locator : LocatorVariable) → IsLocatorThere 63 s locator → (o : Option Beginning) → IsAreaNamed 63 s o
        → OnGiven (IsAllocated 63 s) (option_map (λ area. placed_within area t temporary locator) o)
    in_area locator k (Some area) h = within_typed area h locator k
    in_area locator k None h = tt

    somewhere_typed : (area : Option Referent) → IsGiven s area → (locator : LocatorVariable) → IsLocatorThere 63 s locator
        → OnGiven (IsAllocated 63 s) (placed_in area t temporary locator)
    somewhere_typed None h locator k = freely_typed locator k
    somewhere_typed (Some r) h locator k =
        in_area locator k (area_meant r.reference r.description) (area_typed s r.reference r.description h.0)

  based_placed : (temporary : ℕ) (area : Option Referent) → IsGiven s area → (t : Option Template) (locator : Option LocatorVariable)
      → OnGiven IsBasedTemplate t → IsImplied 63 s locator → OnGiven (IsAllocated 63 s) (placed_by temporary area t locator)
  based_placed temporary area g (Some t) (Some locator) h k = somewhere_typed temporary t h area g locator k
  based_placed temporary area g (Some t) None h k = tt
  based_placed temporary area g None locator h k = tt

  module _ (n : Naming) (made : (block : ℕ) → AllByRecursion IsBasedTemplate (n.based block)) where
    stored_taken : (temporary : ℕ) (storage : NamedStorage) (path : List ℕ) (whole : ParameterType) → IsStoredIn 63 s storage whole
        → (area target : Option Referent) → IsGiven s area → IsGiven s target
        → OnGiven (IsAllocated 63 s) (taken_in n temporary storage path area target)
    stored_taken temporary (Begins (NewestOf number) is_parameter) [] whole h None None g k =
        (described_parts Controlled (slice_get s.globals number) h.0.0 h.0.2).0
    stored_taken temporary (IsBased block number implied) [] whole h area target g k =
        based_placed temporary area g (slice_get (n.based block) number) (locator_set target implied)
        (made_at (n.based block) number (made block)) (locator_typed target implied k h)
    stored_taken temporary storage path whole h area target g k = tt

    one_taken : (temporary : ℕ) (a : NamedAs) → IsMeaning s a → (area target : Option Referent) → IsGiven s area → IsGiven s target
        → OnGiven (IsAllocated 63 s) (taken n temporary a area target)
    one_taken temporary (AVariable v) h area target g k = stored_taken temporary v.storage v.path v.whole h.begins area target g k
    one_taken temporary a h area target g k = tt

  -- FREE
  one_released : (r : TypedReference) (type : ParameterType) → IsPlaced 63 s r type → OnGiven (IsFreed 63 s) (released r)
  one_released (Whole (NewestOf number)) type placed =
      (described_parts Controlled (slice_get s.globals number) placed.0 placed.2).0
  one_released (Whole (Located locator whole)) type placed = placed.1
  one_released r type placed = tt

  only_typed : (at : ℕ) (d : Denoted) → IsDenoted s d → OnRead (IsReferent s) (only_variable at d)
  only_typed at (DenotesVariable r) h = h
  only_typed at (DenotesResult v) h = tt
  only_typed at DenotesEmpty h = tt

module _ (based : ℕ → List Template) (areas : ℕ → Option Beginning) (meaning : ℕ → NamedAs) (s : TypingContext)
    (known : (at : ℕ) → IsMeaning s (meaning at)) where
  abbrev M : Naming
  M = N based areas meaning s known

  given_typed : (o : Option Reference) → OnRead (IsGiven s) (place_given M o)
  given_typed None = tt
  given_typed (Some r) =
      read_then (IsDenoted s) (IsGiven s) (referred M AsLocator r) _ (referred_typed based areas meaning s known AsLocator r)
      (λ d h. read_then (IsReferent s) (IsGiven s) (only_variable (own_token r) d) _ (only_typed s (own_token r) d h) (λ q k. k))

  module _ (made : (block : ℕ) → AllByRecursion IsBasedTemplate (based block)) where
    one_allocated : (temporary : ℕ) (a : Allocation) → OnRead (IsAllocated 63 s) (allocated M temporary a)
    one_allocated temporary a =
        read_then (IsGiven s) (IsAllocated 63 s) (place_given M a.area) _ (given_typed a.area)
        (λ area h. read_then (IsGiven s) (IsAllocated 63 s) (place_given M a.target) _ (given_typed a.target)
        (λ target k. read_option (IsAllocated 63 s) CannotAllocateOrFree a.name.at (taken M temporary (meaning a.name.at) area target)
        (one_taken s M made temporary (meaning a.name.at) (known a.name.at) area target h k)))

    each_allocated : (temporary : ℕ) (list : List Allocation)
        → OnRead (AreAllocated 63 s) (all_allocated M temporary list)
    each_allocated temporary [] = tt
    each_allocated temporary (a ∷ more) =
        read_then (IsAllocated 63 s) (AreAllocated 63 s) (allocated M temporary a) _ (one_allocated temporary a)
        (λ x h. read_then (AreAllocated 63 s) (AreAllocated 63 s) (all_allocated M (temporary + kept_for x) more) _
        (each_allocated (temporary + kept_for x) more) (λ xs k. (h, k)))

    pub allocate_is_typed : (temporary : ℕ) (list : List Allocation)
        → OnRead (IsTypedForm 63 s) (allocate_typed M temporary list)
    allocate_is_typed temporary list =
        read_then (AreAllocated 63 s) (IsTypedForm 63 s) (all_allocated M temporary list) _ (each_allocated temporary list) (λ xs h. h)

  one_freed : (r : Reference) → OnRead (IsFreed 63 s) (freed M r)
  one_freed r =
      read_then (IsDenoted s) (IsFreed 63 s) (referred M AsTarget r) _ (referred_typed based areas meaning s known AsTarget r)
      (λ d h. read_then (IsReferent s) (IsFreed 63 s) (only_variable (own_token r) d) _ (only_typed s (own_token r) d h)
      (λ q k. read_option (IsFreed 63 s) CannotAllocateOrFree (own_token r) (released q.reference)
      (one_released s q.reference q.description k.0)))

  all_freed : (list : List Reference) → OnRead (AreFreed 63 s) (in_turn (freed M) list)
  all_freed [] = tt
  all_freed (r ∷ more) =
      read_then (IsFreed 63 s) (AreFreed 63 s) (freed M r) _ (one_freed r)
      (λ x h. read_then (AreFreed 63 s) (AreFreed 63 s) (in_turn (freed M) more) _ (all_freed more) (λ xs k. (h, k)))

  pub free_is_typed : (list : List Reference) → OnRead (IsTypedForm 63 s) (free_typed M list)
  free_is_typed list =
      read_then (AreFreed 63 s) (IsTypedForm 63 s) (in_turn (freed M) list) _ (all_freed list) (λ xs h. h)
