-- Forms that have no statements in them, and the temporaries of ALLOCATE and of an iteration.
use Rattle.std.specs.Prelude.{◌≡◌, ℕ, suc, ◌+◌, ◌≤◌, Bool, true, Option, Some, None, is_none, option_map, List, [], ◌∷◌, slice_get}
use Rattle.std.specs.Prelude.{Result, Ok, Err, refl, if◌then◌else◌}
use Rattle.std.specs.List.{AllByRecursion}
use Rattle.std.proofs.Common.{arith, ap}
use Rattle.pli_base.specs.Results.{◌>>=◌}
use Rattle.pli_base.specs.Statements as tree
use Rattle.pli_base.specs.Statements.{Range, Allocation}
use Rattle.pli_base.specs.Syntax.{Expression, Reference, Arguments}
use Rattle.pli_base.specs.declared.code.Code.{Code}
use Rattle.pli_base.specs.declared.code.Code.TheVariants.{CannotAllocateOrFree, CannotAssign, BadGoto}
use Rattle.pli_base.specs.declared.syntax.Identifier.{Identifier}
use Rattle.pli_base.specs.declared.token.Fault.{Fault}
use Rattle.pli_map.specs.Description.{Description}
use Rattle.pli_map.specs.ParameterTypes.{ParameterType, Stated, AnyString, is_aggregate_type}
use Rattle.pli_map.specs.Scalars.{is_area}
use Rattle.pli_map.specs.declared.parameter.StringForm.{StringForm}
use Rattle.pli_type_rules.specs.AllocationTyping.{in_turn, place_given, locator_set, placed_within, placed_freely, placed_in, placed_by, taken_in, taken, allocated, all_allocated, freed}
use Rattle.pli_type_rules.specs.Beginnings.{area_meant, whole_at}
use Rattle.pli_type_rules.specs.ExpressionTypes.{TypedValue, converted, conversion_to, suited_to_form}
use Rattle.pli_type_rules.specs.FunctionCalls.{Denoted, DenotesVariable, DenotesResult, DenotesEmpty, area_of, Meant, OneValue, WholeAggregate, Argument}
use Rattle.pli_type_rules.specs.NamedUnits.{is_based_whole, names_based}
use Rattle.pli_type_rules.specs.Names.{LocatorVariable, OfPointer, OfOffset, NamedStorage, Begins, IsBased, NamedAs, AVariable, AFunction, AProcedure, ALabel, Untyped, Naming}
use Rattle.pli_type_rules.specs.ProcedureCalls.{arguments_passed}
use Rattle.pli_type_rules.specs.References.{AsArgument, AsLocator, AsTarget, AsValue, Referent}
use Rattle.pli_type_rules.specs.StatementTyping.{are_alike, aggregate_assigned, area_put, area_assigned, scalar_assigned, string_assigned, one_assigned, variable_assigned, assigned, assignment, Surroundings, label_found, jump, goto_typed}
use Rattle.pli_type_rules.specs.StatementTyping.{arguments_typed, no_function, call_of, call_typed, area_here, returned_value, return_typed}
use Rattle.pli_type_rules.specs.StatementTyping.{limit, limits, controls, turned, with_repeat, has_locator, iteration}
use Rattle.pli_type_rules.specs.Temporaries.{limits_kept, based_among}
use Rattle.pli_type_rules.specs.Typing.{first_token, own_token, or_fault, denoted, meant, referred, value_of}
use Rattle.pli_type_rules.specs.TypingSteps.{jump_to, allocate_typed, free_typed, possible_condition}
use Rattle.pli_type_rules.specs.declared.beginning.Beginning.{Beginning}
use Rattle.pli_type_laws.proofs.Conversions.{OnGiven}
use Rattle.pli_type_laws.proofs.Denotations.{OnRead}
use Rattle.pli_type_laws.proofs.Expressions.{read_option}
use Rattle.pli_type_laws.proofs.References.{read_if}
use Rattle.pli_type_tree.specs.Iterations.{temporaries_of}
use Rattle.pli_type_tree.specs.TypedTree as typed
use Rattle.pli_gen.specs.WellNumbered.{KeepsTemporary}
use Rattle.pli_type_tree.specs.Allocations.{kept_for, all_kept_for}
use Rattle.pli_type_tree.specs.Templates.{Template}
use Rattle.pli_type_tree.specs.TypedTree.{NewestOf, AllocatedItem, AllocatesControlled, AllocatesBased, AllocatesInArea, Form, TypedRange, Iteration, ToBy, ByTo, TypedExpression}

-- whatever was read
read_any : {A B : Type 0} (Q : B → Type 0) (r : Result A Fault) (f : A → Result B Fault) → ((x : A) → OnRead Q (f x))
    → OnRead Q (r >>= f)
read_any Q (Ok x) f g = g x
read_any Q (Err e) f g = tt

read_so : {A B : Type 0} (P : A → Type 0) (Q : B → Type 0) (r : Result A Fault) (f : A → Result B Fault) → OnRead P r
    → ((x : A) → P x → OnRead Q (f x)) → OnRead Q (r >>= f)
read_so P Q (Ok x) f h g = g x h
read_so P Q (Err e) f h g = tt

option_any : {A : Type 0} (P : A → Type 0) (code : Code) (at : ℕ) (o : Option A) → ((x : A) → P x) → OnRead P (or_fault code at o)
option_any P code at (Some x) h = h x
option_any P code at None h = tt

-- no statements are in a form, no temporaries, and no ON-unit
abbrev pub IsSimple : Form → Type 0
IsSimple (typed.If c s e) = ⊥
IsSimple (typed.Begin head ss) = ⊥
IsSimple (typed.Group ss) = ⊥
IsSimple (typed.While c ss) = ⊥
IsSimple (typed.Iterate i ss) = ⊥
IsSimple (typed.Allocate items) = ⊥
IsSimple (typed.On c block) = ⊥
IsSimple f = Unit {0}

-- a form is an ALLOCATE, whose items have so many temporaries from this one on
abbrev pub IsAllocation : (from count : ℕ) → Form → Type 0
IsAllocation t count (typed.Allocate items) =
    ((used size : ℕ) → used ≤ t → t + count ≤ size → AllByRecursion (KeepsTemporary used size) items)
    × (all_kept_for items ≡ count)
IsAllocation t count form = ⊥

simple_aggregate : (equals : ℕ) (target : Referent) (m : Meant) → OnRead IsSimple (aggregate_assigned equals target m)
simple_aggregate equals target (OneValue v) = tt
simple_aggregate equals target (WholeAggregate r) = read_if IsSimple (are_alike target.description r.description) _ _ tt tt

simple_scalar : (n : Naming) (equals : ℕ) (target : Referent) (d : Description) (e : Expression)
    → OnRead IsSimple (scalar_assigned n equals target d e)
simple_scalar n equals target d e =
    read_any IsSimple (value_of n e) _
    (λ v. read_any IsSimple (or_fault CannotAssign equals (converted n.greatest target.area d v)) _ (λ x. tt))

simple_string : (n : Naming) (equals : ℕ) (target : Referent) (form : StringForm) (e : Expression)
    → OnRead IsSimple (string_assigned n equals target form e)
simple_string n equals target form e =
    read_any IsSimple (value_of n e) _
    (λ v. read_any IsSimple (or_fault CannotAssign equals (suited_to_form form v.expression v.kind)) _ (λ x. tt))

simple_source : (target : Beginning) (o : Option Beginning)
    → OnGiven IsSimple (option_map (λ source. typed.AssignArea (whole_at target) (whole_at source)) o)
simple_source target (Some source) = tt
simple_source target None = tt

simple_put : (target : Option Beginning) (d : Denoted) → OnGiven IsSimple (area_put target d)
simple_put None d = tt
simple_put (Some target) DenotesEmpty = tt
simple_put (Some target) (DenotesVariable r) = simple_source target (area_of (DenotesVariable r))
simple_put (Some target) (DenotesResult v) = tt

simple_area : (n : Naming) (equals : ℕ) (target : Option Beginning) (e : Expression) → OnRead IsSimple (area_assigned n equals target e)
simple_area n equals target e =
    read_any IsSimple (denoted n AsValue e) _ (λ d. read_option IsSimple CannotAssign equals (area_put target d) (simple_put target d))

simple_one : (n : Naming) (equals : ℕ) (target : Referent) (type : ParameterType) (e : Expression)
    → OnRead IsSimple (one_assigned n equals target type e)
simple_one n equals target (Stated d) e =
    read_if IsSimple (is_area d) _ _
    (simple_area n equals (area_meant target.reference (Stated d)) e) (simple_scalar n equals target d e)
simple_one n equals target (AnyString form) e = simple_string n equals target form e
simple_one n equals target type e = tt

simple_variable : (n : Naming) (equals : ℕ) (target : Referent) (e : Expression) → OnRead IsSimple (variable_assigned n equals target e)
simple_variable n equals target e =
    read_if IsSimple (is_aggregate_type target.description) _ _
    (read_any IsSimple (meant n AsArgument e) _ (λ m. simple_aggregate equals target m))
    (simple_one n equals target target.description e)

simple_assigned : (n : Naming) (at equals : ℕ) (d : Denoted) (e : Expression) → OnRead IsSimple (assigned n at equals d e)
simple_assigned n at equals (DenotesVariable target) e = simple_variable n equals target e
simple_assigned n at equals (DenotesResult v) e = tt
simple_assigned n at equals DenotesEmpty e = tt

pub simple_assignment : (n : Naming) (at : ℕ) (target : Reference) (equals : ℕ) (e : Expression)
    → OnRead IsSimple (assignment n at target equals e)
simple_assignment n at target equals e =
    read_any IsSimple (referred n AsTarget target) _ (λ d. simple_assigned n at equals d e)

simple_jump_to : (label : ℕ) (o : Option ℕ) → OnGiven IsSimple (jump_to label o)
simple_jump_to label (Some outward) = tt
simple_jump_to label None = tt

simple_jump : (s : Surroundings) (a : NamedAs) → OnGiven IsSimple (jump s a)
simple_jump s (ALabel statement) = simple_jump_to statement (label_found s.blocks statement)
simple_jump s (AVariable v) = tt
simple_jump s (AFunction f) = tt
simple_jump s (AProcedure p) = tt
simple_jump s Untyped = tt

pub simple_goto : (n : Naming) (s : Surroundings) (label : Identifier) → OnRead IsSimple (goto_typed n s label)
simple_goto n s label = read_option IsSimple BadGoto label.at (jump s (n.meaning label.at)) (simple_jump s (n.meaning label.at))

simple_call_of : (greatest at : ℕ) (a : NamedAs) (gs : List Argument) → OnRead IsSimple (call_of greatest at a gs)
simple_call_of greatest at (AProcedure p) gs =
    read_any IsSimple (arguments_passed greatest p at gs) _ (λ xs. of_returned p.returned xs)
  where
    of_returned : (o : Option Description) (xs : typed.TypedArguments) → OnRead IsSimple (no_function at p.callee o xs)
    of_returned None xs = tt
    of_returned (Some d) xs = tt
simple_call_of greatest at other gs = tt

pub simple_call : (n : Naming) (name : Identifier) (a : Arguments) → OnRead IsSimple (call_typed n name a)
simple_call n name a =
    read_any IsSimple (arguments_typed n a) _ (λ gs. simple_call_of n.greatest name.at (n.meaning name.at) gs)

simple_returned : (greatest : ℕ) (area : Option Beginning) (at first begins : ℕ) (o : Option Description) (v : TypedValue)
    → OnRead IsSimple (returned_value greatest area at first begins o v)
simple_returned greatest area at first begins None v = tt
simple_returned greatest area at first begins (Some d) v =
    read_any IsSimple (or_fault CannotAssign first (converted greatest area d v)) _ (λ x. tt)

pub simple_return : (n : Naming) (s : Surroundings) (at : ℕ) (v : Option Expression) → OnRead IsSimple (return_typed n s at v)
simple_return n s at None = read_if IsSimple (is_none s.value) _ _ tt tt
simple_return n s at (Some e) =
    read_any IsSimple (value_of n e) _ (λ v. simple_returned n.greatest (area_here n s) at (first_token e) s.begins s.value v)

pub simple_free : (n : Naming) (list : List Reference) → OnRead IsSimple (free_typed n list)
simple_free n list = read_any IsSimple (in_turn (freed n) list) _ (λ xs. tt)

-- ---- ALLOCATE

-- an item has this temporary, if it has one, and has one where a BASED variable is known to be named
abbrev OwnItem : (temporary : ℕ) → AllocatedItem → Type 0
OwnItem t (AllocatesControlled number) = Unit {0}
OwnItem t (AllocatesBased template temporary target) = temporary ≡ t
OwnItem t (AllocatesInArea area template temporary target conversion) = temporary ≡ t

abbrev one_if : Bool → ℕ
one_if is = if is then 1 else 0

abbrev KeepsItem : (temporary : ℕ) → Bool → AllocatedItem → Type 0
KeepsItem t is x = (kept_for x ≡ one_if is) × OwnItem t x

within_item : (t : ℕ) (is : Bool) (area : Beginning) (template : Template) (locator : LocatorVariable) → true ≡ is
    → KeepsItem t is (placed_within area template t locator)
within_item t is area template (OfPointer target) e = (ap one_if e, refl)
within_item t is area template (OfOffset target own) e = (ap one_if e, refl)

freely_item : (t : ℕ) (is : Bool) (template : Template) (locator : LocatorVariable) → true ≡ is
    → KeepsItem t is (placed_freely template t locator)
freely_item t is template (OfPointer target) e = (ap one_if e, refl)
freely_item t is template (OfOffset target own) e = (ap one_if e, refl)

area_item : (t : ℕ) (is : Bool) (template : Template) (locator : LocatorVariable) → true ≡ is → (o : Option Beginning)
    → OnGiven (KeepsItem t is) (option_map (λ area. placed_within area template t locator) o)
area_item t is template locator e (Some area) = within_item t is area template locator e
area_item t is template locator e None = tt

somewhere_item : (t : ℕ) (is : Bool) (area : Option Referent) (template : Template) (locator : LocatorVariable) → true ≡ is
    → OnGiven (KeepsItem t is) (placed_in area template t locator)
somewhere_item t is None template locator e = freely_item t is template locator e
somewhere_item t is (Some r) template locator e = area_item t is template locator e (area_meant r.reference r.description)

placed_item : (t : ℕ) (is : Bool) (area : Option Referent) (template : Option Template) (locator : Option LocatorVariable) → true ≡ is
    → OnGiven (KeepsItem t is) (placed_by t area template locator)
placed_item t is area (Some x) (Some locator) e = somewhere_item t is area x locator e
placed_item t is area (Some x) None e = tt
placed_item t is area None locator e = tt

module _ (n : Naming) where
  stored_item : (t : ℕ) (is : Bool) (storage : NamedStorage) (path : List ℕ) → is_based_whole storage path ≡ is
      → (area target : Option Referent) → OnGiven (KeepsItem t is) (taken_in n t storage path area target)
  stored_item t is (Begins (NewestOf number) is_parameter) [] k None None = (ap one_if k, tt)
  stored_item t is (IsBased block number implied) [] k area target =
      placed_item t is area (slice_get (n.based block) number) (locator_set target implied) k
  stored_item t is storage path k area target = tt

  taken_item : (t : ℕ) (is : Bool) (a : NamedAs) → names_based a ≡ is → (area target : Option Referent)
      → OnGiven (KeepsItem t is) (taken n t a area target)
  taken_item t is (AVariable v) k area target = stored_item t is v.storage v.path k area target
  taken_item t is a k area target = tt

  item_keeps : (t : ℕ) (is : Bool) (a : Allocation) → names_based (n.meaning a.name.at) ≡ is
      → OnRead (KeepsItem t is) (allocated n t a)
  item_keeps t is a k =
      read_any (KeepsItem t is) (place_given n a.area) _
      (λ area. read_any (KeepsItem t is) (place_given n a.target) _
      (λ target. read_option (KeepsItem t is) CannotAllocateOrFree a.name.at (taken n t (n.meaning a.name.at) area target)
      (taken_item t is (n.meaning a.name.at) k area target)))

  -- where so many temporaries are in use, and the block has these too
  abbrev KeepItems : (from to : ℕ) → List AllocatedItem → Type 0
  KeepItems t z xs = (used size : ℕ) → used ≤ t → z ≤ size → AllByRecursion (KeepsTemporary used size) xs

  one_kept : (t used size : ℕ) (is : Bool) (x : AllocatedItem) → KeepsItem t is x → used ≤ t → t + one_if is ≤ size
      → KeepsTemporary used size x
  one_kept t used size is (AllocatesControlled number) h u s = tt
  one_kept t used size is (AllocatesBased template temporary target) h u s = (omega (arith, h.1, u), omega (arith, h.0, h.1, s))
  one_kept t used size is (AllocatesInArea area template temporary target conversion) h u s =
      (omega (arith, h.1, u), omega (arith, h.0, h.1, s))

  module _ (is_based : (at : ℕ) → Bool) (known : (at : ℕ) → names_based (n.meaning at) ≡ is_based at) where
    -- they keep their temporaries, which are as many as BASED variables are named
    abbrev AreKept : (temporary count : ℕ) → List AllocatedItem → Type 0
    AreKept t count xs = KeepItems t (t + count) xs × (all_kept_for xs ≡ count)

    items_keep : (t : ℕ) (list : List Allocation) → OnRead (AreKept t (based_among is_based list)) (all_allocated n t list)
    items_keep t [] = (λ used size u s. tt, refl)
    items_keep t (a ∷ others) =
        let is : Bool = is_based a.name.at in
        let rest : ℕ = based_among is_based others in
        read_so (KeepsItem t is) (AreKept t (one_if is + rest)) (allocated n t a) _ (item_keeps t is a (known a.name.at))
        (λ x h. read_so (AreKept (t + kept_for x) rest) (AreKept t (one_if is + rest)) (all_allocated n (t + kept_for x) others) _
        (items_keep (t + kept_for x) others)
        (λ xs k. (
          λ used size u s. (
            one_kept t used size is x h u (omega (arith, s)),
            k.0 used size (omega (arith, u)) (omega (arith, s, h.0)),
          ),
          omega (arith, h.0, k.1),
        )))

    -- ALLOCATE keeps its temporaries
    pub allocate_keeps : (t : ℕ) (list : List Allocation) → OnRead (IsAllocation t (based_among is_based list)) (allocate_typed n t list)
    allocate_keeps t list =
        read_so (AreKept t (based_among is_based list)) (IsAllocation t (based_among is_based list)) (all_allocated n t list) _
        (items_keep t list) (λ xs h. h)

-- ---- iterations

abbrev Keeps : Option Range → TypedRange → Type 0
Keeps range kept = temporaries_of kept ≡ suc (limits_kept range)

-- a second limit is read
read_some : (P : TypedRange → Type 0) (make : Option typed.TypedExpression → TypedRange) (r : Result typed.TypedExpression Fault)
    → ((y : typed.TypedExpression) → P (make (Some y))) → OnRead P ((r >>= λ y. Ok (Some y)) >>= λ y. Ok (make y))
read_some P make (Ok y) h = h y
read_some P make (Err e) h = tt

limits_keep : (n : Naming) (range : Option Range) → OnRead (Keeps range) (limits n range)
limits_keep n None = refl
limits_keep n (Some (tree.Repeat next)) = refl
limits_keep n (Some (tree.To to None)) = read_any (Keeps (Some (tree.To to None))) (limit n to) _ (λ x. refl)
limits_keep n (Some (tree.To to (Some by))) =
    read_any (Keeps (Some (tree.To to (Some by)))) (limit n to) _
    (λ x. read_some (Keeps (Some (tree.To to (Some by)))) (ToBy x) (limit n by) (λ y. refl))
limits_keep n (Some (tree.By by None)) = read_any (Keeps (Some (tree.By by None))) (limit n by) _ (λ x. refl)
limits_keep n (Some (tree.By by (Some to))) =
    read_any (Keeps (Some (tree.By by (Some to)))) (limit n by) _
    (λ x. read_some (Keeps (Some (tree.By by (Some to)))) (ByTo x) (limit n to) (λ y. refl))

-- REPEAT keeps no limit
repeated_keeps : (next : Expression) (make : TypedExpression → TypedRange) (o : Option TypedExpression)
    → ((x : TypedExpression) → Keeps (Some (tree.Repeat next)) (make x)) → OnGiven (Keeps (Some (tree.Repeat next))) (option_map make o)
repeated_keeps next make (Some x) h = h x
repeated_keeps next make None h = tt

turned_keeps : (greatest : ℕ) (area : Option Beginning) (v : TypedValue) (type : ParameterType) (next : Expression)
    → OnGiven (Keeps (Some (tree.Repeat next))) (turned greatest area v type)
turned_keeps greatest area v (Stated d) next = repeated_keeps next typed.Repeated (converted greatest area d v) (λ x. refl)
turned_keeps greatest area v (AnyString form) next =
    repeated_keeps next typed.RepeatedString (suited_to_form form v.expression v.kind) (λ x. refl)
turned_keeps greatest area v type next = tt

repeat_keeps : (n : Naming) (r : Referent) (kept : TypedRange) (range : Option Range) → Keeps range kept
    → OnRead (Keeps range) (with_repeat n r kept range)
repeat_keeps n r kept (Some (tree.Repeat next)) h =
    read_any (Keeps (Some (tree.Repeat next))) (value_of n next) _
    (λ v. read_option (Keeps (Some (tree.Repeat next))) CannotAssign (first_token next) (turned n.greatest r.area v r.description)
    (turned_keeps n.greatest r.area v r.description next))
repeat_keeps n r kept (Some (tree.To to by)) h = h
repeat_keeps n r kept (Some (tree.By by to)) h = h
repeat_keeps n r kept None h = h

-- an iteration's temporaries begin where they should, and are as many
abbrev pub HasOwn : (temporary : ℕ) → Option Range → Iteration → Type 0
HasOwn temporary range i = (i.temporary ≡ temporary) × (temporaries_of i.range ≡ suc (limits_kept range))

pub iteration_keeps : (n : Naming) (temporary : ℕ) (variable : Reference) (equals : ℕ) (first : Expression) (range : Option Range)
    (tested : Option Expression) → OnRead (HasOwn temporary range) (iteration n temporary variable equals first range tested)
iteration_keeps n temporary variable equals first range tested =
    read_any (HasOwn temporary range) (value_of n first) _
    (λ v. read_so (Keeps range) (HasOwn temporary range) (limits n range) _ (limits_keep n range)
    (λ kept h. read_any (HasOwn temporary range) (referred n AsLocator variable) _
    (λ d. read_any (HasOwn temporary range) (controls (own_token variable) (has_locator variable) kept d) _
    (λ r. read_any (HasOwn temporary range) (or_fault CannotAssign equals (conversion_to n.greatest r.area r.description v.kind)) _
    (λ converts. read_any (HasOwn temporary range) (possible_condition n tested) _
    (λ x. read_so (Keeps range) (HasOwn temporary range) (with_repeat n r kept range) _
    (repeat_keeps n r kept range h) (λ turns k. (refl, k))))))))
