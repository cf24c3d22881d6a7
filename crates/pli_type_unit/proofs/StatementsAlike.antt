-- Typed statements and units, as the type checker finds them.
use Rattle.std.specs.Prelude.{◌≡◌, ℕ, ◌+◌, Bool, true, false, not, ◌&&◌, Option, Some, None, is_none, option_map, option_and_then, refl, List, [], ◌∷◌, ◌++◌, map, slice_get, suc, nat_eq, ◌||◌, Result, Ok, Err, if◌then◌else◌}
use Rattle.std.specs.List.{list_any}
use Rattle.std.proofs.Common.{ap, sym, ◌∙◌}
use Rattle.std.proofs.Math.Path.{fun_ext}
use Rattle.std.proofs.lemmas.List.Folds.{list_any-append}
use Rattle.std.proofs.lemmas.Option.{slice_get-map}
use Rattle.pli_base.specs.Results.{◌>>=◌}
use Rattle.pli_base.specs.Reading.{at_fault}
use Rattle.pli_base.specs.Statements as tree
use Rattle.pli_base.specs.Statements.{Range, Statement, Numbered, Body, Assign, Declare, Statements, Allocation, Before, Ended, Alternative}
use Rattle.pli_base.specs.Syntax.{Expression, Reference, Arguments, Absent, Given}
use Rattle.pli_base.specs.declared.code.Code.{Code}
use Rattle.pli_base.specs.declared.code.Code.TheVariants.{NotAVariable, CannotAssign, NotCallableHere, CannotPrint, WrongReturn, BadControlVariable, BadGoto, CannotAllocateOrFree}
use Rattle.pli_base.specs.declared.syntax.Identifier.{Identifier}
use Rattle.pli_base.specs.declared.token.Fault.{Fault}
use Rattle.pli_map.specs.Description.{Description, Members, FixedBinary, Character, Varying, Bit, Pointer, Offset, Area, Array, Structure}
use Rattle.pli_map.specs.ParameterTypes.{ParameterType, ParameterTypes, Stated, AnyString, AnyArray, ArrayOf, StructureOf}
use Rattle.pli_map.specs.declared.description.Bounds.{Bounds}
use Rattle.pli_declare.specs.ResolvedUnits.{ResolvedUnit}
use Rattle.pli_type_rules.specs.AllocationTyping as allocation
use Rattle.pli_type_rules.specs.AllocationTyping.{if_written, in_turn, only_variable, kept_for, locator_set, placed_in, placed_by, released}
use Rattle.pli_type_rules.specs.Beginnings.{area_meant}
use Rattle.pli_type_rules.specs.Checked.{checked, first_inside, in_unit, typed_as}
use Rattle.pli_type_rules.specs.ExpressionTypes as types
use Rattle.pli_type_rules.specs.ExpressionTypes.{TypedValue, unconverted}
use Rattle.pli_type_rules.specs.Faults.{or_fault}
use Rattle.pli_type_rules.specs.FunctionCalls.{Argument, Denoted, DenotesVariable, DenotesResult, DenotesEmpty, meant_as}
use Rattle.pli_type_rules.specs.Names.{AVariable, AProcedure, AFunction, ALabel, Untyped, LocatorVariable, NamedAs, NamedProcedure, NamedStorage, Begins, IsBased, Naming, NamedUnit}
use Rattle.pli_type_rules.specs.References.{Role, AsArgument, AsLocator, AsTarget, AsValue, Referent}
use Rattle.pli_type_rules.specs.StatementTyping as old
use Rattle.pli_type_rules.specs.StatementTyping.{Surroundings, WithProcedures, are_alike, area_here, as_procedure, has_locator, suits_range, without_subscripts}
use Rattle.pli_type_rules.specs.StatementTyping.{Enclosing, after_limits, alone, area_put, enclosing, head_of, inside, labels_of, leaves_nothing, listed, made, of_own, on_unit_of, only, procedure_of, together}
use Rattle.pli_type_rules.specs.Temporaries.{Next, next_after}
use Rattle.pli_type_rules.specs.Typing as expressions
use Rattle.pli_type_rules.specs.Typing.{first_token, own_token}
use Rattle.pli_type_rules.specs.declared.beginning.Beginning.{Beginning}
use Rattle.pli_type_tree.specs.Extents.{is_area_type}
use Rattle.pli_type_tree.specs.Templates.{Template}
use Rattle.pli_type_tree.specs.TypedTree as typed
use Rattle.pli_type_tree.specs.TypedTree.{Form, Iteration, InSlot, OfProgram, NewestOf, Located, TypedArguments, TypedExpression, TypedRange, TypedReference, TypedStatement, TypedProcedure, TypedStatements, OtherWise, NoStatement, StatementThen}
use Rattle.pli_type_unit.specs.BuiltIns.{referent_in}
use Rattle.pli_type_unit.specs.Expressions as reading
use Rattle.pli_type_unit.specs.Expressions.{suited}
use Rattle.pli_type_unit.specs.Actions as new
use Rattle.pli_type_unit.specs.Statements as walk
use Rattle.pli_type_unit.specs.Contexts.{Context, Labels, after, in_group, meaning_in}
use Rattle.pli_type_unit.specs.UnitNames.{area_named, is_automatic, is_based, returns_at, templates_in}
use Rattle.pli_type_unit.proofs.NamedUnits.{naming, unit_named}
use Rattle.pli_type_unit.proofs.NumbersAlike.{after_alike, own_alike}
use Rattle.pli_type_unit.specs.Values.{conversion, converted, printed}
use Rattle.pli_type_unit.proofs.ExpressionsAlike.{then_alike, passing_alike, denoted_alike, referred_alike, all_arguments_alike, found_alike}
use Rattle.pli_type_unit.proofs.ValuesAlike.{conversion_alike, converted_alike, placed_alike, printed_alike}

bind_bind : {A B C : Type 0} (x : Result A Fault) (f : A → Result B Fault) (g : B → Result C Fault) → ((x >>= f) >>= g) ≡ (x >>= λ a. f a >>= g)
bind_bind (Ok a) f g = refl
bind_bind (Err e) f g = refl

written_alike : {A B : Type 0} (f g : A → Result B Fault) → ((a : A) → f a ≡ g a) → (o : Option A) → if_written f o ≡ if_written g o
written_alike f g h None = refl
written_alike f g h (Some a) = then_alike (h a) (λ y. refl)

turn_alike : {A B : Type 0} (f g : A → Result B Fault) → ((a : A) → f a ≡ g a) → (list : List A) → in_turn f list ≡ in_turn g list
turn_alike f g h [] = refl
turn_alike f g h (a ∷ list) = then_alike (h a) (λ y. then_alike (turn_alike f g h list) (λ ys. refl))

only_alike : (at : ℕ) (d : Denoted) → or_fault NotAVariable at (referent_in d) ≡ only_variable at d
only_alike at (DenotesVariable r) = refl
only_alike at (DenotesResult value) = refl
only_alike at DenotesEmpty = refl

-- assignments

chosen_form : (equals : ℕ) (form : Form) (b : Bool) → or_fault CannotAssign equals (if b then Some form else None) ≡ (if b then Ok form else at_fault CannotAssign equals)
chosen_form equals form true = refl
chosen_form equals form false = refl

source_0 : (equals : ℕ) (bounds : List Bounds) (element : Description) (target : TypedReference) (passed : Bool) (area : Option Beginning) (reference : TypedReference) (s : ParameterType) (is_parameter : Bool) (own : Option Beginning)
    → or_fault CannotAssign equals (new.aggregate_put (record { reference = target; description = Stated (Array bounds element); is_parameter = passed; area = area }) (DenotesVariable (record { reference = reference; description = s; is_parameter = is_parameter; area = own })))
    ≡ old.aggregate_assigned equals (record { reference = target; description = Stated (Array bounds element); is_parameter = passed; area = area }) (meant_as (DenotesVariable (record { reference = reference; description = s; is_parameter = is_parameter; area = own })))
source_0 equals bounds element target passed area reference (Stated (FixedBinary k)) is_parameter own = refl
source_0 equals bounds element target passed area reference (Stated (Character k)) is_parameter own = refl
source_0 equals bounds element target passed area reference (Stated (Varying k)) is_parameter own = refl
source_0 equals bounds element target passed area reference (Stated (Bit k)) is_parameter own = refl
source_0 equals bounds element target passed area reference (Stated Pointer) is_parameter own = refl
source_0 equals bounds element target passed area reference (Stated Offset) is_parameter own = refl
source_0 equals bounds element target passed area reference (Stated (Area k)) is_parameter own = refl
source_0 equals bounds element target passed area reference (Stated (Array bs x)) is_parameter own = chosen_form equals (typed.AssignAggregate target reference) (are_alike (Stated (Array bounds element)) (Stated (Array bs x)))
source_0 equals bounds element target passed area reference (Stated (Structure qs)) is_parameter own = chosen_form equals (typed.AssignAggregate target reference) (are_alike (Stated (Array bounds element)) (Stated (Structure qs)))
source_0 equals bounds element target passed area reference (AnyString fork) is_parameter own = refl
source_0 equals bounds element target passed area reference (AnyArray k x) is_parameter own = refl
source_0 equals bounds element target passed area reference (ArrayOf bs x) is_parameter own = refl
source_0 equals bounds element target passed area reference (StructureOf qs) is_parameter own = refl

source_1 : (equals : ℕ) (parts : Members) (target : TypedReference) (passed : Bool) (area : Option Beginning) (reference : TypedReference) (s : ParameterType) (is_parameter : Bool) (own : Option Beginning)
    → or_fault CannotAssign equals (new.aggregate_put (record { reference = target; description = Stated (Structure parts); is_parameter = passed; area = area }) (DenotesVariable (record { reference = reference; description = s; is_parameter = is_parameter; area = own })))
    ≡ old.aggregate_assigned equals (record { reference = target; description = Stated (Structure parts); is_parameter = passed; area = area }) (meant_as (DenotesVariable (record { reference = reference; description = s; is_parameter = is_parameter; area = own })))
source_1 equals parts target passed area reference (Stated (FixedBinary k)) is_parameter own = refl
source_1 equals parts target passed area reference (Stated (Character k)) is_parameter own = refl
source_1 equals parts target passed area reference (Stated (Varying k)) is_parameter own = refl
source_1 equals parts target passed area reference (Stated (Bit k)) is_parameter own = refl
source_1 equals parts target passed area reference (Stated Pointer) is_parameter own = refl
source_1 equals parts target passed area reference (Stated Offset) is_parameter own = refl
source_1 equals parts target passed area reference (Stated (Area k)) is_parameter own = refl
source_1 equals parts target passed area reference (Stated (Array bs x)) is_parameter own = chosen_form equals (typed.AssignAggregate target reference) (are_alike (Stated (Structure parts)) (Stated (Array bs x)))
source_1 equals parts target passed area reference (Stated (Structure qs)) is_parameter own = chosen_form equals (typed.AssignAggregate target reference) (are_alike (Stated (Structure parts)) (Stated (Structure qs)))
source_1 equals parts target passed area reference (AnyString fork) is_parameter own = refl
source_1 equals parts target passed area reference (AnyArray k x) is_parameter own = refl
source_1 equals parts target passed area reference (ArrayOf bs x) is_parameter own = refl
source_1 equals parts target passed area reference (StructureOf qs) is_parameter own = refl

source_2 : (equals : ℕ) (m : ℕ) (element : ParameterType) (target : TypedReference) (passed : Bool) (area : Option Beginning) (reference : TypedReference) (s : ParameterType) (is_parameter : Bool) (own : Option Beginning)
    → or_fault CannotAssign equals (new.aggregate_put (record { reference = target; description = AnyArray m element; is_parameter = passed; area = area }) (DenotesVariable (record { reference = reference; description = s; is_parameter = is_parameter; area = own })))
    ≡ old.aggregate_assigned equals (record { reference = target; description = AnyArray m element; is_parameter = passed; area = area }) (meant_as (DenotesVariable (record { reference = reference; description = s; is_parameter = is_parameter; area = own })))
source_2 equals m element target passed area reference (Stated (FixedBinary k)) is_parameter own = refl
source_2 equals m element target passed area reference (Stated (Character k)) is_parameter own = refl
source_2 equals m element target passed area reference (Stated (Varying k)) is_parameter own = refl
source_2 equals m element target passed area reference (Stated (Bit k)) is_parameter own = refl
source_2 equals m element target passed area reference (Stated Pointer) is_parameter own = refl
source_2 equals m element target passed area reference (Stated Offset) is_parameter own = refl
source_2 equals m element target passed area reference (Stated (Area k)) is_parameter own = refl
source_2 equals m element target passed area reference (Stated (Array bs x)) is_parameter own = refl
source_2 equals m element target passed area reference (Stated (Structure qs)) is_parameter own = refl
source_2 equals m element target passed area reference (AnyString fork) is_parameter own = refl
source_2 equals m element target passed area reference (AnyArray k x) is_parameter own = refl
source_2 equals m element target passed area reference (ArrayOf bs x) is_parameter own = refl
source_2 equals m element target passed area reference (StructureOf qs) is_parameter own = refl

source_3 : (equals : ℕ) (bounds : List Bounds) (element : ParameterType) (target : TypedReference) (passed : Bool) (area : Option Beginning) (reference : TypedReference) (s : ParameterType) (is_parameter : Bool) (own : Option Beginning)
    → or_fault CannotAssign equals (new.aggregate_put (record { reference = target; description = ArrayOf bounds element; is_parameter = passed; area = area }) (DenotesVariable (record { reference = reference; description = s; is_parameter = is_parameter; area = own })))
    ≡ old.aggregate_assigned equals (record { reference = target; description = ArrayOf bounds element; is_parameter = passed; area = area }) (meant_as (DenotesVariable (record { reference = reference; description = s; is_parameter = is_parameter; area = own })))
source_3 equals bounds element target passed area reference (Stated (FixedBinary k)) is_parameter own = refl
source_3 equals bounds element target passed area reference (Stated (Character k)) is_parameter own = refl
source_3 equals bounds element target passed area reference (Stated (Varying k)) is_parameter own = refl
source_3 equals bounds element target passed area reference (Stated (Bit k)) is_parameter own = refl
source_3 equals bounds element target passed area reference (Stated Pointer) is_parameter own = refl
source_3 equals bounds element target passed area reference (Stated Offset) is_parameter own = refl
source_3 equals bounds element target passed area reference (Stated (Area k)) is_parameter own = refl
source_3 equals bounds element target passed area reference (Stated (Array bs x)) is_parameter own = refl
source_3 equals bounds element target passed area reference (Stated (Structure qs)) is_parameter own = refl
source_3 equals bounds element target passed area reference (AnyString fork) is_parameter own = refl
source_3 equals bounds element target passed area reference (AnyArray k x) is_parameter own = refl
source_3 equals bounds element target passed area reference (ArrayOf bs x) is_parameter own = refl
source_3 equals bounds element target passed area reference (StructureOf qs) is_parameter own = refl

source_4 : (equals : ℕ) (parts : ParameterTypes) (target : TypedReference) (passed : Bool) (area : Option Beginning) (reference : TypedReference) (s : ParameterType) (is_parameter : Bool) (own : Option Beginning)
    → or_fault CannotAssign equals (new.aggregate_put (record { reference = target; description = StructureOf parts; is_parameter = passed; area = area }) (DenotesVariable (record { reference = reference; description = s; is_parameter = is_parameter; area = own })))
    ≡ old.aggregate_assigned equals (record { reference = target; description = StructureOf parts; is_parameter = passed; area = area }) (meant_as (DenotesVariable (record { reference = reference; description = s; is_parameter = is_parameter; area = own })))
source_4 equals parts target passed area reference (Stated (FixedBinary k)) is_parameter own = refl
source_4 equals parts target passed area reference (Stated (Character k)) is_parameter own = refl
source_4 equals parts target passed area reference (Stated (Varying k)) is_parameter own = refl
source_4 equals parts target passed area reference (Stated (Bit k)) is_parameter own = refl
source_4 equals parts target passed area reference (Stated Pointer) is_parameter own = refl
source_4 equals parts target passed area reference (Stated Offset) is_parameter own = refl
source_4 equals parts target passed area reference (Stated (Area k)) is_parameter own = refl
source_4 equals parts target passed area reference (Stated (Array bs x)) is_parameter own = refl
source_4 equals parts target passed area reference (Stated (Structure qs)) is_parameter own = refl
source_4 equals parts target passed area reference (AnyString fork) is_parameter own = refl
source_4 equals parts target passed area reference (AnyArray k x) is_parameter own = refl
source_4 equals parts target passed area reference (ArrayOf bs x) is_parameter own = refl
source_4 equals parts target passed area reference (StructureOf qs) is_parameter own = refl

aggregate_alike : (equals : ℕ) (target : Referent)
    → ((r : Referent) → or_fault CannotAssign equals (new.aggregate_put target (DenotesVariable r)) ≡ old.aggregate_assigned equals target (meant_as (DenotesVariable r)))
    → (d : Denoted) → or_fault CannotAssign equals (new.aggregate_put target d) ≡ old.aggregate_assigned equals target (meant_as d)
aggregate_alike equals target h (DenotesVariable r) = h r
aggregate_alike equals target h (DenotesResult value) = refl
aggregate_alike equals target h DenotesEmpty = refl

put_form : (equals : ℕ) (make : TypedExpression → Form) (o : Option TypedExpression)
    → or_fault CannotAssign equals (option_map make o) ≡ (or_fault CannotAssign equals o >>= λ x. Ok (make x))
put_form equals make None = refl
put_form equals make (Some x) = refl

turned_alike : (area : Option Beginning) (v : TypedValue) (t : ParameterType) → option_map (new.repeated t) (converted area t v) ≡ old.turned 63 area v t
turned_alike area v (Stated d) = ap (option_map typed.Repeated) (converted_alike area d v)
turned_alike area v (AnyString form) = ap (option_map typed.RepeatedString) (placed_alike area form v)
turned_alike area v (AnyArray m element) = refl
turned_alike area v (ArrayOf bounds element) = refl
turned_alike area v (StructureOf parts) = refl

-- storage

placed_by_alike : (temporary : ℕ) (area : Option Referent) (o : Option Template) (l : Option LocatorVariable)
    → option_and_then (λ t. option_and_then (placed_in area t temporary) l) o ≡ placed_by temporary area o l
placed_by_alike temporary area None l = refl
placed_by_alike temporary area (Some t) None = refl
placed_by_alike temporary area (Some t) (Some locator) = refl

taken_in_alike : (c : Context) (temporary : ℕ) (storage : NamedStorage) (path : List ℕ) (area target : Option Referent)
    → new.taken_in c temporary storage path area target ≡ allocation.taken_in (naming c) temporary storage path area target
taken_in_alike c temporary (Begins (InSlot outward slot) passed) path area target = refl
taken_in_alike c temporary (Begins (OfProgram number) passed) path area target = refl
taken_in_alike c temporary (Begins (Located locator whole) passed) path area target = refl
taken_in_alike c temporary (Begins (NewestOf number) passed) [] None None = refl
taken_in_alike c temporary (Begins (NewestOf number) passed) [] None (Some target) = refl
taken_in_alike c temporary (Begins (NewestOf number) passed) [] (Some area) target = refl
taken_in_alike c temporary (Begins (NewestOf number) passed) (i ∷ path) area target = refl
taken_in_alike c temporary (IsBased block number implied) [] area target =
    placed_by_alike temporary area (slice_get (templates_in c.unit is_based block) number) (locator_set target implied)
taken_in_alike c temporary (IsBased block number implied) (i ∷ path) area target = refl

taken_alike : (c : Context) (temporary : ℕ) (m : NamedAs) (area target : Option Referent)
    → new.taken c temporary m area target ≡ allocation.taken (naming c) temporary m area target
taken_alike c temporary (AVariable v) area target = taken_in_alike c temporary v.storage v.path area target
taken_alike c temporary (AFunction f) area target = refl
taken_alike c temporary (AProcedure p) area target = refl
taken_alike c temporary (ALabel statement) area target = refl
taken_alike c temporary Untyped area target = refl

-- calls and returns

no_function_alike : (p : NamedProcedure) (at : ℕ) (passed : TypedArguments) (o : Option Description)
    → (if is_none o then Ok (typed.Call p.callee passed) else at_fault NotCallableHere at) ≡ old.no_function at p.callee o passed
no_function_alike p at passed None = refl
no_function_alike p at passed (Some d) = refl

call_alike : (at : ℕ) (m : NamedAs) (gs : List Argument)
    → (or_fault NotCallableHere at (new.procedure_in m) >>= λ p. reading.arguments_passed p at gs >>= λ passed.
    if is_none p.returned then Ok (typed.Call p.callee passed) else at_fault NotCallableHere at) ≡ old.call_of 63 at m gs
call_alike at (AProcedure p) gs = then_alike (passing_alike p at gs) (λ passed. no_function_alike p at passed p.returned)
call_alike at (AVariable v) gs = refl
call_alike at (AFunction f) gs = refl
call_alike at (ALabel statement) gs = refl
call_alike at Untyped gs = refl

returned_alike : (area : Option Beginning) (at first begins : ℕ) (o : Option Description) (v : TypedValue)
    → (or_fault WrongReturn at o >>= λ d. or_fault CannotAssign first (converted area (Stated d) v) >>= λ x. Ok (typed.ReturnValue begins x))
    ≡ old.returned_value 63 area at first begins o v
returned_alike area at first begins None v = refl
returned_alike area at first begins (Some d) v =
    ap (λ o. or_fault CannotAssign first o >>= λ x. Ok (typed.ReturnValue begins x)) (converted_alike area d v)

-- the control variable

controlled : {B : Type 0} (at : ℕ) (r : Referent) (f : Referent → Result B Fault) (one two three four : Bool)
    → ((if one && two && three && four then Ok r else at_fault BadControlVariable at) >>= λ suits. f r)
    ≡ ((if one && two && three then old.suited_control at r four else at_fault BadControlVariable at) >>= f)
controlled at r f false two three four = refl
controlled at r f true false three four = refl
controlled at r f true true false four = refl
controlled at r f true true true false = refl
controlled at r f true true true true = refl

controls_alike : {B : Type 0} (variable : Reference) (kept : TypedRange) (f : Referent → Result B Fault) (d : Denoted)
    → (or_fault NotAVariable (own_token variable) (referent_in d) >>= λ r.
    (if new.may_control variable kept r then Ok r else at_fault BadControlVariable (own_token variable)) >>= λ (suits : Referent). f r)
    ≡ (old.controls (own_token variable) (has_locator variable) kept d >>= f)
controls_alike variable kept f (DenotesVariable r) =
    controlled (own_token variable) r f (without_subscripts r.reference) (not (has_locator variable)) (not (is_area_type r.description)) (suits_range r.description kept)
controls_alike variable kept f (DenotesResult value) = refl
controls_alike variable kept f DenotesEmpty = refl

module _ (c : Context) where
  abbrev n : Naming
  n = naming c

  suited_alike : {A : Type 0} (code : Code) (make made_so : TypedValue → Option A) → ((v : TypedValue) → make v ≡ made_so v) → (e : Expression)
      → suited c code make e ≡ (expressions.value_of n e >>= λ v. or_fault code (first_token e) (made_so v))
  suited_alike code make made_so h e = then_alike (found_alike c e) (λ v. ap (or_fault code (first_token e)) (h v))

  condition_alike : (e : Expression) → new.condition c e ≡ old.condition n e
  condition_alike e = then_alike (found_alike c e) (λ v. refl)

  item_alike : (e : Expression) → suited c CannotPrint printed e ≡ old.item n e
  item_alike e = suited_alike CannotPrint printed types.printed printed_alike e

  limit_alike : (e : Expression) → new.limit c e ≡ old.limit n e
  limit_alike e = then_alike (found_alike c e) (λ v. refl)

  limits_alike : (o : Option Range) → new.limits c o ≡ old.limits n o
  limits_alike None = refl
  limits_alike (Some (tree.To to by)) = then_alike (limit_alike to) (λ x. then_alike (written_alike (new.limit c) (old.limit n) limit_alike by) (λ y. refl))
  limits_alike (Some (tree.By by to)) = then_alike (limit_alike by) (λ x. then_alike (written_alike (new.limit c) (old.limit n) limit_alike to) (λ y. refl))
  limits_alike (Some (tree.Repeat next)) = refl

  repeat_alike : (r : Referent) (range : TypedRange) (o : Option Range) → new.with_repeat c r range o ≡ old.with_repeat n r range o
  repeat_alike r range None = refl
  repeat_alike r range (Some (tree.To to by)) = refl
  repeat_alike r range (Some (tree.By by to)) = refl
  repeat_alike r range (Some (tree.Repeat next)) =
      suited_alike CannotAssign (λ v. option_map (new.repeated r.description) (converted r.area r.description v)) (λ v. old.turned 63 r.area v r.description)
      (λ v. turned_alike r.area v r.description) next

  iteration_alike : (temporary : ℕ) (variable : Reference) (equals : ℕ) (first : Expression) (range : Option Range) (tested : Option Expression)
      → new.iteration c temporary variable equals first range tested ≡ old.iteration n temporary variable equals first range tested
  iteration_alike temporary variable equals first range tested =
      then_alike (found_alike c first)
      (λ v. then_alike (limits_alike range)
      (λ kept. bind_bind (reading.referred c AsLocator variable) (λ d. or_fault NotAVariable (own_token variable) (referent_in d))
      (λ r. (if new.may_control variable kept r then Ok r else at_fault BadControlVariable (own_token variable)) >>= λ (suits : Referent). rest v kept r)
      ∙ then_alike (referred_alike c AsLocator variable)
      (λ d. controls_alike variable kept (rest v kept) d
      ∙ then_alike refl (λ r. then_alike (ap (or_fault CannotAssign equals) (conversion_alike r.area r.description v.kind))
      (λ convert. then_alike (written_alike (new.condition c) (old.condition n) condition_alike tested)
      (λ x. then_alike (repeat_alike r kept range) (λ turns. refl)))))))
    where
      rest : TypedValue → TypedRange → Referent → Result Iteration Fault
      rest v kept r =
          or_fault CannotAssign equals (conversion r.area r.description v.kind) >>= λ convert.
          if_written (new.condition c) tested >>= λ x. new.with_repeat c r kept range >>= λ turns.
          Ok (record { control = r.reference; conversion = convert; start = unconverted r.description v; range = turns; condition = x; temporary = temporary })

  variable_found : {B : Type 0} (role : Role) (reference : Reference) (f g : Referent → Result B Fault) → ((r : Referent) → f r ≡ g r)
      → (new.variable_at c role reference >>= f) ≡ (expressions.referred n role reference >>= λ d. only_variable (own_token reference) d >>= g)
  variable_found role reference f g h =
      bind_bind (reading.referred c role reference) (λ d. or_fault NotAVariable (own_token reference) (referent_in d)) f
      ∙ then_alike (referred_alike c role reference) (λ d. then_alike (only_alike (own_token reference) d) h)

  place_alike : (o : Option Reference) → if_written (new.variable_at c AsLocator) o ≡ allocation.place_given n o
  place_alike None = refl
  place_alike (Some reference) = variable_found AsLocator reference (λ r. Ok (Some r)) (λ r. Ok (Some r)) (λ r. refl)

  allocated_alike : (temporary : ℕ) (a : Allocation) → new.allocated c temporary a ≡ allocation.allocated n temporary a
  allocated_alike temporary a =
      then_alike (place_alike a.area) (λ area. then_alike (place_alike a.target)
      (λ target. ap (or_fault CannotAllocateOrFree a.name.at) (taken_alike c temporary (meaning_in c a.name.at) area target)))

  all_allocated_alike : (temporary : ℕ) (list : List Allocation) → new.all_allocated c temporary list ≡ allocation.all_allocated n temporary list
  all_allocated_alike temporary [] = refl
  all_allocated_alike temporary (a ∷ others) =
      then_alike (allocated_alike temporary a) (λ x. then_alike (all_allocated_alike (temporary + kept_for x) others) (λ xs. refl))

  freed_alike : (reference : Reference) → new.freed c reference ≡ allocation.freed n reference
  freed_alike reference =
      variable_found AsTarget reference (λ r. or_fault CannotAllocateOrFree (own_token reference) (released r.reference))
      (λ r. or_fault CannotAllocateOrFree (own_token reference) (released r.reference)) (λ r. refl)

  given_alike : (arguments : Arguments) → new.arguments_typed c arguments ≡ old.arguments_typed n arguments
  given_alike Absent = refl
  given_alike (Given list) = all_arguments_alike c [] list

  called_alike : (name : Identifier) (arguments : Arguments) → new.call_typed c name arguments ≡ old.call_typed n name arguments
  called_alike name arguments = then_alike (given_alike arguments) (λ gs. call_alike name.at (meaning_in c name.at) gs)

  -- what is put into a variable of this type
  abbrev target_of : TypedReference → ParameterType → Bool → Option Beginning → Referent
  target_of reference t passed area = record { reference = reference; description = t; is_parameter = passed; area = area }

  put_alike : (equals : ℕ) (reference : TypedReference) (t : ParameterType) (passed : Bool) (area : Option Beginning) (e : Expression)
      → (new.form_put c (target_of reference t passed area) e >>= or_fault CannotAssign equals) ≡ old.variable_assigned n equals (target_of reference t passed area) e
  put_alike equals reference (Stated (FixedBinary m)) passed area e =
      bind_bind (reading.value_of c e) (λ v. Ok (new.value_put (target_of reference (Stated (FixedBinary m)) passed area) v)) (or_fault CannotAssign equals)
      ∙ then_alike (found_alike c e)
      (λ v. put_form equals (typed.Assign reference) (converted area (Stated (FixedBinary m)) v) ∙ ap (λ o. or_fault CannotAssign equals o >>= λ x. Ok (typed.Assign reference x)) (converted_alike area (FixedBinary m) v))
  put_alike equals reference (Stated (Character m)) passed area e =
      bind_bind (reading.value_of c e) (λ v. Ok (new.value_put (target_of reference (Stated (Character m)) passed area) v)) (or_fault CannotAssign equals)
      ∙ then_alike (found_alike c e)
      (λ v. put_form equals (typed.Assign reference) (converted area (Stated (Character m)) v) ∙ ap (λ o. or_fault CannotAssign equals o >>= λ x. Ok (typed.Assign reference x)) (converted_alike area (Character m) v))
  put_alike equals reference (Stated (Varying m)) passed area e =
      bind_bind (reading.value_of c e) (λ v. Ok (new.value_put (target_of reference (Stated (Varying m)) passed area) v)) (or_fault CannotAssign equals)
      ∙ then_alike (found_alike c e)
      (λ v. put_form equals (typed.Assign reference) (converted area (Stated (Varying m)) v) ∙ ap (λ o. or_fault CannotAssign equals o >>= λ x. Ok (typed.Assign reference x)) (converted_alike area (Varying m) v))
  put_alike equals reference (Stated (Bit m)) passed area e =
      bind_bind (reading.value_of c e) (λ v. Ok (new.value_put (target_of reference (Stated (Bit m)) passed area) v)) (or_fault CannotAssign equals)
      ∙ then_alike (found_alike c e)
      (λ v. put_form equals (typed.Assign reference) (converted area (Stated (Bit m)) v) ∙ ap (λ o. or_fault CannotAssign equals o >>= λ x. Ok (typed.Assign reference x)) (converted_alike area (Bit m) v))
  put_alike equals reference (Stated Pointer) passed area e =
      bind_bind (reading.value_of c e) (λ v. Ok (new.value_put (target_of reference (Stated Pointer) passed area) v)) (or_fault CannotAssign equals)
      ∙ then_alike (found_alike c e)
      (λ v. put_form equals (typed.Assign reference) (converted area (Stated Pointer) v) ∙ ap (λ o. or_fault CannotAssign equals o >>= λ x. Ok (typed.Assign reference x)) (converted_alike area Pointer v))
  put_alike equals reference (Stated Offset) passed area e =
      bind_bind (reading.value_of c e) (λ v. Ok (new.value_put (target_of reference (Stated Offset) passed area) v)) (or_fault CannotAssign equals)
      ∙ then_alike (found_alike c e)
      (λ v. put_form equals (typed.Assign reference) (converted area (Stated Offset) v) ∙ ap (λ o. or_fault CannotAssign equals o >>= λ x. Ok (typed.Assign reference x)) (converted_alike area Offset v))
  put_alike equals reference (Stated (Area m)) passed area e =
      bind_bind (reading.denoted c AsValue e) (λ d. Ok (area_put (area_meant reference (Stated (Area m))) d)) (or_fault CannotAssign equals)
      ∙ then_alike (denoted_alike c AsValue e) (λ d. refl)
  put_alike equals reference (Stated (Array bounds element)) passed area e =
      bind_bind (reading.denoted c AsArgument e) (λ d. Ok (new.aggregate_put (target_of reference (Stated (Array bounds element)) passed area) d)) (or_fault CannotAssign equals)
      ∙ then_alike (denoted_alike c AsArgument e) (aggregate_alike equals (target_of reference (Stated (Array bounds element)) passed area) (λ r. source_0 equals bounds element reference passed area r.reference r.description r.is_parameter r.area))
      ∙ sym (bind_bind (expressions.denoted n AsArgument e) (λ d. Ok (meant_as d)) (old.aggregate_assigned equals (target_of reference (Stated (Array bounds element)) passed area)))
  put_alike equals reference (Stated (Structure parts)) passed area e =
      bind_bind (reading.denoted c AsArgument e) (λ d. Ok (new.aggregate_put (target_of reference (Stated (Structure parts)) passed area) d)) (or_fault CannotAssign equals)
      ∙ then_alike (denoted_alike c AsArgument e) (aggregate_alike equals (target_of reference (Stated (Structure parts)) passed area) (λ r. source_1 equals parts reference passed area r.reference r.description r.is_parameter r.area))
      ∙ sym (bind_bind (expressions.denoted n AsArgument e) (λ d. Ok (meant_as d)) (old.aggregate_assigned equals (target_of reference (Stated (Structure parts)) passed area)))
  put_alike equals reference (AnyString form) passed area e =
      bind_bind (reading.value_of c e) (λ v. Ok (new.value_put (target_of reference (AnyString form) passed area) v)) (or_fault CannotAssign equals)
      ∙ then_alike (found_alike c e)
      (λ v. put_form equals (typed.AssignString reference) (converted area (AnyString form) v) ∙ ap (λ o. or_fault CannotAssign equals o >>= λ x. Ok (typed.AssignString reference x)) (placed_alike area form v))
  put_alike equals reference (AnyArray m element) passed area e =
      bind_bind (reading.denoted c AsArgument e) (λ d. Ok (new.aggregate_put (target_of reference (AnyArray m element) passed area) d)) (or_fault CannotAssign equals)
      ∙ then_alike (denoted_alike c AsArgument e) (aggregate_alike equals (target_of reference (AnyArray m element) passed area) (λ r. source_2 equals m element reference passed area r.reference r.description r.is_parameter r.area))
      ∙ sym (bind_bind (expressions.denoted n AsArgument e) (λ d. Ok (meant_as d)) (old.aggregate_assigned equals (target_of reference (AnyArray m element) passed area)))
  put_alike equals reference (ArrayOf bounds element) passed area e =
      bind_bind (reading.denoted c AsArgument e) (λ d. Ok (new.aggregate_put (target_of reference (ArrayOf bounds element) passed area) d)) (or_fault CannotAssign equals)
      ∙ then_alike (denoted_alike c AsArgument e) (aggregate_alike equals (target_of reference (ArrayOf bounds element) passed area) (λ r. source_3 equals bounds element reference passed area r.reference r.description r.is_parameter r.area))
      ∙ sym (bind_bind (expressions.denoted n AsArgument e) (λ d. Ok (meant_as d)) (old.aggregate_assigned equals (target_of reference (ArrayOf bounds element) passed area)))
  put_alike equals reference (StructureOf parts) passed area e =
      bind_bind (reading.denoted c AsArgument e) (λ d. Ok (new.aggregate_put (target_of reference (StructureOf parts) passed area) d)) (or_fault CannotAssign equals)
      ∙ then_alike (denoted_alike c AsArgument e) (aggregate_alike equals (target_of reference (StructureOf parts) passed area) (λ r. source_4 equals parts reference passed area r.reference r.description r.is_parameter r.area))
      ∙ sym (bind_bind (expressions.denoted n AsArgument e) (λ d. Ok (meant_as d)) (old.aggregate_assigned equals (target_of reference (StructureOf parts) passed area)))

  assigned_alike : (at equals : ℕ) (d : Denoted) (e : Expression)
      → (or_fault NotAVariable at (referent_in d) >>= λ r. new.form_put c r e >>= or_fault CannotAssign equals) ≡ old.assigned n at equals d e
  assigned_alike at equals (DenotesVariable r) e = put_alike equals r.reference r.description r.is_parameter r.area e
  assigned_alike at equals (DenotesResult value) e = refl
  assigned_alike at equals DenotesEmpty e = refl

  assignment_alike : (at : ℕ) (target : Reference) (equals : ℕ) (e : Expression) → new.assignment c at target equals e ≡ old.assignment n at target equals e
  assignment_alike at target equals e = then_alike (referred_alike c AsTarget target) (λ d. assigned_alike at equals d e)

-- statements

abbrev if_of : Result TypedExpression Fault → Result (WithProcedures TypedStatement) (List Fault) → Result (WithProcedures OtherWise) (List Fault) → Result (WithProcedures Form) (List Fault)
if_of c s alternative = together (λ x (both : TypedStatement × OtherWise). typed.If x both.0 both.1) (of_own c) (together (λ s otherwise. (s, otherwise)) s alternative)

either_leads : (a b : Bool) (o : Option ℕ) → (if a then Some 0 else if b then Some 0 else o) ≡ (if a || b then Some 0 else o)
either_leads true b o = refl
either_leads false b o = refl

put_alike_if : (b : Bool) (first : TypedStatement) (more : TypedStatements) → (if b then more else StatementThen first more) ≡ old.put_before b first more
put_alike_if true first more = refl
put_alike_if false first more = refl

before_alike : (s : Statement) → walk.put_before s ≡ old.put_before (old.says_nothing s)
before_alike (Numbered number label at body) = fun_ext (λ first. fun_ext (λ more. put_alike_if (leaves_nothing body) first more))

end_alike : (o : Option Description) (end : ℕ) → option_map (λ returned. end) o ≡ old.function_end o end
end_alike None end = refl
end_alike (Some d) end = refl

through : {A B C : Type 0} (f : A → B) (g : B → Option C) (o : Option A) → option_and_then g (option_map f o) ≡ option_and_then (λ a. g (f a)) o
through f g None = refl
through f g (Some a) = refl

module _ (r : ResolvedUnit) where
  abbrev u : NamedUnit
  u = unit_named r

  -- where blocks stand around, by what the type checker knows of them
  abbrev here : Enclosing → List Enclosing → (begins : ℕ) → (value : Option Description) → Context
  here b bs begins value = record {
    unit = r;
    blocks = map (λ (b : Enclosing). b.number) (b ∷ bs);
    begins = begins;
    value = value;
    labels = λ label. old.label_found (b ∷ bs) label;
    lasting = λ label. old.label_found (old.lasting_alone (b ∷ bs)) label;
  }

  abbrev there : Enclosing → List Enclosing → (begins : ℕ) → (value : Option Description) → Surroundings
  there b bs begins value = record { blocks = b ∷ bs; begins = begins; value = value }

  abbrev grouped : Statements → Enclosing → Enclosing
  grouped list b = record { number = b.number; labels = labels_of list ++ b.labels; lasting = b.lasting }

  abbrev lasting : Enclosing → Enclosing
  lasting b = record { number = b.number; labels = b.lasting; lasting = b.lasting }

  group_alike : (list : Statements) (b : Enclosing) (bs : List Enclosing) (begins : ℕ) (value : Option Description)
      → in_group list (here b bs begins value) ≡ here (grouped list b) bs begins value
  group_alike list b bs begins value =
      ap (λ (labels : Labels). record (here b bs begins value) { labels = labels })
      (fun_ext (λ label. either_leads (list_any (nat_eq label) (labels_of list)) (list_any (nat_eq label) b.labels) (option_map suc (old.label_found bs label))
      ∙ ap (λ is. if is then Some 0 else option_map suc (old.label_found bs label)) (sym (list_any-append (nat_eq label) (labels_of list) b.labels))))

  jump_alike : (b : Enclosing) (bs : List Enclosing) (begins : ℕ) (value : Option Description) (m : NamedAs) → walk.jump (here b bs begins value) m ≡ old.jump (there b bs begins value) m
  jump_alike b bs begins value (AVariable v) = refl
  jump_alike b bs begins value (AFunction f) = refl
  jump_alike b bs begins value (AProcedure p) = refl
  jump_alike b bs begins value (ALabel statement) = refl
  jump_alike b bs begins value Untyped = refl

  area_alike : (b : Enclosing) (bs : List Enclosing) (begins : ℕ) (value : Option Description)
      → new.area_here (here b bs begins value) ≡ old.area_here (naming (here b bs begins value)) (there b bs begins value)
  area_alike b bs begins value =
      let c = here b bs begins value in
      ap (option_and_then (λ block. area_named r c.blocks (returns_at r block).1)) (slice_get-map (λ (b : Enclosing). b.number) (b ∷ bs) begins)
      ∙ through (λ (b : Enclosing). b.number) (λ block. area_named r c.blocks (returns_at r block).1) (slice_get (b ∷ bs) begins)

  return_alike : (b : Enclosing) (bs : List Enclosing) (begins : ℕ) (value : Option Description) (at : ℕ) (o : Option Expression)
      → new.return_typed (here b bs begins value) at o ≡ old.return_typed (naming (here b bs begins value)) (there b bs begins value) at o
  return_alike b bs begins value at None = refl
  return_alike b bs begins value at (Some e) =
      let c = here b bs begins value in
      then_alike (found_alike c e) (λ v.
      ap (λ area. or_fault WrongReturn at value >>= λ d. or_fault CannotAssign (first_token e) (converted area (Stated d) v) >>= λ x. Ok (typed.ReturnValue begins x)) (area_alike b bs begins value)
      ∙ returned_alike (area_here (naming c) (there b bs begins value)) at (first_token e) begins value v)

  head_alike : (x : Next) (statement : ℕ) (list : Statements) → walk.head_of r x statement list ≡ head_of u x.block statement list
  head_alike x statement list =
      ap (λ n. record { number = x.block; statement = statement; variables = templates_in r is_automatic x.block; temporaries = n }) (own_alike r x list)

  procedure_alike : (parent : Option ℕ) (x : Next) (statement end : ℕ) (list : Statements) (done : TypedStatements)
      → walk.procedure_of r parent x statement end list done ≡ procedure_of u parent x.block statement end list done
  procedure_alike parent x statement end list done =
      ap (λ h. record (walk.procedure_of r parent x statement end list done) { head = h }) (head_alike x statement list)
      ∙ ap (λ e. record (procedure_of u parent x.block statement end list done) { function_end = e }) (end_alike (returns_at r x.block).0 end)

  unit_alike : (parent : Option ℕ) (x : Next) (statement : ℕ) (unit : Statement) (done : TypedStatements)
      → walk.on_unit_of r parent x statement unit done ≡ on_unit_of u parent x.block statement unit done
  unit_alike parent x statement unit done =
      ap (λ h. record (walk.on_unit_of r parent x statement unit done) { head = h }) (head_alike x statement (only unit))

  listed_alike : (b : Enclosing) (bs : List Enclosing) (begins : ℕ) (value : Option Description) (x : Next) (list : Statements)
      → walk.statements_typed (here (grouped list b) bs begins value) x list ≡ old.statements_typed u (there (grouped list b) bs begins value) x list
      → walk.statements_typed (in_group list (here b bs begins value)) x list ≡ old.statements_typed u (old.in_group list (there b bs begins value)) x list
  listed_alike b bs begins value x list e = ap (λ c. walk.statements_typed c x list) (group_alike list b bs begins value) ∙ e

  mutual
    statement_alike : (b : Enclosing) (bs : List Enclosing) (begins : ℕ) (value : Option Description) (x : Next) (statement : Statement)
        → walk.statement_typed (here b bs begins value) x statement ≡ old.statement_typed u (there b bs begins value) x statement
    statement_alike b bs begins value x (Numbered number label at body) = ap (made (typed.Statement number)) (body_alike b bs begins value x number at body)

    body_alike : (b : Enclosing) (bs : List Enclosing) (begins : ℕ) (value : Option Description) (x : Next) (number at : ℕ) (body : Body)
        → walk.body_typed (here b bs begins value) x number at body ≡ old.body_typed u (there b bs begins value) x number at body
    body_alike b bs begins value x number at tree.Null = refl
    body_alike b bs begins value x number at (Assign target equals v) = ap of_own (assignment_alike (here b bs begins value) at target equals v)
    body_alike b bs begins value x number at (Declare declared) = refl
    body_alike b bs begins value x number at (tree.Procedure heading list end) =
        ap (λ (m : TypedStatements → TypedProcedure). as_procedure typed.Null m (walk.statements_typed (here (enclosing x.block list) (b ∷ bs) 0 (u.returned x.block)) (inside x) list))
        (fun_ext (procedure_alike (Some b.number) x number end list))
        ∙ ap (as_procedure typed.Null (procedure_of u (Some b.number) x.block number end list))
        (statements_alike (enclosing x.block list) (b ∷ bs) 0 (u.returned x.block) (inside x) list)
    body_alike b bs begins value x number at (tree.Begin list end) =
        ap (λ h. made (typed.Begin h) (walk.statements_typed (here (enclosing x.block list) (b ∷ bs) (suc begins) value) (inside x) list)) (head_alike x number list)
        ∙ ap (made (typed.Begin (head_of u x.block number list))) (statements_alike (enclosing x.block list) (b ∷ bs) (suc begins) value (inside x) list)
    body_alike b bs begins value x number at (tree.Do None list end) = ap (made typed.Group) (listed_alike b bs begins value x list (statements_alike (grouped list b) bs begins value x list))
    body_alike b bs begins value x number at (tree.Do (Some (tree.While tested)) list end) =
        let c = here b bs begins value in
        ap (λ t. together typed.While (of_own t) (walk.statements_typed (in_group list c) x list)) (condition_alike c tested)
        ∙ ap (together typed.While (of_own (old.condition (naming c) tested))) (listed_alike b bs begins value x list (statements_alike (grouped list b) bs begins value x list))
    body_alike b bs begins value x number at (tree.Do (Some (tree.Iterate variable equals first range tested)) list end) =
        let c = here b bs begins value in
        ap (λ t. together typed.Iterate (of_own t) (walk.statements_typed (in_group list c) (after_limits range x) list))
        (iteration_alike c x.temporary variable equals first range tested)
        ∙ ap (together typed.Iterate (of_own (old.iteration (naming c) x.temporary variable equals first range tested))) (listed_alike b bs begins value (after_limits range x) list (statements_alike (grouped list b) bs begins value (after_limits range x) list))
    body_alike b bs begins value x number at (tree.If tested consequence alternative) =
        let c = here b bs begins value in
        ap (λ t. if_of t (walk.statement_typed c x consequence) (walk.alternative_typed c (after r x consequence) alternative)) (condition_alike c tested)
        ∙ ap (λ t. if_of (old.condition (naming c) tested) t (walk.alternative_typed c (after r x consequence) alternative)) (statement_alike b bs begins value x consequence)
        ∙ ap (λ y. if_of (old.condition (naming c) tested) (old.statement_typed u (there b bs begins value) x consequence) (walk.alternative_typed c y alternative)) (after_alike r x consequence)
        ∙ ap (if_of (old.condition (naming c) tested) (old.statement_typed u (there b bs begins value) x consequence))
        (alternative_alike b bs begins value (next_after u.is_based x consequence) alternative)
    body_alike b bs begins value x number at tree.Stop = refl
    body_alike b bs begins value x number at (tree.Allocate list) =
        ap (λ t. of_own (t >>= λ xs. Ok (typed.Allocate xs))) (all_allocated_alike (here b bs begins value) x.temporary list)
    body_alike b bs begins value x number at (tree.Free list) =
        let c = here b bs begins value in
        ap (λ t. of_own (t >>= λ xs. Ok (typed.Free xs))) (turn_alike (new.freed c) (allocation.freed (naming c)) (freed_alike c) list)
    body_alike b bs begins value x number at (tree.Call name arguments) = ap of_own (called_alike (here b bs begins value) name arguments)
    body_alike b bs begins value x number at (tree.Goto label) =
        ap (λ o. of_own (or_fault BadGoto label.at o)) (jump_alike b bs begins value (meaning_in (here b bs begins value) label.at))
    body_alike b bs begins value x number at (tree.Return v) = ap of_own (return_alike b bs begins value at v)
    body_alike b bs begins value x number at (tree.Put skip items) =
        let c = here b bs begins value in
        ap (λ t. made (typed.Put skip) (of_own t)) (turn_alike (suited c CannotPrint printed) (old.item (naming c)) (item_alike c) items)
    body_alike b bs begins value x number at (tree.On condition unit) =
        let inner = here (enclosing x.block (only unit)) (lasting b ∷ bs) 0 None in
        ap (λ (m : TypedStatements → TypedProcedure). as_procedure (typed.On condition x.block) m (together (walk.put_before unit) (walk.statement_typed inner (inside x) unit) (Ok (alone NoStatement))))
        (fun_ext (unit_alike (Some b.number) x number unit))
        ∙ ap (λ p. as_procedure (typed.On condition x.block) (on_unit_of u (Some b.number) x.block number unit) (together p (walk.statement_typed inner (inside x) unit) (Ok (alone NoStatement)))) (before_alike unit)
        ∙ ap (λ y. as_procedure (typed.On condition x.block) (on_unit_of u (Some b.number) x.block number unit) (listed unit y (Ok (alone NoStatement))))
        (statement_alike (enclosing x.block (only unit)) (lasting b ∷ bs) 0 None (inside x) unit)
    body_alike b bs begins value x number at (tree.Revert condition) = refl
    body_alike b bs begins value x number at (tree.Signal condition) = refl

    alternative_alike : (b : Enclosing) (bs : List Enclosing) (begins : ℕ) (value : Option Description) (x : Next) (alternative : Alternative)
        → walk.alternative_typed (here b bs begins value) x alternative ≡ old.alternative_typed u (there b bs begins value) x alternative
    alternative_alike b bs begins value x tree.NoElse = refl
    alternative_alike b bs begins value x (tree.Else statement) = ap (made typed.Else) (statement_alike b bs begins value x statement)

    statements_alike : (b : Enclosing) (bs : List Enclosing) (begins : ℕ) (value : Option Description) (x : Next) (list : Statements)
        → walk.statements_typed (here b bs begins value) x list ≡ old.statements_typed u (there b bs begins value) x list
    statements_alike b bs begins value x Ended = refl
    statements_alike b bs begins value x (Before first more) =
        let c = here b bs begins value in
        ap (λ p. together p (walk.statement_typed c x first) (walk.statements_typed c (after r x first) more)) (before_alike first)
        ∙ ap (λ y. listed first y (walk.statements_typed c (after r x first) more)) (statement_alike b bs begins value x first)
        ∙ ap (λ y. listed first (old.statement_typed u (there b bs begins value) x first) (walk.statements_typed c y more)) (after_alike r x first)
        ∙ ap (listed first (old.statement_typed u (there b bs begins value) x first)) (statements_alike b bs begins value (next_after u.is_based x first) more)

  abbrev begin : Next
  begin = record { block = 0; temporary = 0 }

  unit_of_alike : (o : Result (WithProcedures TypedStatements) (List Fault)) → (o >>= λ list. Ok (walk.unit_of r begin list)) ≡ typed_as u o
  unit_of_alike (Ok list) =
      ap (λ p. Ok (record (walk.unit_of r begin list) { procedures = p ∷ list.procedures }))
      (procedure_alike None begin r.tree.heading.number r.tree.end r.tree.statements list.part)
  unit_of_alike (Err faults) = refl

  pub typed_alike : walk.typed_unit r ≡ checked u
  unfolding walk.typed_unit checked
  typed_alike =
      ap (λ o. o >>= λ list. Ok (walk.unit_of r begin list)) (statements_alike (enclosing 0 r.tree.statements) [] 0 (u.returned 0) first_inside r.tree.statements)
      ∙ unit_of_alike (old.statements_typed u (in_unit (u.returned 0) u.tree.statements) first_inside u.tree.statements)
