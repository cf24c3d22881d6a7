-- Forms without statements in them are typed as the meaning of typed trees asks.
use Rattle.std.specs.Prelude.{◌≡◌, ℕ, Bool, true, false, not, ◌&&◌, Option, Some, None, is_none, option_map, option_and_then, List, [], ◌∷◌, slice_get}
use Rattle.std.specs.Prelude.{Result, Ok, Err, refl, if◌then◌else◌}
use Rattle.std.proofs.Common.{sym, subst, ◌∙◌}
use Rattle.std.proofs.lemmas.Bool.{false≢true}
use Rattle.pli_base.specs.Reading.{at_fault}
use Rattle.pli_base.specs.Statements as tree
use Rattle.pli_base.specs.Statements.{Range}
use Rattle.pli_base.specs.Syntax.{Expression, Reference, Arguments, Absent, Given}
use Rattle.pli_base.specs.declared.code.Code.TheVariants.{WrongOperandType, CannotAssign, CannotPrint, WrongReturn, BadGoto}
use Rattle.pli_base.specs.declared.syntax.Identifier.{Identifier}
use Rattle.pli_base.specs.declared.token.Fault.{Fault}
use Rattle.pli_map.specs.Description.{Description, Array, Structure}
use Rattle.pli_map.specs.ParameterTypes.{ParameterType, Stated, AnyString, is_aggregate_type}
use Rattle.pli_map.specs.Same.{same}
use Rattle.pli_map.specs.declared.parameter.StringForm.{StringForm}
use Rattle.pli_map.specs.laws.SameLaws.{same_decides}
use Rattle.pli_map.specs.Scalars.{is_aggregate, is_area}
use Rattle.pli_type_rules.specs.Beginnings.{area_meant, whole_at}
use Rattle.pli_type_rules.specs.ExpressionTypes.{TypedValue, precision_of, converted, conversion_to, suited_to_form, unconverted, printed}
use Rattle.pli_type_rules.specs.FunctionCalls.{Denoted, DenotesVariable, DenotesResult, DenotesEmpty, area_of, Meant, OneValue, WholeAggregate, Argument}
use Rattle.pli_type_rules.specs.Names.{NamedAs, AProcedure, ALabel, NamedProcedure, Naming}
use Rattle.pli_type_rules.specs.ProcedureCalls.{arguments_passed}
use Rattle.pli_type_rules.specs.References.{AsArgument, AsLocator, AsTarget, AsValue, Referent}
use Rattle.pli_type_rules.specs.StatementTyping.{are_alike, aggregate_assigned, scalar_assigned, string_assigned, area_put, area_assigned, one_assigned, variable_assigned, assigned, assignment, condition, item}
use Rattle.pli_type_rules.specs.StatementTyping.{Enclosing, Surroundings, label_found, jump, goto_typed, arguments_typed, no_function, call_of}
use Rattle.pli_type_rules.specs.StatementTyping.{call_typed, area_here, returned_value, return_typed, limit, limits}
use Rattle.pli_type_rules.specs.StatementTyping.{without_subscripts, has_locator, suits_range, controls, turned, next_value, with_repeat}
use Rattle.pli_type_rules.specs.StatementTyping.{iteration}
use Rattle.pli_type_rules.specs.Typing.{first_token, own_token, or_fault, denoted, meant, referred, value_of}
use Rattle.pli_type_rules.specs.TypingSteps.{truth_of, items, jump_to, number_of, possible_limit, possible_condition}
use Rattle.pli_type_rules.specs.declared.beginning.Beginning.{Beginning}
use Rattle.pli_type_rules.specs.declared.expression_type.ExpressionType.{ExpressionType}
use Rattle.pli_type_rules.specs.declared.expression_type.ExpressionType.TheVariants as types
use Rattle.pli_type_laws.proofs.Calls.{IsCallable, arguments_fit, gives}
use Rattle.pli_type_laws.proofs.Conversions.{OnGiven, IsItem, conversion_held, string_suits, printing_held}
use Rattle.pli_type_laws.proofs.Denotations.{OnRead, IsReferent, IsMeant, IsDenoted, AreArguments}
use Rattle.pli_type_laws.proofs.Expressions.{IsMeaning, N, read_option, denoted_typed, meant_typed, referred_typed, value_typed}
use Rattle.pli_type_laws.proofs.Expressions.{list_typed}
use Rattle.pli_type_laws.proofs.Functions.{area_typed, area_given}
use Rattle.pli_type_laws.proofs.Iterations.{ConvertsFor, converts_so, conversions_hold, AreLimits, limits_range}
use Rattle.pli_type_laws.proofs.Operators.{HasValue, has_precision}
use Rattle.pli_type_laws.proofs.References.{read_then}
use Rattle.pli_type_laws.specs.ExpressionTyping as Near
use Rattle.pli_type_laws.specs.ExpressionTyping.{HasType, IsShort}
use Rattle.pli_type_laws.specs.NameFacts.{IsAreaNamed}
use Rattle.pli_type_tree.specs.Templates.{Template}
use Rattle.pli_type_tree.specs.TypedTree as typed
use Rattle.pli_type_tree.specs.TypedTree.{TypedExpression, TypedArguments, Conversion, TypedRange, Form}
use Rattle.pli_type_tree.specs.ValueTypes.{StringKind, OfBits, kind_of_form}
use Rattle.pli_type_tree.specs.WellTyped.{TypingContext, IsPlaced, IsAreaReference, ArePassed, IsValueFor, IsString, AreItems, IsNumber}
use Rattle.pli_type_tree.specs.WellTyped.{IsPossibleNumber, IsRange, IsOpenRange, IsRangeFor, IsPossibleCondition, IsIteration, knows_label, IsTypedForm}
use Rattle.pli_type_tree.specs.WellTyped.{is_area_type}

module _ (s : TypingContext) where
  truth_typed : (e : TypedExpression) (kind : ExpressionType) → HasType s e kind
      → OnGiven (IsString 63 s OfBits) (truth_of (record { expression = e; kind = kind }))
  truth_typed e types.Bits h = (h.0, h.1, h.2)
  truth_typed e kind h = tt

  abbrev IsPrinted : TypedExpression → Type 0
  IsPrinted x = (kind : StringKind) × IsString 63 s kind x

  printed_typed : (o : Option TypedExpression) → OnGiven (IsItem s) o → OnGiven IsPrinted o
  printed_typed (Some x) h = (h.0, (h.1.0, h.1.1, h.1.2))
  printed_typed None h = tt

  no_area : (d : Description) → is_aggregate d ≡ true → is_area d ≡ false
  no_area (Array bs d) e = refl
  no_area (Structure ds) e = refl
  no_area d e = absurd (false≢true e)

  -- aggregates of one type, in which no `*` stands
  alike_typed : (equals : ℕ) (target source : Referent) (one other : ParameterType) → is_aggregate_type one ≡ true
      → IsPlaced 63 s target.reference one → IsPlaced 63 s source.reference other
      → OnRead (IsTypedForm 63 s)
      (if are_alike one other then Ok (typed.AssignAggregate target.reference source.reference)
      else Err (record { code = CannotAssign; at = equals }))
  alike_typed equals target source (Stated d) (Stated e) aggregate there here = by (same d e) refl
    where
      by : (b : Bool) → same d e ≡ b
          → OnRead (IsTypedForm 63 s)
          (if b then Ok (typed.AssignAggregate target.reference source.reference)
          else Err (record { code = CannotAssign; at = equals }))
      by true is = (
        d,
        there,
        subst (λ x. IsPlaced 63 s source.reference (Stated x)) (sym ((same_decides d e).0 is)) here,
        no_area d aggregate,
      )
      by false is = tt
  alike_typed equals target source (Stated d) other aggregate there here = tt
  alike_typed equals target source one other aggregate there here = tt

  aggregate_typed : (equals : ℕ) (target : Referent) → is_aggregate_type target.description ≡ true → IsReferent s target → (m : Meant)
      → IsMeant s m → OnRead (IsTypedForm 63 s) (aggregate_assigned equals target m)
  aggregate_typed equals target aggregate h (OneValue v) k = tt
  aggregate_typed equals target aggregate h (WholeAggregate source) k =
      alike_typed equals target source target.description source.description aggregate h.0 k.0

  -- what REPEAT gives
  repeated : (d : Description) (c : Conversion) (o : Option TypedExpression) → OnGiven (IsValueFor 63 s d) o
      → OnGiven (IsRange 63 s c d) (option_map typed.Repeated o)
  repeated d c (Some x) h = h
  repeated d c None h = tt

  repeated_string : (kind : StringKind) (o : Option TypedExpression) → OnGiven (IsShort s kind) o
      → OnGiven (IsOpenRange 63 s kind) (option_map typed.RepeatedString o)
  repeated_string kind (Some x) h = (h.0, h.1, h.2)
  repeated_string kind None h = tt

  turned_typed : (area : Option Beginning) → IsAreaNamed 63 s area → (v : TypedValue) → HasValue s v → (type : ParameterType)
      (c : Conversion) → OnGiven (IsRangeFor 63 s c type) (turned 63 area v type)
  turned_typed area there v h (Stated d) c = repeated d c (converted 63 area d v) (conversion_held s area there d v h)
  turned_typed area there v h (AnyString form) c =
      repeated_string (kind_of_form form) (suited_to_form form v.expression v.kind) (string_suits s form v.expression v.kind h)
  turned_typed area there v h type c = tt

  -- to an area another one, or EMPTY
  source_put : (target : Beginning) → IsAreaReference 63 s (whole_at target) → (o : Option Beginning) → IsAreaNamed 63 s o
      → OnGiven (IsTypedForm 63 s) (option_map (λ source. typed.AssignArea (whole_at target) (whole_at source)) o)
  source_put target h (Some source) k = (h, k)
  source_put target h None k = tt

  area_put_typed : (target : Option Beginning) → IsAreaNamed 63 s target → (d : Denoted) → IsDenoted s d
      → OnGiven (IsTypedForm 63 s) (area_put target d)
  area_put_typed None h d k = tt
  area_put_typed (Some target) h DenotesEmpty k = h
  area_put_typed (Some target) h (DenotesVariable r) k = source_put target h (area_of (DenotesVariable r)) (area_given s (DenotesVariable r) k)
  area_put_typed (Some target) h (DenotesResult v) k = tt

module _ (based : ℕ → List Template) (areas : ℕ → Option Beginning) (meaning : ℕ → NamedAs) (s : TypingContext)
    (known : (at : ℕ) → IsMeaning s (meaning at)) where
  abbrev M : Naming
  M = N based areas meaning s known

  pub condition_typed : (e : Expression)
      → OnRead (IsString 63 s OfBits) (condition M e)
  condition_typed e =
      read_then (HasValue s) (IsString 63 s OfBits) (value_of M e) _ (value_typed based areas meaning s known e)
      (λ v h. read_option (IsString 63 s OfBits) WrongOperandType (first_token e) (truth_of v)
      (truth_typed s v.expression v.kind h))

  item_typed : (e : Expression) → OnRead (IsPrinted s) (item M e)
  item_typed e =
      read_then (HasValue s) (IsPrinted s) (value_of M e) _ (value_typed based areas meaning s known e)
      (λ v h. read_option (IsPrinted s) CannotPrint (first_token e) (printed v)
      (printed_typed s (printed v) (printing_held s v h)))

  pub items_typed : (es : List Expression)
      → OnRead (AreItems 63 s) (items M es)
  items_typed [] = tt
  items_typed (e ∷ es) =
      read_then (IsPrinted s) (AreItems 63 s) (item M e) _ (item_typed e)
      (λ x h. read_then (AreItems 63 s) (AreItems 63 s) (items M es) _ (items_typed es) (λ xs k. (h, k)))

  scalar_typed : (equals : ℕ) (target : Referent) (d : Description) → IsPlaced 63 s target.reference (Stated d)
      → IsAreaNamed 63 s target.area → (e : Expression) → OnRead (IsTypedForm 63 s) (scalar_assigned M equals target d e)
  scalar_typed equals target d placed there e =
      read_then (HasValue s) (IsTypedForm 63 s) (value_of M e) _ (value_typed based areas meaning s known e)
      (λ v h. read_then (IsValueFor 63 s d) (IsTypedForm 63 s) (or_fault CannotAssign equals (converted 63 target.area d v)) _
      (read_option (IsValueFor 63 s d) CannotAssign equals (converted 63 target.area d v) (conversion_held s target.area there d v h))
      (λ x k. (d, placed, k)))

  string_typed : (equals : ℕ) (target : Referent) (form : StringForm) → IsPlaced 63 s target.reference (AnyString form) → (e : Expression)
      → OnRead (IsTypedForm 63 s) (string_assigned M equals target form e)
  string_typed equals target form placed e =
      let kind : StringKind = kind_of_form form in
      read_then (HasValue s) (IsTypedForm 63 s) (value_of M e) _ (value_typed based areas meaning s known e)
      (λ v h. read_then (IsShort s kind) (IsTypedForm 63 s) (or_fault CannotAssign equals (suited_to_form form v.expression v.kind)) _
      (read_option (IsShort s kind) CannotAssign equals (suited_to_form form v.expression v.kind)
      (string_suits s form v.expression v.kind h))
      (λ x k. (form, placed, (k.0, k.1, k.2))))

  area_assigned_typed : (equals : ℕ) (target : Option Beginning) → IsAreaNamed 63 s target → (e : Expression)
      → OnRead (IsTypedForm 63 s) (area_assigned M equals target e)
  area_assigned_typed equals target h e =
      read_then (IsDenoted s) (IsTypedForm 63 s) (denoted M AsValue e) _ (denoted_typed based areas meaning s known AsValue e)
      (λ d k. read_option (IsTypedForm 63 s) CannotAssign equals (area_put target d) (area_put_typed s target h d k))

  choice : (b : Bool) (r q : Result Form Fault) → (b ≡ true → OnRead (IsTypedForm 63 s) r) → OnRead (IsTypedForm 63 s) q
      → OnRead (IsTypedForm 63 s) (if b then r else q)
  choice true r q a b = a refl
  choice false r q a b = b

  one_typed : (equals : ℕ) (target : Referent) (type : ParameterType) → IsPlaced 63 s target.reference type
      → IsAreaNamed 63 s target.area → (e : Expression) → OnRead (IsTypedForm 63 s) (one_assigned M equals target type e)
  one_typed equals target (Stated d) placed there e =
      choice (is_area d) _ _
      (λ area. area_assigned_typed equals (area_meant target.reference (Stated d)) (area_typed s target.reference (Stated d) placed) e)
      (scalar_typed equals target d placed there e)
  one_typed equals target (AnyString form) placed there e = string_typed equals target form placed e
  one_typed equals target type placed there e = tt

  variable_assigned_typed : (equals : ℕ) (target : Referent) → IsReferent s target → (e : Expression)
      → OnRead (IsTypedForm 63 s) (variable_assigned M equals target e)
  variable_assigned_typed equals target h e =
      choice (is_aggregate_type target.description) _ _
      (λ aggregate. read_then (IsMeant s) (IsTypedForm 63 s) (meant M AsArgument e) (aggregate_assigned equals target)
      (meant_typed based areas meaning s known AsArgument e) (aggregate_typed s equals target aggregate h))
      (one_typed equals target target.description h.0 h.3 e)

  assigned_typed : (at equals : ℕ) (d : Denoted) → IsDenoted s d → (e : Expression)
      → OnRead (IsTypedForm 63 s) (assigned M at equals d e)
  assigned_typed at equals (DenotesVariable target) h e = variable_assigned_typed equals target h e
  assigned_typed at equals (DenotesResult v) h e = tt
  assigned_typed at equals DenotesEmpty h e = tt

  pub assignment_typed : (at : ℕ) (target : Reference) (equals : ℕ) (e : Expression)
      → OnRead (IsTypedForm 63 s) (assignment M at target equals e)
  assignment_typed at target equals e =
      read_then (IsDenoted s) (IsTypedForm 63 s) (referred M AsTarget target) _
      (referred_typed based areas meaning s known AsTarget target) (λ d h. assigned_typed at equals d h e)

  -- calls
  no_function_typed : (p : NamedProcedure) (callable : IsCallable s p) (xs : TypedArguments) → ArePassed 63 s xs p.parameters
      → (at : ℕ) (o : Option Description) → p.returned ≡ o → OnRead (IsTypedForm 63 s) (no_function at p.callee o xs)
  no_function_typed p callable xs fit at None e =
      (p.parameters, gives s p callable xs fit None e, fit)
  no_function_typed p callable xs fit at (Some d) e = tt

  call_of_typed : (at : ℕ) (a : NamedAs) → IsMeaning s a → (gs : List Argument) → AreArguments s gs
      → OnRead (IsTypedForm 63 s) (call_of 63 at a gs)
  call_of_typed at (AProcedure p) k gs h =
      read_then (λ xs. ArePassed 63 s xs p.parameters) (IsTypedForm 63 s) (arguments_passed 63 p at gs) _
      (arguments_fit s p at gs h) (λ xs fit. no_function_typed p k xs fit at p.returned refl)
  call_of_typed at other k gs h = tt

  arguments_read : (a : Arguments) → OnRead (AreArguments s) (arguments_typed M a)
  arguments_read Absent = tt
  arguments_read (Given list) = list_typed based areas meaning s known [] list

  pub call_is_typed : (name : Identifier) (a : Arguments)
      → OnRead (IsTypedForm 63 s) (call_typed M name a)
  call_is_typed name a =
      read_then (AreArguments s) (IsTypedForm 63 s) (arguments_typed M a) _ (arguments_read a)
      (λ gs h. call_of_typed name.at (meaning name.at) (known name.at) gs h)

  -- returns
  module _ (there : (block : ℕ) → IsAreaNamed 63 s (areas block)) (su : Surroundings) (begins : s.begins ≡ su.begins)
      (value : s.value ≡ su.value) where
    without_value : (at : ℕ) (o : Option Description) → su.value ≡ o
        → OnRead (IsTypedForm 63 s) (if is_none o then Ok (typed.Return su.begins) else at_fault WrongReturn at)
    without_value at None e = (sym begins, value ∙ e)
    without_value at (Some d) e = tt

    -- the area that RETURNS names here
    around_there : (o : Option Enclosing) → IsAreaNamed 63 s (option_and_then (λ (b : Enclosing). areas b.number) o)
    around_there None = tt
    around_there (Some b) = there b.number

    here_there : IsAreaNamed 63 s (area_here M su)
    here_there = around_there (slice_get su.blocks su.begins)

    with_value : (at first : ℕ) (v : TypedValue) → HasValue s v → (o : Option Description) → su.value ≡ o
        → OnRead (IsTypedForm 63 s) (returned_value 63 (area_here M su) at first su.begins o v)
    with_value at first v h None e = tt
    with_value at first v h (Some d) e =
        let area : Option Beginning = area_here M su in
        read_then (IsValueFor 63 s d) (IsTypedForm 63 s) (or_fault CannotAssign first (converted 63 area d v)) _
        (read_option (IsValueFor 63 s d) CannotAssign first (converted 63 area d v) (conversion_held s area here_there d v h))
        (λ x k. (sym begins, (d, value ∙ e, k)))

    pub return_is_typed : (at : ℕ) (v : Option Expression)
        → OnRead (IsTypedForm 63 s) (return_typed M su at v)
    return_is_typed at None = without_value at su.value refl
    return_is_typed at (Some e) =
        read_then (HasValue s) (IsTypedForm 63 s) (value_of M e) _ (value_typed based areas meaning s known e)
        (λ v h. with_value at (first_token e) v h su.value refl)

  -- jumps
  module _ (su : Surroundings)
      (finds : (label outward : ℕ) → label_found su.blocks label ≡ Some outward → knows_label (slice_get s.blocks outward) label) where
    jump_found : (label : ℕ) (o : Option ℕ) → label_found su.blocks label ≡ o → OnGiven (IsTypedForm 63 s) (jump_to label o)
    jump_found label None e = tt
    jump_found label (Some outward) e = finds label outward e

    jump_typed : (a : NamedAs) → OnGiven (IsTypedForm 63 s) (jump su a)
    jump_typed (ALabel statement) = jump_found statement (label_found su.blocks statement) refl
    jump_typed a = tt

    pub goto_is_typed : (label : Identifier) → OnRead (IsTypedForm 63 s) (goto_typed M su label)
    goto_is_typed label = read_option (IsTypedForm 63 s) BadGoto label.at (jump su (meaning label.at)) (jump_typed (meaning label.at))

  -- groups with a control variable
  limit_given : (v : TypedValue) (o : Option ℕ) → OnGiven (Near.IsNumber s v.expression) o
      → OnGiven (IsNumber 63 s) (option_map (λ p. v.expression) o)
  limit_given v (Some p) h = (h.0, h.1)
  limit_given v None h = tt

  limit_typed : (e : Expression) → OnRead (IsNumber 63 s) (limit M e)
  limit_typed e =
      read_then (HasValue s) (IsNumber 63 s) (value_of M e) _ (value_typed based areas meaning s known e)
      (λ v h. read_option (IsNumber 63 s) WrongOperandType (first_token e) (number_of 63 v)
      (limit_given v (precision_of 63 v.kind) (has_precision s v.expression v.kind h)))

  possible_limit_typed : (o : Option Expression)
      → OnRead (IsPossibleNumber 63 s) (possible_limit M o)
  possible_limit_typed None = tt
  possible_limit_typed (Some e) =
      read_then (IsNumber 63 s) (IsPossibleNumber 63 s) (limit M e) _ (limit_typed e) (λ x h. h)

  limits_typed : (range : Option Range) → OnRead (AreLimits s) (limits M range)
  limits_typed (Some (tree.To to by)) =
      read_then (IsNumber 63 s) (AreLimits s) (limit M to) _ (limit_typed to)
      (λ x h. read_then (IsPossibleNumber 63 s) (AreLimits s) (possible_limit M by) _ (possible_limit_typed by)
      (λ y k. (h, k)))
  limits_typed (Some (tree.By by to)) =
      read_then (IsNumber 63 s) (AreLimits s) (limit M by) _ (limit_typed by)
      (λ x h. read_then (IsPossibleNumber 63 s) (AreLimits s) (possible_limit M to) _ (possible_limit_typed to)
      (λ y k. (h, k)))
  limits_typed (Some (tree.Repeat next)) = tt
  limits_typed None = tt

  -- the variable suits the limits
  abbrev Suits : TypedRange → Referent → Type 0
  Suits range r = IsReferent s r × (suits_range r.description range ≡ true)

  suited : (at : ℕ) (is_located : Bool) (range : TypedRange) (r : Referent) → IsReferent s r → (b : Bool)
      → (without_subscripts r.reference && not is_located && not (is_area_type r.description)) ≡ b → (c : Bool)
      → suits_range r.description range ≡ c
      → OnRead (Suits range) (controls at is_located range (DenotesVariable r))
  suited at is_located range r h true e true f = rw (e, f) (h, f)
  suited at is_located range r h true e false f = rw (e, f) tt
  suited at is_located range r h false e c f = rw e tt

  controls_typed : (at : ℕ) (is_located : Bool) (range : TypedRange) (d : Denoted) → IsDenoted s d
      → OnRead (Suits range) (controls at is_located range d)
  controls_typed at is_located range (DenotesVariable r) h = suited at is_located range r h _ refl _ refl
  controls_typed at is_located range (DenotesResult v) h = tt
  controls_typed at is_located range DenotesEmpty h = tt

  possible_condition_typed : (o : Option Expression)
      → OnRead (IsPossibleCondition 63 s) (possible_condition M o)
  possible_condition_typed None = tt
  possible_condition_typed (Some e) =
      read_then (IsString 63 s OfBits) (IsPossibleCondition 63 s) (condition M e) _ (condition_typed e) (λ x h. h)

  next_typed : (r : Referent) → IsReferent s r → (c : Conversion) (e : Expression)
      → OnRead (IsRangeFor 63 s c r.description) (next_value M r e)
  next_typed r placed c e =
      let type : ParameterType = r.description in
      read_then (HasValue s) (IsRangeFor 63 s c type) (value_of M e) _ (value_typed based areas meaning s known e)
      (λ v h. read_option (IsRangeFor 63 s c type) CannotAssign (first_token e) (turned 63 r.area v type)
      (turned_typed s r.area placed.3 v h type c))

  turns_typed : (r : Referent) → IsReferent s r → (c : Conversion) (kept : TypedRange) (range : Option Range)
      → IsRangeFor 63 s c r.description kept
      → OnRead (IsRangeFor 63 s c r.description) (with_repeat M r kept range)
  turns_typed r placed c kept (Some (tree.Repeat next)) h = next_typed r placed c next
  turns_typed r placed c kept (Some (tree.To to by)) h = h
  turns_typed r placed c kept (Some (tree.By by to)) h = h
  turns_typed r placed c kept None h = h

  pub iteration_typed : (temporary : ℕ) (variable : Reference) (equals : ℕ) (first : Expression) (range : Option Range)
      (tested : Option Expression)
      → OnRead (IsIteration 63 s) (iteration M temporary variable equals first range tested)
  iteration_typed temporary variable equals first range tested =
      read_then (HasValue s) (IsIteration 63 s) (value_of M first) _ (value_typed based areas meaning s known first)
      (λ v h. read_then (AreLimits s) (IsIteration 63 s) (limits M range) _ (limits_typed range)
      (λ kept k. read_then (IsDenoted s) (IsIteration 63 s) (referred M AsLocator variable) _
      (referred_typed based areas meaning s known AsLocator variable)
      (λ d g. read_then (Suits kept) (IsIteration 63 s) (controls (own_token variable) (has_locator variable) kept d) _
      (controls_typed (own_token variable) (has_locator variable) kept d g)
      (λ r m. read_then (ConvertsFor s r.description (unconverted r.description v)) (IsIteration 63 s)
      (or_fault CannotAssign equals (conversion_to 63 r.area r.description v.kind)) _
      (read_option (ConvertsFor s r.description (unconverted r.description v)) CannotAssign equals
      (conversion_to 63 r.area r.description v.kind)
      (conversions_hold s r.area m.0.3 r.description v h))
      (λ converts c. read_then (IsPossibleCondition 63 s) (IsIteration 63 s) (possible_condition M tested) _
      (possible_condition_typed tested)
      (λ x w. read_then (IsRangeFor 63 s converts r.description) (IsIteration 63 s)
      (with_repeat M r kept range) _
      (turns_typed r m.0 converts kept range
      (limits_range s r.description (unconverted r.description v) converts kept c m.1 k))
      (λ turns t. (
        r.description,
        m.0.0,
        converts_so s r.description (unconverted r.description v) converts c,
        t,
        w,
      ))))))))
