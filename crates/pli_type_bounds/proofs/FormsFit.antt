-- Forms without statements in them are within the limits.
use Rattle.std.specs.Prelude.{◌≡◌, ℕ, suc, ◌≤◌, Bool, true, false, not, ◌&&◌, Option, Some, None, is_none, option_map, option_and_then, List, [], ◌∷◌, length, slice_get}
use Rattle.std.specs.Prelude.{Ok, refl, if◌then◌else◌}
use Rattle.std.specs.List.{AllByRecursion}
use Rattle.std.proofs.Common.{arith, subst, sym}
use Rattle.pli_base.specs.Reading.{at_fault}
use Rattle.pli_base.specs.Statements as tree
use Rattle.pli_base.specs.Statements.{Range}
use Rattle.pli_base.specs.Syntax.{Expression, Reference, Arguments, Absent, Given}
use Rattle.pli_base.specs.declared.code.Code.TheVariants.{WrongOperandType, CannotAssign, CannotPrint, BadGoto, WrongReturn}
use Rattle.pli_base.specs.declared.syntax.Identifier.{Identifier}
use Rattle.pli_map.specs.Description.{Description}
use Rattle.pli_map.specs.ParameterTypes.{ParameterType, Stated, AnyString, is_aggregate_type}
use Rattle.pli_map.specs.Scalars.{is_area}
use Rattle.pli_map.specs.declared.parameter.StringForm.{StringForm}
use Rattle.pli_type_rules.specs.Beginnings.{area_meant, whole_at}
use Rattle.pli_type_rules.specs.ExpressionTypes.{TypedValue, precision_of, suited_to_form, converted, conversion_to, printed}
use Rattle.pli_type_rules.specs.FunctionCalls.{Denoted, DenotesVariable, DenotesResult, DenotesEmpty, area_of, Meant, OneValue, WholeAggregate, Argument}
use Rattle.pli_type_rules.specs.Names.{NamedAs, AProcedure, ALabel, NamedProcedure, Naming}
use Rattle.pli_type_rules.specs.ProcedureCalls.{arguments_passed}
use Rattle.pli_type_rules.specs.References.{AsArgument, AsLocator, AsTarget, AsValue, Referent}
use Rattle.pli_type_rules.specs.StatementTyping.{are_alike, aggregate_assigned, scalar_assigned, string_assigned, one_assigned, area_put, area_assigned, variable_assigned, assigned, assignment, condition, item, suited_control}
use Rattle.pli_type_rules.specs.StatementTyping.{Surroundings, Enclosing, label_found, jump, goto_typed, arguments_typed, no_function, call_of}
use Rattle.pli_type_rules.specs.StatementTyping.{call_typed, area_here, returned_value, return_typed, limit, limits}
use Rattle.pli_type_rules.specs.StatementTyping.{without_subscripts, has_locator, suits_range, controls, turned, next_value, with_repeat}
use Rattle.pli_type_rules.specs.StatementTyping.{iteration}
use Rattle.pli_type_rules.specs.Typing.{first_token, own_token, or_fault, denoted, meant, referred, value_of}
use Rattle.pli_type_rules.specs.TypingSteps.{truth_of, items, jump_to, number_of, possible_limit, possible_condition}
use Rattle.pli_type_rules.specs.declared.beginning.Beginning.{Beginning}
use Rattle.pli_type_rules.specs.declared.expression_type.ExpressionType.{ExpressionType}
use Rattle.pli_type_rules.specs.declared.expression_type.ExpressionType.TheVariants as types
use Rattle.pli_type_tree.specs.Templates.{Template}
use Rattle.pli_type_tree.specs.TypedTree as typed
use Rattle.pli_type_tree.specs.TypedTree.{TypedExpression, TypedArguments, TypedRange, TypedUnit}
use Rattle.pli_type_tree.specs.WellTyped.{is_area_type}
use Rattle.pli_type_laws.proofs.Conversions.{OnGiven}
use Rattle.pli_type_laws.proofs.Denotations.{OnRead}
use Rattle.pli_type_laws.proofs.Expressions.{read_option}
use Rattle.pli_type_laws.proofs.Operators.{given_map}
use Rattle.pli_type_laws.proofs.References.{read_then, read_if}
use Rattle.pli_type_bounds.proofs.ExpressionsFit.{N, Pass, arguments_fit, denoted_all, referred_fits, list_fits, meant_fits, value_of_fits}
use Rattle.pli_type_bounds.proofs.Meanings.{IsAreaNamed, IsProcedureNamed, IsMeaning, IsValue, IsReferent, IsMeant, IsDenoted, AreArgumentsGiven}
use Rattle.pli_type_bounds.proofs.OperatorsFit.{given_made, suited_to_fits, converted_fits, conversion_to_fits, unconverted_fits, area_fits, area_given, printed_fits}
use Rattle.pli_deck_laws.specs.Limits.{link_limit, parameter_limit, IfThere, IsDescription, IsParameterType}
use Rattle.pli_deck_laws.specs.WellFormed.{IsExpression, IsReference, IsConversion, IsRange, IsIteration, IsForm}

module _ (t : TypedUnit) where
  truth_fits : (e : TypedExpression) (kind : ExpressionType) → IsExpression t e
      → OnGiven (IsExpression t) (truth_of (record { expression = e; kind = kind }))
  truth_fits e types.Bits h = h
  truth_fits e kind h = tt

  aggregate_fits : (equals : ℕ) (target : Referent) → IsReferent t target → (m : Meant) → IsMeant t m
      → OnRead (IsForm t) (aggregate_assigned equals target m)
  aggregate_fits equals target h (OneValue v) k = tt
  aggregate_fits equals target h (WholeAggregate source) k =
      read_if (IsForm t) (are_alike target.description source.description) (Ok (typed.AssignAggregate target.reference source.reference)) _
      (h.reference, k.reference) tt

  -- to an area another one, or EMPTY
  source_fits : (target : Beginning) → IsReference t (whole_at target) → (o : Option Beginning) → IsAreaNamed t o
      → OnGiven (IsForm t) (option_map (λ source. typed.AssignArea (whole_at target) (whole_at source)) o)
  source_fits target h (Some source) k = (h, k)
  source_fits target h None k = tt

  put_fits : (target : Option Beginning) → IsAreaNamed t target → (d : Denoted) → IsDenoted t d → OnGiven (IsForm t) (area_put target d)
  put_fits None h d k = tt
  put_fits (Some target) h DenotesEmpty k = h
  put_fits (Some target) h (DenotesVariable r) k = source_fits target h (area_of (DenotesVariable r)) (area_given t (DenotesVariable r) k)
  put_fits (Some target) h (DenotesResult v) k = tt

  -- how far a label is, where these blocks are around
  label_near : (bs : List Enclosing) (label outward : ℕ) → label_found bs label ≡ Some outward → suc outward ≤ length bs
  label_near [] label outward e = absurd (cc)
  label_near (b ∷ bs) label outward e = by _ e (λ k f. label_near bs label k f)
    where
      same_some : {x y : ℕ} → Some x ≡ Some y → x ≡ y
      same_some e = cc

      next : (o : Option ℕ) → label_found bs label ≡ o → option_map suc o ≡ Some outward
          → ((k : ℕ) → label_found bs label ≡ Some k → suc k ≤ length bs) → suc outward ≤ suc (length bs)
      next None is e rest = absurd (cc)
      next (Some k) is e rest = omega (arith, rest k is, same_some e)

      by : (c : Bool) → (if c then Some 0 else option_map suc (label_found bs label)) ≡ Some outward
          → ((k : ℕ) → label_found bs label ≡ Some k → suc k ≤ length bs) → suc outward ≤ suc (length bs)
      by true e rest = omega (arith, same_some e)
      by false e rest = next (label_found bs label) refl e rest

module _ (t : TypedUnit) (based : ℕ → List Template) (areas : ℕ → Option Beginning) (meaning : ℕ → NamedAs)
    (known : (at : ℕ) → IsMeaning t (meaning at)) where
  abbrev M : Naming
  M = N t based areas meaning known

  pub condition_fits : (e : Expression) → OnRead (IsExpression t) (condition M e)
  condition_fits e =
      read_then (IsValue t) (IsExpression t) (value_of M e) _ (value_of_fits t based areas meaning known e)
      (λ v h. read_option (IsExpression t) WrongOperandType (first_token e) (truth_of v) (truth_fits t v.expression v.kind h.0))

  item_fits : (e : Expression) → OnRead (IsExpression t) (item M e)
  item_fits e =
      read_then (IsValue t) (IsExpression t) (value_of M e) _ (value_of_fits t based areas meaning known e)
      (λ v h. read_option (IsExpression t) CannotPrint (first_token e) (printed v) (printed_fits t v.expression v.kind h.0))

  pub items_fit : (es : List Expression) → OnRead (AllByRecursion (IsExpression t)) (items M es)
  items_fit [] = tt
  items_fit (e ∷ es) =
      read_then (IsExpression t) (AllByRecursion (IsExpression t)) (item M e) _ (item_fits e)
      (λ x h. read_then (AllByRecursion (IsExpression t)) (AllByRecursion (IsExpression t)) (items M es) _ (items_fit es) (λ xs k. (h, k)))

  scalar_fits : (equals : ℕ) (target : Referent) → IsReferent t target → (d : Description) → IsDescription d → (e : Expression)
      → OnRead (IsForm t) (scalar_assigned M equals target d e)
  scalar_fits equals target placed d good e =
      read_then (IsValue t) (IsForm t) (value_of M e) _ (value_of_fits t based areas meaning known e)
      (λ v h. read_then (IsExpression t) (IsForm t) (or_fault CannotAssign equals (converted 63 target.area d v)) _
      (read_option (IsExpression t) CannotAssign equals (converted 63 target.area d v) (converted_fits t target.area placed.area d v good h))
      (λ x k. (placed.reference, k)))

  string_fits : (equals : ℕ) (target : Referent) → IsReferent t target → (form : StringForm) (e : Expression)
      → OnRead (IsForm t) (string_assigned M equals target form e)
  string_fits equals target placed form e =
      read_then (IsValue t) (IsForm t) (value_of M e) _ (value_of_fits t based areas meaning known e)
      (λ v h. read_then (IsExpression t) (IsForm t) (or_fault CannotAssign equals (suited_to_form form v.expression v.kind)) _
      (read_option (IsExpression t) CannotAssign equals (suited_to_form form v.expression v.kind) (suited_to_fits t form v.expression v.kind h.0))
      (λ x k. (placed.reference, k)))

  area_assigned_fits : (equals : ℕ) (target : Option Beginning) → IsAreaNamed t target → (e : Expression)
      → OnRead (IsForm t) (area_assigned M equals target e)
  area_assigned_fits equals target h e =
      read_then (IsDenoted t) (IsForm t) (denoted M AsValue e) _ (denoted_all t based areas meaning known AsValue e)
      (λ d k. read_option (IsForm t) CannotAssign equals (area_put target d) (put_fits t target h d k))

  -- to what is no aggregate
  one_fits : (equals : ℕ) (target : Referent) → IsReferent t target → (type : ParameterType) → IsParameterType type → (e : Expression)
      → OnRead (IsForm t) (one_assigned M equals target type e)
  one_fits equals target h (Stated d) good e =
      read_if (IsForm t) (is_area d) _ _
      (area_assigned_fits equals (area_meant target.reference (Stated d)) (area_fits t target.reference (Stated d) h.reference) e)
      (scalar_fits equals target h d good e)
  one_fits equals target h (AnyString form) good e = string_fits equals target h form e
  one_fits equals target h type good e = tt

  variable_assigned_fits : (equals : ℕ) (target : Referent) → IsReferent t target → (e : Expression)
      → OnRead (IsForm t) (variable_assigned M equals target e)
  variable_assigned_fits equals target h e =
      read_if (IsForm t) (is_aggregate_type target.description) _ _
      (read_then (IsMeant t) (IsForm t) (meant M AsArgument e) (aggregate_assigned equals target)
      (meant_fits t based areas meaning known AsArgument e) (aggregate_fits t equals target h))
      (one_fits equals target h target.description h.described e)

  assigned_fits : (at equals : ℕ) (d : Denoted) → IsDenoted t d → (e : Expression) → OnRead (IsForm t) (assigned M at equals d e)
  assigned_fits at equals (DenotesVariable target) h e = variable_assigned_fits equals target h e
  assigned_fits at equals (DenotesResult v) h e = tt
  assigned_fits at equals DenotesEmpty h e = tt

  pub assignment_fits : (at : ℕ) (target : Reference) (equals : ℕ) (e : Expression)
      → OnRead (IsForm t) (assignment M at target equals e)
  assignment_fits at target equals e =
      read_then (IsDenoted t) (IsForm t) (referred M AsTarget target) _ (referred_fits t based areas meaning known AsTarget target)
      (λ d h. assigned_fits at equals d h e)

  -- calls
  no_function_fits : (p : NamedProcedure) → IsProcedureNamed t p → (xs : TypedArguments) → Pass t p.parameters xs → (at : ℕ)
      (o : Option Description) → OnRead (IsForm t) (no_function at p.callee o xs)
  no_function_fits p k xs h at None = (k.callee, subst (λ n. n ≤ parameter_limit) (sym h.1) k.few, h.0)
  no_function_fits p k xs h at (Some d) = tt

  call_of_fits : (at : ℕ) (a : NamedAs) → IsMeaning t a → (gs : List Argument) → AreArgumentsGiven t gs → OnRead (IsForm t) (call_of 63 at a gs)
  call_of_fits at (AProcedure p) k gs h =
      read_then (Pass t p.parameters) (IsForm t) (arguments_passed 63 p at gs) _ (arguments_fit t p k at gs h)
      (λ xs fit. no_function_fits p k xs fit at p.returned)
  call_of_fits at other k gs h = tt

  arguments_read : (a : Arguments) → OnRead (AreArgumentsGiven t) (arguments_typed M a)
  arguments_read Absent = tt
  arguments_read (Given list) = list_fits t based areas meaning known [] list

  pub call_fits : (name : Identifier) (a : Arguments) → OnRead (IsForm t) (call_typed M name a)
  call_fits name a =
      read_then (AreArgumentsGiven t) (IsForm t) (arguments_typed M a) _ (arguments_read a)
      (λ gs h. call_of_fits name.at (meaning name.at) (known name.at) gs h)

  -- returns, where few BEGIN blocks are left, and what is returned is described
  module _ (there : (block : ℕ) → IsAreaNamed t (areas block)) (su : Surroundings) (near : su.begins ≤ link_limit)
      (good : IfThere IsDescription su.value) where
    without_value : (at : ℕ) (b : Bool) → OnRead (IsForm t) (if b then Ok (typed.Return su.begins) else at_fault WrongReturn at)
    without_value at true = near
    without_value at false = tt

    -- the area that RETURNS names here
    around_there : (o : Option Enclosing) → IsAreaNamed t (option_and_then (λ (b : Enclosing). areas b.number) o)
    around_there None = tt
    around_there (Some b) = there b.number

    here_there : IsAreaNamed t (area_here M su)
    here_there = around_there (slice_get su.blocks su.begins)

    with_value : (at first : ℕ) (v : TypedValue) → IsValue t v → (o : Option Description) → IfThere IsDescription o
        → OnRead (IsForm t) (returned_value 63 (area_here M su) at first su.begins o v)
    with_value at first v h None g = tt
    with_value at first v h (Some d) g =
        let area : Option Beginning = area_here M su in
        read_then (IsExpression t) (IsForm t) (or_fault CannotAssign first (converted 63 area d v)) _
        (read_option (IsExpression t) CannotAssign first (converted 63 area d v) (converted_fits t area here_there d v g h)) (λ x k. (near, k))

    pub return_fits : (at : ℕ) (v : Option Expression) → OnRead (IsForm t) (return_typed M su at v)
    return_fits at None = without_value at (is_none su.value)
    return_fits at (Some e) =
        read_then (IsValue t) (IsForm t) (value_of M e) _ (value_of_fits t based areas meaning known e)
        (λ v h. with_value at (first_token e) v h su.value good)

  -- jumps, where few blocks are around
  module _ (su : Surroundings) (few : length su.blocks ≤ link_limit) where
    jump_found : (label : ℕ) (o : Option ℕ) → label_found su.blocks label ≡ o → OnGiven (IsForm t) (jump_to label o)
    jump_found label None e = tt
    jump_found label (Some outward) e = omega (arith, label_near t su.blocks label outward e, few)

    jump_fits : (a : NamedAs) → OnGiven (IsForm t) (jump su a)
    jump_fits (ALabel statement) = jump_found statement (label_found su.blocks statement) refl
    jump_fits a = tt

    pub goto_fits : (label : Identifier) → OnRead (IsForm t) (goto_typed M su label)
    goto_fits label = read_option (IsForm t) BadGoto label.at (jump su (meaning label.at)) (jump_fits (meaning label.at))

  -- groups with a control variable
  limit_fits : (e : Expression) → OnRead (IsExpression t) (limit M e)
  limit_fits e =
      read_then (IsValue t) (IsExpression t) (value_of M e) _ (value_of_fits t based areas meaning known e)
      (λ v h. read_option (IsExpression t) WrongOperandType (first_token e) (number_of 63 v)
      (given_made (IsExpression t) (λ p. v.expression) (precision_of 63 v.kind) (λ p. h.0)))

  possible_limit_fits : (o : Option Expression) → OnRead (IfThere (IsExpression t)) (possible_limit M o)
  possible_limit_fits None = tt
  possible_limit_fits (Some e) =
      read_then (IsExpression t) (IfThere (IsExpression t)) (limit M e) _ (limit_fits e) (λ x h. h)

  limits_fit : (range : Option Range) → OnRead (IsRange t) (limits M range)
  limits_fit (Some (tree.To to by)) =
      read_then (IsExpression t) (IsRange t) (limit M to) _ (limit_fits to)
      (λ x h. read_then (IfThere (IsExpression t)) (IsRange t) (possible_limit M by) _ (possible_limit_fits by) (λ y k. (h, k)))
  limits_fit (Some (tree.By by to)) =
      read_then (IsExpression t) (IsRange t) (limit M by) _ (limit_fits by)
      (λ x h. read_then (IfThere (IsExpression t)) (IsRange t) (possible_limit M to) _ (possible_limit_fits to) (λ y k. (h, k)))
  limits_fit (Some (tree.Repeat next)) = tt
  limits_fit None = tt

  control_fits : (at : ℕ) (r : Referent) (b : Bool) → IsReferent t r → OnRead (IsReferent t) (suited_control at r b)
  control_fits at r true h = h
  control_fits at r false h = tt

  controls_fit : (at : ℕ) (is_located : Bool) (range : TypedRange) (d : Denoted) → IsDenoted t d
      → OnRead (IsReferent t) (controls at is_located range d)
  controls_fit at is_located range (DenotesVariable r) h =
      read_if (IsReferent t) (without_subscripts r.reference && not is_located && not (is_area_type r.description)) _ _ (control_fits at r (suits_range r.description range) h) tt
  controls_fit at is_located range (DenotesResult v) h = tt
  controls_fit at is_located range DenotesEmpty h = tt

  possible_condition_fits : (o : Option Expression) → OnRead (IfThere (IsExpression t)) (possible_condition M o)
  possible_condition_fits None = tt
  possible_condition_fits (Some e) =
      read_then (IsExpression t) (IfThere (IsExpression t)) (condition M e) _ (condition_fits e) (λ x h. h)

  -- what REPEAT gives
  turned_fits : (area : Option Beginning) → IsAreaNamed t area → (v : TypedValue) → IsValue t v → (type : ParameterType) → IsParameterType type
      → OnGiven (IsRange t) (turned 63 area v type)
  turned_fits area named v h (Stated d) good =
      given_map (IsExpression t) (IsRange t) typed.Repeated (converted 63 area d v) (λ x k. k) (converted_fits t area named d v good h)
  turned_fits area named v h (AnyString form) good =
      given_map (IsExpression t) (IsRange t) typed.RepeatedString (suited_to_form form v.expression v.kind) (λ x k. k)
      (suited_to_fits t form v.expression v.kind h.0)
  turned_fits area named v h type good = tt

  next_fits : (r : Referent) → IsReferent t r → (e : Expression) → OnRead (IsRange t) (next_value M r e)
  next_fits r placed e =
      read_then (IsValue t) (IsRange t) (value_of M e) _ (value_of_fits t based areas meaning known e)
      (λ v h. read_option (IsRange t) CannotAssign (first_token e) (turned 63 r.area v r.description)
      (turned_fits r.area placed.area v h r.description placed.described))

  turns_fit : (r : Referent) → IsReferent t r → (kept : TypedRange) (range : Option Range) → IsRange t kept
      → OnRead (IsRange t) (with_repeat M r kept range)
  turns_fit r placed kept (Some (tree.Repeat next)) h = next_fits r placed next
  turns_fit r placed kept (Some (tree.To to by)) h = h
  turns_fit r placed kept (Some (tree.By by to)) h = h
  turns_fit r placed kept None h = h

  pub iteration_fits : (temporary : ℕ) (variable : Reference) (equals : ℕ) (first : Expression) (range : Option Range)
      (tested : Option Expression)
      → OnRead (IsIteration t) (iteration M temporary variable equals first range tested)
  iteration_fits temporary variable equals first range tested =
      read_then (IsValue t) (IsIteration t) (value_of M first) _ (value_of_fits t based areas meaning known first)
      (λ v h. read_then (IsRange t) (IsIteration t) (limits M range) _ (limits_fit range)
      (λ kept k. read_then (IsDenoted t) (IsIteration t) (referred M AsLocator variable) _ (referred_fits t based areas meaning known AsLocator variable)
      (λ d g. read_then (IsReferent t) (IsIteration t) (controls (own_token variable) (has_locator variable) kept d) _
      (controls_fit (own_token variable) (has_locator variable) kept d g)
      (λ r m. read_then (IsConversion t) (IsIteration t) (or_fault CannotAssign equals (conversion_to 63 r.area r.description v.kind)) _
      (read_option (IsConversion t) CannotAssign equals (conversion_to 63 r.area r.description v.kind)
      (conversion_to_fits t r.area m.area r.description v.kind m.described h.1))
      (λ converts c. read_then (IfThere (IsExpression t)) (IsIteration t) (possible_condition M tested) _ (possible_condition_fits tested)
      (λ x w. read_then (IsRange t) (IsIteration t) (with_repeat M r kept range) _ (turns_fit r m kept range k)
      (λ turns s. (m.reference, c, unconverted_fits t r.description v h, s, w))))))))
