-- Built-in functions give values of their types.
use Rattle.std.specs.Prelude.{◌≡◌, ℕ, zero, suc, ◌-◌, ◌≤◌, max, nat_le, ℤ, unsigned_abs, Bool, true, false, ◌&&◌, IsTrue}
use Rattle.std.specs.Prelude.{Option, Some, None, option_map, option_and_then, List, [], ◌∷◌, slice_get, refl, if◌then◌else◌}
use Rattle.std.proofs.Common.{arith}
use Rattle.std.proofs.lemmas.Bool.{and_parts, leb-true, false≢true}
use Rattle.pli_map.specs.Description.{Area, Array}
use Rattle.pli_map.specs.Dimensions.{bound_of}
use Rattle.pli_map.specs.ParameterTypes.{ParameterType, Stated, AnyArray, ArrayOf}
use Rattle.pli_map.specs.declared.description.Bounds.{Bounds}
use Rattle.pli_map.specs.declared.dimension.WhichBound.{WhichBound}
use Rattle.pli_map.specs.declared.dimension.WhichBound.TheVariants.{Low, High}
use Rattle.pli_operation.specs.declared.operation.Operation.{Operation}
use Rattle.pli_operation.specs.declared.operation.Operation.TheVariants.{Absolute, Sign, LengthOf, Greatest, Least, Modulo, Divide, Index, Rest, Substring}
use Rattle.pli_declare.specs.declared.built_in.BuiltInFunction.{BuiltInFunction}
use Rattle.pli_declare.specs.declared.built_in.BuiltInFunction.TheVariants as functions
use Rattle.pli_type_rules.specs.ExpressionTypes.{TypedValue, precision_of, precisions, all_operands}
use Rattle.pli_type_rules.specs.FunctionCalls.{Meant, OneValue, WholeAggregate, meant_as, Argument, calculation, of_values, string_kind, of_one_kind}
use Rattle.pli_type_rules.specs.Beginnings.{area_meant, whole_at}
use Rattle.pli_type_rules.specs.FunctionCalls.{Denoted, DenotesVariable, DenotesResult, DenotesEmpty, a_count, bound_value, bound_among, bound_there, bound_in, the_bound, generations_in, generations_of, address_in, address_of, value_in, values_in}
use Rattle.pli_type_rules.specs.FunctionCalls.{area_of, offset_within, pointer_within, located_within, divided, of_arguments, function_called}
use Rattle.pli_type_rules.specs.NamedUnits.{are_bounds, may_be}
use Rattle.pli_type_rules.specs.References.{Role}
use Rattle.pli_type_rules.specs.TypingSteps.{with_number, number_type, or_bad_argument}
use Rattle.pli_type_rules.specs.declared.beginning.Beginning.{Beginning}
use Rattle.pli_type_rules.specs.declared.expression_type.ExpressionType.{ExpressionType}
use Rattle.pli_type_rules.specs.declared.expression_type.ExpressionType.TheVariants as types
use Rattle.pli_type_laws.proofs.Conversions.{OnGiven, given_if}
use Rattle.pli_type_laws.proofs.Denotations.{OnRead, IsOfWhole, IsMeant, IsDenoted, AreArguments, denoted_meant}
use Rattle.pli_type_laws.proofs.Operators.{HasValue, has_precision, have_precisions, of_one, of_two, AreNumbers}
use Rattle.pli_type_laws.specs.ExpressionTyping.{HasType, IsNumber}
use Rattle.pli_type_laws.specs.NameFacts.{IsAreaNamed}
use Rattle.pli_type_laws.proofs.AreasNamed.{root_named}
use Rattle.pli_type_laws.proofs.PlainDescriptions.{bounds_near}
use Rattle.pli_program.specs.declared.kind.VariableKind.TheVariants.{Controlled}
use Rattle.pli_type_tree.specs.laws.GlobalLaws.{described_parts}
use Rattle.pli_type_tree.specs.TypedTree.{NewestOf, Operate, TypedExpression, Calculated, TypedReference, Whole}
use Rattle.pli_type_tree.specs.ValueTypes.{ValueType, Numbers, OfCharacters, OfBits, Computes}
use Rattle.pli_type_tree.specs.WellTyped.{TypingContext, IsTyped, IsPlaced, IsAreaReference, AreNear}
use Rattle.pli_value.specs.declared.locator.Locator.TheVariants as locators

abbrev pub AreValues : TypingContext → List TypedValue → Type 0
AreValues s [] = Unit {0}
AreValues s (v ∷ vs) = HasValue s v × AreValues s vs

module _ (s : TypingContext) where
  -- one number becomes another
  of_number : (operation : Operation) (v : TypedValue) (o : Option ℕ) (kind : ℕ → ExpressionType)
      → ((P : ℕ) → IsNumber s v.expression P → HasType s (Calculated (Operate operation) (all_operands (v.expression ∷ []))) (kind P))
      → OnGiven (IsNumber s v.expression) o
      → OnGiven (HasValue s) (calculation (Some operation) (option_map kind o) (v.expression ∷ []))
  of_number operation v (Some P) kind made h = made P h
  of_number operation v None kind made h = tt

  of_sign : (v : TypedValue) (o : Option ℕ) → OnGiven (IsNumber s v.expression) o
      → OnGiven (HasValue s) (calculation (Some Sign) (with_number (Some a_count) o) (v.expression ∷ []))
  of_sign v (Some P) h = (1, of_one s (Operate Sign) v.expression _ _ h.1 (h.0, refl, refl), (omega arith, omega arith, omega arith))
  of_sign v None h = tt

  of_length : (e : TypedExpression) (kind : ExpressionType) → HasType s e kind
      → OnGiven (HasValue s) (calculation (Some LengthOf) (option_map (λ k. a_count) (string_kind kind)) (e ∷ []))
  of_length e types.Characters h =
      (15, of_one s (Operate LengthOf) e _ _ h.2 (OfCharacters, h.0, h.1, refl, (h.3, refl)), (omega arith, omega arith, omega arith))
  of_length e types.Bits h =
      (15, of_one s (Operate LengthOf) e _ _ h.2 (OfBits, h.0, h.1, refl, (h.3, refl)), (omega arith, omega arith, omega arith))
  of_length e other h = tt

  -- two numbers
  of_numbers : (operation : Operation) (v w : TypedValue) (o : Option (ℕ × ℕ)) (kind : ℕ × ℕ → ExpressionType)
      → ((ps : ℕ × ℕ) → AreNumbers s v.expression w.expression ps
      → HasType s (Calculated (Operate operation) (all_operands (v.expression ∷ w.expression ∷ []))) (kind ps))
      → OnGiven (AreNumbers s v.expression w.expression) o
      → OnGiven (HasValue s) (calculation (Some operation) (option_map kind o) (v.expression ∷ w.expression ∷ []))
  of_numbers operation v w (Some ps) kind made h = made ps h
  of_numbers operation v w None kind made h = tt

  greater_number : (operation : Operation)
      → ((p q : ℕ) → Computes 63 operation (Numbers p ∷ Numbers q ∷ []) (Numbers (max p q))) → (v w : TypedValue)
      → HasValue s v → HasValue s w
      → OnGiven (HasValue s)
      (calculation (Some operation) (option_map (λ ps. number_type (max ps.0 ps.1)) (precisions 63 v.kind w.kind))
      (v.expression ∷ w.expression ∷ []))
  greater_number operation operates v w a b =
      of_numbers operation v w (precisions 63 v.kind w.kind) (λ ps. number_type (max ps.0 ps.1))
      (λ ps h. (
        max h.0.0 h.1.0,
        of_two s operation v.expression w.expression _ _ _ h.0.1 h.1.1 (operates h.0.0 h.1.0),
        (omega (arith, h.0.2.0, h.1.2.0), omega (arith, h.0.2.1, h.1.2.1), omega (arith, h.0.2.2, h.1.2.2)),
      )) (have_precisions s v w a b)

  of_modulo : (v w : TypedValue) → HasValue s v → HasValue s w
      → OnGiven (HasValue s)
      (calculation (Some Modulo) (option_map (λ ps. number_type ps.1) (precisions 63 v.kind w.kind))
      (v.expression ∷ w.expression ∷ []))
  of_modulo v w a b =
      of_numbers Modulo v w (precisions 63 v.kind w.kind) (λ ps. number_type ps.1)
      (λ ps h. (
        h.1.0,
        of_two s Modulo v.expression w.expression _ _ _ h.0.1 h.1.1 (h.0.0, h.1.0, refl, refl),
        h.1.2,
      )) (have_precisions s v w a b)

  -- strings
  of_index : (e : TypedExpression) (one : ExpressionType) (f : TypedExpression) (other : ExpressionType)
      → HasType s e one → HasType s f other
      → OnGiven (HasValue s) (calculation (Some Index) (option_map (λ k. a_count) (of_one_kind one other)) (e ∷ f ∷ []))
  of_index e types.Characters f types.Characters a b = (
    15,
    of_two s Index e f _ _ _ a.2 b.2 (OfCharacters, a.0, a.1, b.0, b.1, refl, (a.3, refl)),
    (omega arith, omega arith, omega arith),
  )
  of_index e types.Bits f types.Bits a b = (
    15,
    of_two s Index e f _ _ _ a.2 b.2 (OfBits, a.0, a.1, b.0, b.1, refl, (a.3, refl)),
    (omega arith, omega arith, omega arith),
  )
  of_index e one f other a b = tt

  rest_of : (e : TypedExpression) (one : ExpressionType) (f : TypedExpression) (o : Option ℕ)
      → HasType s e one → OnGiven (IsNumber s f) o
      → OnGiven (HasValue s) (calculation (Some Rest) (with_number (string_kind one) o) (e ∷ f ∷ []))
  rest_of e types.Characters f (Some P) a b =
      (0, a.1, of_two s Rest e f _ _ _ a.2 b.1 (OfCharacters, a.0, a.1, b.0, refl, refl), a.3)
  rest_of e types.Bits f (Some P) a b =
      (0, a.1, of_two s Rest e f _ _ _ a.2 b.1 (OfBits, a.0, a.1, b.0, refl, refl), a.3)
  rest_of e other f (Some P) a b = tt
  rest_of e one f None a b = tt

  of_three : (operation : Operation) (e f g : TypedExpression) (t u v r : ValueType) → IsTyped 63 s e t
      → IsTyped 63 s f u → IsTyped 63 s g v → Computes 63 operation (t ∷ u ∷ v ∷ []) r
      → IsTyped 63 s (Calculated (Operate operation) (all_operands (e ∷ f ∷ g ∷ []))) r
  of_three operation e f g t u v r one two three operates =
      (t ∷ u ∷ v ∷ [], (t, u ∷ v ∷ [], refl, one, (u, v ∷ [], refl, two, (v, [], refl, three, refl))), operates)

  part_of_string : (e : TypedExpression) (one : ExpressionType) (f : TypedExpression) (o : Option ℕ)
      (g : TypedExpression) (q : Option ℕ) → HasType s e one → OnGiven (IsNumber s f) o → OnGiven (IsNumber s g) q
      → OnGiven (HasValue s)
      (calculation (Some Substring) (with_number (with_number (string_kind one) o) q) (e ∷ f ∷ g ∷ []))
  part_of_string e types.Characters f (Some P) g (Some Q) a b c =
      (0, a.1, of_three Substring e f g _ _ _ _ a.2 b.1 c.1 (OfCharacters, a.0, a.1, b.0, c.0, refl, refl), a.3)
  part_of_string e types.Bits f (Some P) g (Some Q) a b c =
      (0, a.1, of_three Substring e f g _ _ _ _ a.2 b.1 c.1 (OfBits, a.0, a.1, b.0, c.0, refl, refl), a.3)
  part_of_string e other f (Some P) g (Some Q) a b c = tt
  part_of_string e one f None g (Some Q) a b c = tt
  part_of_string e one f o g None a b c = tt

  -- functions of values
  values_have_type : (function : BuiltInFunction) (vs : List TypedValue) → AreValues s vs
      → OnGiven (HasValue s) (of_values 63 function vs)
  values_have_type functions.Abs (v ∷ []) h =
      of_number Absolute v (precision_of 63 v.kind) number_type
      (λ P n. (n.0, of_one s (Operate Absolute) v.expression _ _ n.1 (n.0, refl, refl), n.2))
      (has_precision s v.expression v.kind h.0)
  values_have_type functions.Sign (v ∷ []) h =
      of_sign v (precision_of 63 v.kind) (has_precision s v.expression v.kind h.0)
  values_have_type functions.Length (v ∷ []) h = of_length v.expression v.kind h.0
  values_have_type functions.Max (v ∷ w ∷ []) h =
      greater_number Greatest (λ p q. (p, q, refl, refl)) v w h.0 h.1.0
  values_have_type functions.Min (v ∷ w ∷ []) h = greater_number Least (λ p q. (p, q, refl, refl)) v w h.0 h.1.0
  values_have_type functions.Mod (v ∷ w ∷ []) h = of_modulo v w h.0 h.1.0
  values_have_type functions.Index (v ∷ w ∷ []) h = of_index v.expression v.kind w.expression w.kind h.0 h.1.0
  values_have_type functions.Substring (v ∷ w ∷ []) h =
      rest_of v.expression v.kind w.expression (precision_of 63 w.kind) h.0 (has_precision s w.expression w.kind h.1.0)
  values_have_type functions.Substring (v ∷ w ∷ x ∷ []) h =
      part_of_string v.expression v.kind w.expression (precision_of 63 w.kind) x.expression (precision_of 63 x.kind)
      h.0 (has_precision s w.expression w.kind h.1.0) (has_precision s x.expression x.kind h.1.1.0)
  values_have_type function vs h = tt

  -- DIVIDE
  quotient_of : (v w : TypedValue) (precision : ℕ) (b : Bool) → (b ≡ true → precision ≤ 63)
      → HasValue s v → HasValue s w
      → OnGiven (HasValue s)
      (calculation (Some (Divide precision))
      (if b then option_map (λ ps. number_type precision) (precisions 63 v.kind w.kind) else None)
      (v.expression ∷ w.expression ∷ []))
  quotient_of v w precision true few a b =
      of_numbers (Divide precision) v w (precisions 63 v.kind w.kind) (λ ps. number_type precision)
      (λ ps h. (
        precision,
        of_two s (Divide precision) v.expression w.expression _ _ _ h.0.1 h.1.1 (h.0.0, h.1.0, refl, refl),
        (omega arith, few refl, few refl),
      )) (have_precisions s v w a b)
  quotient_of v w precision false few a b = tt

  division : (x y : Meant) (written : Option ℕ) → IsMeant s x → IsMeant s y
      → OnGiven (HasValue s) (divided 63 x y written)
  division (OneValue v) (OneValue w) None a b = tt
  division (OneValue v) (OneValue w) (Some precision) a b =
      quotient_of v w precision (nat_le 1 precision && nat_le precision 63)
      (λ e. leb-true precision 63 ((and_parts _ _ e).1)) a b
  division (OneValue v) (WholeAggregate r) written a b = tt
  division (WholeAggregate r) y written a b = tt

  -- bounds
  abbrev IsSmall : ℤ → Type 0
  IsSmall x = unsigned_abs x ≤ 32768

  bound_typed : (x : ℤ) → IsSmall x → HasValue s (bound_value x)
  bound_typed x small =
      (16, (x, refl, omega (arith, small)), (omega arith, omega arith, omega arith))

  bound_near : (which : WhichBound) (b : Bounds) → IsSmall b.low → IsSmall b.high → IsSmall (bound_of which b)
  bound_near Low b low high = low
  bound_near High b low high = high

  bound_at : (which : WhichBound) (bs : List Bounds) (k : ℕ) → AreNear bs
      → OnGiven (HasValue s) (option_map (λ b. bound_value (bound_of which b)) (slice_get bs k))
  bound_at which [] k h = tt
  bound_at which (b ∷ bs) zero h = bound_typed (bound_of which b) (bound_near which b h.0 h.1)
  bound_at which (b ∷ bs) (suc k) h = bound_at which bs k h.2

  -- one that is stated
  among_typed : (which : WhichBound) (number : ℕ) (bs : List Bounds) → are_bounds bs ≡ true
      → OnGiven (HasValue s) (bound_among which number bs)
  among_typed which number bs near =
      given_if (HasValue s) (nat_le 1 number) _ (bound_at which bs (number - 1) (bounds_near bs near))

  -- one that is the argument's
  there_typed : (which : WhichBound) (number : ℕ) (r : TypedReference) (dimensions : ℕ) (element : ParameterType)
      → IsPlaced 63 s r (AnyArray dimensions element) → (b : Bool) → (nat_le 1 number && nat_le number dimensions) ≡ b
      → OnGiven (HasValue s) (if b then Some (bound_there which number r) else None)
  there_typed which number r dimensions element placed true e =
      let both = and_parts (nat_le 1 number) (nat_le number dimensions) e in (
        16,
        ((dimensions, element, placed, leb-true 1 number both.0, leb-true number dimensions both.1), refl),
        (omega arith, omega arith, omega arith),
      )
  there_typed which number r dimensions element placed false e = tt

  bound_within : (which : WhichBound) (number : ℕ) (r : TypedReference) (type : ParameterType) → IsPlaced 63 s r type
      → IsTrue (may_be 63 type) → OnGiven (HasValue s) (bound_in which number r type)
  bound_within which number r (Stated (Array [] element)) placed may = absurd (false≢true may)
  bound_within which number r (Stated (Array (b ∷ bs) element)) placed may =
      among_typed which number (b ∷ bs) ((and_parts _ _ ((and_parts _ _ may).0)).1)
  bound_within which number r (ArrayOf bounds element) placed may =
      among_typed which number bounds ((and_parts _ _ ((and_parts _ _ may).0)).1)
  bound_within which number r (AnyArray dimensions element) placed may =
      there_typed which number r dimensions element placed (nat_le 1 number && nat_le number dimensions) refl
  bound_within which number r type placed may = tt

  whole_bound : (which : WhichBound) (m : Meant) (written : Option ℕ) → IsMeant s m → OnGiven (HasValue s) (the_bound which m written)
  whole_bound which (OneValue v) written h = tt
  whole_bound which (WholeAggregate r) None h = tt
  whole_bound which (WholeAggregate r) (Some number) h = bound_within which number r.reference r.description h.0 h.1

  -- numbers of generations
  generations_typed : (r : TypedReference) (type : ParameterType) → IsPlaced 63 s r type → OnGiven (HasValue s) (generations_in r)
  generations_typed (Whole (NewestOf number)) type placed = (
    15,
    ((described_parts Controlled (slice_get s.globals number) placed.0 placed.2).0, refl),
    (omega arith, omega arith, omega arith),
  )
  generations_typed r type placed = tt

  generations_given : (d : Denoted) → IsDenoted s d → OnGiven (HasValue s) (generations_of d)
  generations_given (DenotesVariable r) h = generations_typed r.reference r.description h.0
  generations_given (DenotesResult v) h = tt
  generations_given DenotesEmpty h = tt

  -- pointers to variables
  address_typed : (passed : Bool) (r : TypedReference) → (passed ≡ false → IsOfWhole s r)
      → OnGiven (HasValue s) (address_in passed r)
  address_typed false (Whole root) own = (own refl, refl)
  address_typed passed r own = tt

  address_given : (d : Denoted) → IsDenoted s d → OnGiven (HasValue s) (address_of d)
  address_given (DenotesVariable r) h = address_typed r.is_parameter r.reference h.2
  address_given (DenotesResult v) h = tt
  address_given DenotesEmpty h = tt

  -- locators in areas
  pub area_typed : (r : TypedReference) (type : ParameterType) → IsPlaced 63 s r type → IsAreaNamed 63 s (area_meant r type)
  area_typed (Whole root) (Stated (Area bytes)) placed = root_named 63 s root (Area bytes) refl placed
  area_typed r type placed = tt

  pub area_given : (d : Denoted) → IsDenoted s d → IsAreaNamed 63 s (area_of d)
  area_given (DenotesVariable r) h = area_typed r.reference r.description h.0
  area_given (DenotesResult v) h = tt
  area_given DenotesEmpty h = tt

  -- what makes something of a locator in an area
  abbrev MakesLocator : ((area : Beginning) → TypedExpression → ExpressionType → Option TypedValue) → Type 0
  MakesLocator make =
      (area : Beginning) → IsAreaReference 63 s (whole_at area) → (e : TypedExpression) (kind : ExpressionType) → HasType s e kind
      → OnGiven (HasValue s) (make area e kind)

  offset_makes : MakesLocator offset_within
  offset_makes area there e (types.Offset other) h = (h.0, there, refl)
  offset_makes area there e kind h = tt

  pointer_makes : MakesLocator pointer_within
  pointer_makes area there e types.Pointer h = ((h, there, refl), tt)
  pointer_makes area there e types.Null h = ((h, there, refl), tt)
  pointer_makes area there e kind h = tt

  located_typed : (make : (area : Beginning) → TypedExpression → ExpressionType → Option TypedValue) → MakesLocator make → (m : Meant)
      (o : Option Beginning) → IsMeant s m → IsAreaNamed 63 s o → OnGiven (HasValue s) (located_within make m o)
  located_typed make makes (OneValue v) (Some area) h there = makes area there v.expression v.kind h
  located_typed make makes m o h there = tt

  -- arguments that are values
  one_value_in : (m : Meant) → IsMeant s m → OnGiven (HasValue s) (value_in m)
  one_value_in (OneValue v) h = h
  one_value_in (WholeAggregate r) h = tt

  first_and_others : (o : Option TypedValue) (os : Option (List TypedValue)) → OnGiven (HasValue s) o
      → OnGiven (AreValues s) os
      → OnGiven (AreValues s) (option_and_then (λ v. option_map (λ vs. v ∷ vs) os) o)
  first_and_others (Some v) (Some vs) a b = (a, b)
  first_and_others (Some v) None a b = tt
  first_and_others None os a b = tt

  all_values_in : (gs : List Argument) → AreArguments s gs → OnGiven (AreValues s) (values_in gs)
  all_values_in [] h = tt
  all_values_in (g ∷ gs) h =
      first_and_others (value_in (meant_as g.denoted)) (values_in gs)
      (one_value_in (meant_as g.denoted) (denoted_meant s g.denoted h.0)) (all_values_in gs h.1)

  given_values : (function : BuiltInFunction) (o : Option (List TypedValue)) → OnGiven (AreValues s) o
      → OnGiven (HasValue s) (option_and_then (of_values 63 function) o)
  given_values function (Some vs) h = values_have_type function vs h
  given_values function None h = tt

  by_values : (function : BuiltInFunction) (gs : List Argument) → AreArguments s gs
      → OnGiven (HasValue s) (option_and_then (of_values 63 function) (values_in gs))
  by_values function gs h = given_values function (values_in gs) (all_values_in gs h)

  arguments_give : (function : BuiltInFunction) (gs : List Argument) → AreArguments s gs
      → OnGiven (HasValue s) (of_arguments 63 function gs)
  arguments_give functions.Divide (x ∷ y ∷ p ∷ []) h =
      division (meant_as x.denoted) (meant_as y.denoted) p.written (denoted_meant s x.denoted h.0)
      (denoted_meant s y.denoted h.1.0)
  arguments_give functions.LowBound (a ∷ n ∷ []) h =
      whole_bound Low (meant_as a.denoted) n.written (denoted_meant s a.denoted h.0)
  arguments_give functions.HighBound (a ∷ n ∷ []) h =
      whole_bound High (meant_as a.denoted) n.written (denoted_meant s a.denoted h.0)
  arguments_give functions.Allocation (a ∷ []) h = generations_given a.denoted h.0
  arguments_give functions.Address (a ∷ []) h = address_given a.denoted h.0
  arguments_give functions.Null [] h = (locators.Null, refl, refl)
  arguments_give functions.Empty [] h = tt
  arguments_give functions.Pointer (o ∷ a ∷ []) h =
      located_typed offset_within offset_makes (meant_as o.denoted) (area_of a.denoted) (denoted_meant s o.denoted h.0)
      (area_given a.denoted h.1.0)
  arguments_give functions.Offset (p ∷ a ∷ []) h =
      located_typed pointer_within pointer_makes (meant_as p.denoted) (area_of a.denoted) (denoted_meant s p.denoted h.0)
      (area_given a.denoted h.1.0)
  arguments_give function gs h = by_values function gs h

  or_bad : (at : ℕ) (o : Option TypedValue) → OnGiven (HasValue s) o → OnRead (HasValue s) (or_bad_argument at o)
  or_bad at (Some v) h = h
  or_bad at None h = tt

  pub calls_have_type : (function : BuiltInFunction) (at : ℕ) (roles : Option (List Role)) (gs : List Argument)
      → AreArguments s gs → OnRead (HasValue s) (function_called 63 function at roles gs)
  calls_have_type function at None gs h = tt
  calls_have_type function at (Some roles) gs h =
      or_bad at (of_arguments 63 function gs) (arguments_give function gs h)
