-- Operators, conversions and built-in functions of what is within the limits are within them.
use Rattle.std.specs.Prelude.{◌≡◌, ℕ, zero, suc, ◌-◌, ◌≤◌, min, nat_eq, nat_le, ℤ, Bool, true, false, ◌&&◌}
use Rattle.std.specs.Prelude.{Option, Some, None, option_map, option_and_then, List, [], ◌∷◌, ◌++◌, map, length, slice_get, refl, if◌then◌else◌}
use Rattle.std.specs.List.{AllByRecursion}
use Rattle.std.proofs.Common.{arith}
use Rattle.std.proofs.lemmas.Bool.{and_parts, leb-true}
use Rattle.std.proofs.lemmas.List.{length-take}
use Rattle.std.proofs.Math.Nat.{pow-le-pow_right}
use Rattle.pli_base.specs.declared.syntax.ConstantValue.{ConstantValue}
use Rattle.pli_base.specs.declared.syntax.ConstantValue.TheVariants as constants
use Rattle.pli_base.specs.declared.syntax.InfixOperator.{InfixOperator}
use Rattle.pli_base.specs.declared.syntax.InfixOperator.TheVariants as infixes
use Rattle.pli_base.specs.declared.syntax.PrefixOperator.{PrefixOperator}
use Rattle.pli_base.specs.declared.syntax.PrefixOperator.TheVariants as prefixes
use Rattle.pli_map.specs.Description as described
use Rattle.pli_map.specs.Description.{Description, Area, Array}
use Rattle.pli_map.specs.Dimensions.{bound_of}
use Rattle.pli_map.specs.ParameterTypes.{ParameterType, Stated, AnyString, AnyArray, ArrayOf, StructureOf}
use Rattle.pli_map.specs.declared.dimension.WhichBound.{WhichBound}
use Rattle.pli_map.specs.declared.dimension.WhichBound.TheVariants.{Low, High}
use Rattle.pli_map.specs.declared.parameter.StringForm.{StringForm}
use Rattle.pli_map.specs.declared.parameter.StringForm.TheVariants as forms
use Rattle.pli_map.specs.declared.description.Bounds.{Bounds}
use Rattle.pli_operation.specs.declared.operation.Operation.{Operation}
use Rattle.pli_operation.specs.declared.operation.Operation.TheVariants.{ToCharacters, Add, Subtract, Multiply, Divide, Compare, Concatenate, And, Or, Rest, Substring}
use Rattle.pli_operation.specs.declared.operation.Relation.{Relation}
use Rattle.pli_operation.specs.declared.operation.Relation.TheVariants.{Equal, Unequal, Less, AtMost, Greater, AtLeast}
use Rattle.pli_declare.specs.declared.built_in.BuiltInFunction.{BuiltInFunction}
use Rattle.pli_declare.specs.declared.built_in.BuiltInFunction.TheVariants as functions
use Rattle.pli_type_rules.specs.Beginnings.{area_meant, whole_at}
use Rattle.pli_type_rules.specs.ExpressionTypes.{TypedValue, precision_of, precisions, all_operands, binary_digits, constant, within, null_offset, with_one, with_not}
use Rattle.pli_type_rules.specs.ExpressionTypes.{prefix_value, infix_value, on_numbers, sum_precision, product_precision, columns, width_of, decimal_digits}
use Rattle.pli_type_rules.specs.ExpressionTypes.{string_type, string_as, on_strings, as_bits, is_locator, as_pointer, as_offset, are_offsets, locators_compared, locators_beside, compared, comparison, concatenation, of_bits_alone}
use Rattle.pli_type_rules.specs.ExpressionTypes.{number_as_characters, as_characters, only_bits, suited, suited_to_form, converted, string_conversions, bit_conversions, form_conversions, suiting, printed_from}
use Rattle.pli_type_rules.specs.ExpressionTypes.{pointer_conversion, offset_conversion, conversion, conversion_to, null_as_offset, unconverted, type_of}
use Rattle.pli_type_rules.specs.FunctionCalls.{Meant, OneValue, WholeAggregate, meant_as, Argument, Denoted, DenotesVariable, DenotesResult, DenotesEmpty, meant_by}
use Rattle.pli_type_rules.specs.FunctionCalls.{call_type, operation_of, calculation, of_values, bound_value, bound_among, bound_there, bound_in, the_bound, generations_in, generations_of, address_in, address_of}
use Rattle.pli_type_rules.specs.FunctionCalls.{string_kind, of_one_kind, a_count, area_of, offset_within, pointer_within, located_within}
use Rattle.pli_type_rules.specs.FunctionCalls.{value_in, values_in, divided, of_arguments, function_called}
use Rattle.pli_type_rules.specs.References.{Role, Referent}
use Rattle.pli_type_rules.specs.TypingSteps.{with_plus, with_minus, with_number, or_bad_argument, number_type}
use Rattle.pli_type_rules.specs.declared.beginning.Beginning.{Beginning}
use Rattle.pli_type_rules.specs.declared.expression_type.ExpressionType.{ExpressionType}
use Rattle.pli_type_rules.specs.declared.expression_type.ExpressionType.TheVariants as types
use Rattle.pli_type_tree.specs.TypedTree.{InSlot, OfProgram, NewestOf, Located, TypedOperation, Fit, Operate, TypedExpression, ByOperations, ToPlace, TypedReference, Whole, TypedUnit}
use Rattle.pli_type_tree.specs.ValueTypes.{longest}
use Rattle.pli_type_laws.proofs.Constants.{below}
use Rattle.pli_type_laws.proofs.Conversions.{OnGiven, given_if}
use Rattle.pli_type_laws.proofs.Denotations.{OnRead}
use Rattle.pli_type_laws.proofs.Operators.{given_map}
use Rattle.pli_type_bounds.proofs.Meanings.{IsAreaNamed, IsKind, IsValue, IsReferent, IsMeant, IsDenoted, AreArgumentsGiven}
use Rattle.pli_deck_laws.specs.Limits.{IsDescription, IsBound, AreBounds, IsOperation, IsParameterType}
use Rattle.pli_deck_laws.specs.WellFormed.{IsExpression, IsReference, AreOperands, IsConversion}

-- no number becomes more characters than a byte counts
-- whatever it is made from
pub given_made : {A B : Type 0} (Q : B → Type 0) (f : A → B) (o : Option A) → ((x : A) → Q (f x)) → OnGiven Q (option_map f o)
given_made Q f (Some x) g = g x
given_made Q f None g = tt

width_fits : (digits : ℕ) → columns digits ≤ 255
width_fits digits = omega arith

-- the value of a constant is a number of 63 binary digits
number_fits : (p value : ℕ) → p ≤ 63 → within p value ≤ 9223372036854775807
number_fits p value le = omega (arith, below p value, pow-le-pow_right {n = 2} (omega arith) {i = p} {j = 63} le)

module _ (t : TypedUnit) where
  pub constant_fits : (value : ConstantValue) → IsValue t (constant 63 value)
  constant_fits (constants.Decimal value digits) = (number_fits (binary_digits 63 digits) value (omega arith), tt)
  constant_fits (constants.Binary value digits) = (number_fits (min 63 digits) value (omega arith), tt)
  constant_fits (constants.Characters text) = (omega (arith, length-take longest text), tt)
  constant_fits (constants.Bits bits) = (omega (arith, length-take longest bits), tt)

  pub operands_fit : (es : List TypedExpression) → AllByRecursion (IsExpression t) es → AreOperands t (all_operands es)
  operands_fit [] h = tt
  operands_fit (e ∷ es) h = (h.0, operands_fit es h.1)

  -- ---- prefix operators

  plus : (v : TypedValue) (o : Option ℕ) → IsValue t v → OnGiven (IsValue t) (with_plus v o)
  plus v (Some p) h = h
  plus v None h = tt

  minus : (v : TypedValue) (o : Option ℕ) → IsValue t v → OnGiven (IsValue t) (with_minus v o)
  minus v (Some p) h = ((tt, (h.0, tt)), h.1)
  minus v None h = tt

  negation : (e : TypedExpression) (kind : ExpressionType) → IsExpression t e → OnGiven (IsValue t) (with_not e kind)
  negation e types.Bits h = ((tt, (h, tt)), tt)
  negation e other h = tt

  pub prefix_fits : (operator : PrefixOperator) (v : TypedValue) → IsValue t v → OnGiven (IsValue t) (prefix_value 63 operator v)
  prefix_fits prefixes.Plus v h = plus v (precision_of 63 v.kind) h
  prefix_fits prefixes.Minus v h = minus v (precision_of 63 v.kind) h
  prefix_fits prefixes.Not v h = negation v.expression v.kind h.0

  -- ---- infix operators

  numbers_fit : (operation : Operation) (precision : (p q : ℕ) → ℕ) (v w : TypedValue) → IsOperation (Operate operation) → IsValue t v → IsValue t w
      → OnGiven (IsValue t) (on_numbers 63 operation precision v w)
  numbers_fit operation precision v w good a b = given_made (IsValue t) _ (precisions 63 v.kind w.kind) (λ ps. ((good, (a.0, (b.0, tt))), tt))

  string_fits : (e : TypedExpression) (from to : ExpressionType) → IsExpression t e → IsExpression t (string_as e from to)
  string_fits e types.Bits types.Characters h = (tt, (h, tt))
  string_fits e from to h = h

  strings_fit : (operation : Operation) (v w : TypedValue) (kind : ExpressionType) → IsOperation (Operate operation) → IsValue t v → IsValue t w
      → IsExpression t (on_strings operation v w kind)
  strings_fit operation v w kind good a b =
      (good, (string_fits v.expression v.kind kind a.0, (string_fits w.expression w.kind kind b.0, tt)))

  compared_fits : (relation : Relation) (v w : TypedValue) (o : Option ExpressionType) → IsValue t v → IsValue t w
      → OnGiven (IsValue t) (compared 63 relation v w o)
  compared_fits relation v w (Some kind) a b = (strings_fit (Compare relation) v w kind tt a b, tt)
  compared_fits relation v w None a b =
      given_map (IsValue t) (IsValue t) (λ v. as_bits v.expression) (on_numbers 63 (Compare relation) (sum_precision 63) v w) (λ x h. (h.0, tt))
      (numbers_fit (Compare relation) (sum_precision 63) v w tt a b)

  -- locators
  null_offset_fits : IsExpression t null_offset
  null_offset_fits = refl

  pointer_fits : (e : TypedExpression) (kind : ExpressionType) → IsExpression t e → IsKind t kind → OnGiven (IsExpression t) (as_pointer e kind)
  pointer_fits e types.Pointer h k = h
  pointer_fits e types.Null h k = h
  pointer_fits e (types.Offset (Some area)) h k = (k, h)
  pointer_fits e (types.Offset None) h k = tt
  pointer_fits e kind h k = tt

  offset_fits : (area : Option Beginning) → IsAreaNamed t area → (e : TypedExpression) (kind : ExpressionType) → IsExpression t e
      → OnGiven (IsExpression t) (as_offset area e kind)
  offset_fits None there e (types.Offset other) h = h
  offset_fits (Some area) there e (types.Offset other) h = h
  offset_fits None there e types.Null h = null_offset_fits
  offset_fits (Some area) there e types.Null h = null_offset_fits
  offset_fits (Some area) there e types.Pointer h = (there, h)
  offset_fits area there e kind h = tt

  locators_fit : (relation : Relation) (o q : Option TypedExpression) → OnGiven (IsExpression t) o → OnGiven (IsExpression t) q
      → OnGiven (IsValue t) (locators_compared relation o q)
  locators_fit Equal (Some e) (Some f) a b = ((tt, (a, (b, tt))), tt)
  locators_fit Unequal (Some e) (Some f) a b = ((tt, (a, (b, tt))), tt)
  locators_fit Equal (Some e) None a b = tt
  locators_fit Unequal (Some e) None a b = tt
  locators_fit Equal None q a b = tt
  locators_fit Unequal None q a b = tt
  locators_fit relation o q a b = tt

  beside_fits : (relation : Relation) (v w : TypedValue) → IsValue t v → IsValue t w → OnGiven (IsValue t) (locators_beside relation v w)
  beside_fits relation v w a b = by (are_offsets v.kind w.kind)
    where
      by : (c : Bool)
          → OnGiven (IsValue t)
          (if c then locators_compared relation (as_offset None v.expression v.kind) (as_offset None w.expression w.kind)
          else locators_compared relation (as_pointer v.expression v.kind) (as_pointer w.expression w.kind))
      by true =
          locators_fit relation (as_offset None v.expression v.kind) (as_offset None w.expression w.kind)
          (offset_fits None tt v.expression v.kind a.0) (offset_fits None tt w.expression w.kind b.0)
      by false =
          locators_fit relation (as_pointer v.expression v.kind) (as_pointer w.expression w.kind)
          (pointer_fits v.expression v.kind a.0 a.1) (pointer_fits w.expression w.kind b.0 b.1)

  comparison_fits : (relation : Relation) (v w : TypedValue) → IsValue t v → IsValue t w → OnGiven (IsValue t) (comparison 63 relation v w)
  comparison_fits relation v w a b = by (is_locator v.kind && is_locator w.kind)
    where
      by : (c : Bool) → OnGiven (IsValue t) (if c then locators_beside relation v w
          else compared 63 relation v w (string_type v.kind w.kind))
      by true = beside_fits relation v w a b
      by false = compared_fits relation v w (string_type v.kind w.kind) a b

  -- strings are of a kind that names no area
  strings_are : (a b : ExpressionType) → OnGiven (IsKind t) (string_type a b)
  strings_are types.Characters types.Characters = tt
  strings_are types.Characters types.Bits = tt
  strings_are types.Bits types.Characters = tt
  strings_are types.Bits types.Bits = tt
  strings_are a b = tt

  concatenation_fits : (v w : TypedValue) → IsValue t v → IsValue t w → OnGiven (IsValue t) (concatenation v w)
  concatenation_fits v w a b =
      given_map (IsKind t) (IsValue t) _ (string_type v.kind w.kind) (λ kind k. (strings_fit Concatenate v w kind tt a b, k))
      (strings_are v.kind w.kind)

  bits_fit : (operation : Operation) (e f : TypedExpression) (one other : ExpressionType) → IsOperation (Operate operation) → IsExpression t e → IsExpression t f
      → OnGiven (IsValue t) (of_bits_alone operation e f one other)
  bits_fit operation e f types.Bits types.Bits good a b = ((good, (a, (b, tt))), tt)
  bits_fit operation e f one other good a b = tt

  pub infix_fits : (operator : InfixOperator) (v w : TypedValue) → IsValue t v → IsValue t w → OnGiven (IsValue t) (infix_value 63 operator v w)
  infix_fits infixes.Add v w a b = numbers_fit Add (sum_precision 63) v w tt a b
  infix_fits infixes.Subtract v w a b = numbers_fit Subtract (sum_precision 63) v w tt a b
  infix_fits infixes.Multiply v w a b = numbers_fit Multiply (product_precision 63) v w tt a b
  infix_fits infixes.Equal v w a b = comparison_fits Equal v w a b
  infix_fits infixes.NotEqual v w a b = comparison_fits Unequal v w a b
  infix_fits infixes.Less v w a b = comparison_fits Less v w a b
  infix_fits infixes.LessOrEqual v w a b = comparison_fits AtMost v w a b
  infix_fits infixes.Greater v w a b = comparison_fits Greater v w a b
  infix_fits infixes.GreaterOrEqual v w a b = comparison_fits AtLeast v w a b
  infix_fits infixes.Concatenate v w a b = concatenation_fits v w a b
  infix_fits infixes.And v w a b = bits_fit And v.expression w.expression v.kind w.kind tt a.0 b.0
  infix_fits infixes.Or v w a b = bits_fit Or v.expression w.expression v.kind w.kind tt a.0 b.0

  -- ---- conversions

  with_width : (e : TypedExpression) (o : Option ℕ) → OnGiven (λ width. width ≤ 255) o → IsExpression t e
      → OnGiven (IsExpression t) (number_as_characters e o)
  with_width e (Some width) few h = (few, (h, tt))
  with_width e None few h = tt

  widths : (kind : ExpressionType) → OnGiven (λ width. width ≤ 255) (width_of kind)
  widths (types.FixedDecimal digits) = width_fits digits
  widths (types.FixedBinary precision) = width_fits (decimal_digits precision)
  widths types.Characters = tt
  widths types.Bits = tt
  widths types.Pointer = tt
  widths types.Null = tt
  widths (types.Offset area) = tt
  widths types.Area = tt

  characters_fit : (e : TypedExpression) (kind : ExpressionType) → IsExpression t e → OnGiven (IsExpression t) (as_characters e kind)
  characters_fit e types.Characters h = h
  characters_fit e types.Bits h = (tt, (h, tt))
  characters_fit e other h = with_width e (width_of other) (widths other) h

  only_bits_fit : (e : TypedExpression) (kind : ExpressionType) → IsExpression t e → OnGiven (IsExpression t) (only_bits e kind)
  only_bits_fit e types.Bits h = h
  only_bits_fit e other h = tt

  suited_fits : (d : Description) (e : TypedExpression) (kind : ExpressionType) → IsExpression t e → OnGiven (IsExpression t) (suited 63 d e kind)
  suited_fits (described.FixedBinary p) e kind h = given_made (IsExpression t) (λ p. e) (precision_of 63 kind) (λ p. h)
  suited_fits (described.Character k) e kind h = characters_fit e kind h
  suited_fits (described.Varying k) e kind h = characters_fit e kind h
  suited_fits (described.Bit k) e kind h = only_bits_fit e kind h
  suited_fits other e kind h = tt

  -- for a string of any length
  pub suited_to_fits : (form : StringForm) (e : TypedExpression) (kind : ExpressionType) → IsExpression t e → OnGiven (IsExpression t) (suited_to_form form e kind)
  suited_to_fits forms.Character e kind h = characters_fit e kind h
  suited_to_fits forms.Varying e kind h = characters_fit e kind h
  suited_to_fits forms.Bit e kind h = only_bits_fit e kind h

  pub converted_fits : (area : Option Beginning) → IsAreaNamed t area → (d : Description) (v : TypedValue) → IsDescription d → IsValue t v
      → OnGiven (IsExpression t) (converted 63 area d v)
  converted_fits area there described.Pointer v good h = pointer_fits v.expression v.kind h.0 h.1
  converted_fits area there described.Offset v good h = offset_fits area there v.expression v.kind h.0
  converted_fits area there d v good h =
      given_map (IsExpression t) (IsExpression t) (with_one (Fit d)) (suited 63 d v.expression v.kind) (λ e k. (good, (k, tt)))
      (suited_fits d v.expression v.kind h.0)

  pub printed_fits : (e : TypedExpression) (kind : ExpressionType) → IsExpression t e → OnGiven (IsExpression t) (printed_from e kind)
  printed_fits e types.Characters h = h
  printed_fits e types.Bits h = h
  printed_fits e other h = with_width e (width_of other) (widths other) h

  -- operations of a conversion
  as_operation : (o : Option ℕ) → OnGiven (λ width. width ≤ 255) o
      → OnGiven (AllByRecursion IsOperation) (option_map (λ width. Operate (ToCharacters width) ∷ []) o)
  as_operation (Some width) few = (few, tt)
  as_operation None few = tt

  string_operations : (kind : ExpressionType) → OnGiven (AllByRecursion IsOperation) (string_conversions kind)
  string_operations types.Characters = tt
  string_operations types.Bits = (tt, tt)
  string_operations other = as_operation (width_of other) (widths other)

  bit_operations : (kind : ExpressionType) → OnGiven (AllByRecursion IsOperation) (bit_conversions kind)
  bit_operations types.Bits = tt
  bit_operations other = tt

  suiting_operations : (d : Description) (kind : ExpressionType) → OnGiven (AllByRecursion IsOperation) (suiting 63 d kind)
  suiting_operations (described.FixedBinary p) kind = given_made (AllByRecursion IsOperation) (λ p. []) (precision_of 63 kind) (λ p. tt)
  suiting_operations (described.Character k) kind = string_operations kind
  suiting_operations (described.Varying k) kind = string_operations kind
  suiting_operations (described.Bit k) kind = bit_operations kind
  suiting_operations other kind = tt

  then_fitted : (d : Description) (operations : List TypedOperation) → IsDescription d → AllByRecursion IsOperation operations
      → AllByRecursion IsOperation (operations ++ Fit d ∷ [])
  then_fitted d [] good h = (good, tt)
  then_fitted d (o ∷ os) good h = (h.0, then_fitted d os good h.1)

  -- a locator is converted by an area, or not at all
  to_pointer : (kind : ExpressionType) → IsKind t kind → OnGiven (IsConversion t) (pointer_conversion kind)
  to_pointer types.Pointer k = tt
  to_pointer types.Null k = tt
  to_pointer (types.Offset (Some area)) k = k
  to_pointer (types.Offset None) k = tt
  to_pointer kind k = tt

  to_offset : (area : Option Beginning) → IsAreaNamed t area → (kind : ExpressionType) → OnGiven (IsConversion t) (offset_conversion area kind)
  to_offset None there (types.Offset other) = tt
  to_offset (Some area) there (types.Offset other) = tt
  to_offset None there types.Null = tt
  to_offset (Some area) there types.Null = tt
  to_offset (Some area) there types.Pointer = there
  to_offset area there kind = tt

  pub conversion_fits : (area : Option Beginning) → IsAreaNamed t area → (d : Description) (kind : ExpressionType) → IsDescription d
      → IsKind t kind → OnGiven (IsConversion t) (conversion 63 area d kind)
  conversion_fits area there described.Pointer kind good k = to_pointer kind k
  conversion_fits area there described.Offset kind good k = to_offset area there kind
  conversion_fits area there d kind good k =
      given_map (AllByRecursion IsOperation) (IsConversion t) (λ operations. ByOperations (operations ++ Fit d ∷ [])) (suiting 63 d kind)
      (λ os h. then_fitted d os good h) (suiting_operations d kind)

  form_operations : (form : StringForm) (kind : ExpressionType) → OnGiven (AllByRecursion IsOperation) (form_conversions form kind)
  form_operations forms.Character kind = string_operations kind
  form_operations forms.Varying kind = string_operations kind
  form_operations forms.Bit kind = bit_operations kind

  -- to a variable of a type
  pub conversion_to_fits : (area : Option Beginning) → IsAreaNamed t area → (type : ParameterType) (kind : ExpressionType) → IsParameterType type
      → IsKind t kind → OnGiven (IsConversion t) (conversion_to 63 area type kind)
  conversion_to_fits area there (Stated d) kind good k = conversion_fits area there d kind good k
  conversion_to_fits area there (AnyString form) kind good k =
      given_map (AllByRecursion IsOperation) (IsConversion t) ToPlace (form_conversions form kind) (λ os h. h) (form_operations form kind)
  conversion_to_fits area there type kind good k = tt

  -- a value that is kept before it is converted
  as_null : (e : TypedExpression) (kind : ExpressionType) → IsExpression t e → IsExpression t (null_as_offset e kind)
  as_null e types.Null h = null_offset_fits
  as_null e kind h = h

  pub unconverted_fits : (type : ParameterType) (v : TypedValue) → IsValue t v → IsExpression t (unconverted type v)
  unconverted_fits (Stated described.Offset) v h = as_null v.expression v.kind h.0
  unconverted_fits type v h = h.0

  -- ---- what is denoted

  -- what a variable holds is of a kind whose area is there
  pub kinds_held : (area : Option Beginning) → IsAreaNamed t area → (d : Description) → OnGiven (IsKind t) (type_of area d)
  kinds_held area there (described.FixedBinary p) = tt
  kinds_held area there (described.Character k) = tt
  kinds_held area there (described.Varying k) = tt
  kinds_held area there (described.Bit k) = tt
  kinds_held area there described.Pointer = tt
  kinds_held area there described.Offset = there
  kinds_held area there (described.Area k) = tt
  kinds_held area there (described.Array bounds element) = tt
  kinds_held area there (described.Structure ds) = tt

  abbrev as_referent : TypedReference → ParameterType → Bool → Option Beginning → Referent
  as_referent r type passed area = record { reference = r; description = type; is_parameter = passed; area = area }

  held_fits : (r : TypedReference) (type : ParameterType) (passed : Bool) (area : Option Beginning) → IsReferent t (as_referent r type passed area)
      → IsMeant t (meant_by (as_referent r type passed area))
  held_fits r (Stated (described.FixedBinary p)) passed area h = (h.reference, tt)
  held_fits r (Stated (described.Character k)) passed area h = (h.reference, tt)
  held_fits r (Stated (described.Varying k)) passed area h = (h.reference, tt)
  held_fits r (Stated (described.Bit k)) passed area h = (h.reference, tt)
  held_fits r (Stated described.Pointer) passed area h = (h.reference, tt)
  held_fits r (Stated described.Offset) passed area h = (h.reference, h.area)
  held_fits r (Stated (described.Area k)) passed area h = (h.reference, tt)
  held_fits r (Stated (described.Array bounds element)) passed area h = h
  held_fits r (Stated (described.Structure ds)) passed area h = h
  held_fits r (AnyString forms.Character) passed area h = (h.reference, tt)
  held_fits r (AnyString forms.Varying) passed area h = (h.reference, tt)
  held_fits r (AnyString forms.Bit) passed area h = (h.reference, tt)
  held_fits r (AnyArray dimensions element) passed area h = h
  held_fits r (ArrayOf bounds element) passed area h = h
  held_fits r (StructureOf types) passed area h = h

  pub denoted_fits : (d : Denoted) → IsDenoted t d → IsMeant t (meant_as d)
  denoted_fits (DenotesVariable r) h = held_fits r.reference r.description r.is_parameter r.area h
  denoted_fits (DenotesResult v) h = h
  denoted_fits DenotesEmpty h = (refl, tt)

  -- ---- built-in functions

  -- what an operation without a description has beside its operands
  abbrev IsBare : Operation → Type 0
  IsBare o = IsOperation (Operate o)

  calculated_fits : (o : Option Operation) (kind : Option ExpressionType) (es : List TypedExpression) → OnGiven IsBare o
      → OnGiven (IsKind t) kind → AllByRecursion (IsExpression t) es → OnGiven (IsValue t) (calculation o kind es)
  calculated_fits (Some operation) (Some kind) es good k h = ((good, operands_fit es h), k)
  calculated_fits (Some operation) None es good k h = tt
  calculated_fits None kind es good k h = tt

  -- what functions of values give is of a kind that names no area
  string_is : (kind : ExpressionType) → OnGiven (IsKind t) (string_kind kind)
  string_is types.Characters = tt
  string_is types.Bits = tt
  string_is kind = tt

  with_a_number : (kind : Option ExpressionType) (o : Option ℕ) → OnGiven (IsKind t) kind → OnGiven (IsKind t) (with_number kind o)
  with_a_number kind None h = tt
  with_a_number kind (Some p) h = h

  call_kind : (function : BuiltInFunction) (kinds : List ExpressionType) → OnGiven (IsKind t) (call_type 63 function kinds)
  call_kind functions.Abs (x ∷ []) = given_made (IsKind t) number_type (precision_of 63 x) (λ p. tt)
  call_kind functions.Sign (x ∷ []) = with_a_number (Some a_count) (precision_of 63 x) tt
  call_kind functions.Length (s ∷ []) = given_made (IsKind t) (λ kind. a_count) (string_kind s) (λ kind. tt)
  call_kind functions.Max (x ∷ y ∷ []) = given_made (IsKind t) _ (precisions 63 x y) (λ ps. tt)
  call_kind functions.Min (x ∷ y ∷ []) = given_made (IsKind t) _ (precisions 63 x y) (λ ps. tt)
  call_kind functions.Mod (x ∷ y ∷ []) = given_made (IsKind t) _ (precisions 63 x y) (λ ps. tt)
  call_kind functions.Index (s ∷ u ∷ []) = given_made (IsKind t) (λ kind. a_count) (of_one_kind s u) (λ kind. tt)
  call_kind functions.Substring (s ∷ i ∷ []) = with_a_number (string_kind s) (precision_of 63 i) (string_is s)
  call_kind functions.Substring (s ∷ i ∷ n ∷ []) =
      with_a_number (with_number (string_kind s) (precision_of 63 i)) (precision_of 63 n)
      (with_a_number (string_kind s) (precision_of 63 i) (string_is s))
  call_kind function kinds = tt

  rest_or_part : (b : Bool) → IsBare (if b then Rest else Substring)
  rest_or_part true = tt
  rest_or_part false = tt

  operation_good : (function : BuiltInFunction) (given : ℕ) → OnGiven IsBare (operation_of function given)
  operation_good functions.Abs given = tt
  operation_good functions.Sign given = tt
  operation_good functions.Length given = tt
  operation_good functions.Max given = tt
  operation_good functions.Min given = tt
  operation_good functions.Mod given = tt
  operation_good functions.Index given = tt
  operation_good functions.Substring given = rest_or_part (nat_eq given 2)
  operation_good function given = tt

  expressions_of : (vs : List TypedValue) → AllByRecursion (IsValue t) vs → AllByRecursion (IsExpression t) (map (λ v. v.expression) vs)
  expressions_of [] h = tt
  expressions_of (v ∷ vs) h = (h.0.0, expressions_of vs h.1)

  values_fit : (function : BuiltInFunction) (vs : List TypedValue) → AllByRecursion (IsValue t) vs → OnGiven (IsValue t) (of_values 63 function vs)
  values_fit function vs h =
      calculated_fits (operation_of function (length vs)) (call_type 63 function (map (λ v. v.kind) vs)) (map (λ v. v.expression) vs)
      (operation_good function (length vs)) (call_kind function (map (λ v. v.kind) vs)) (expressions_of vs h)

  -- DIVIDE
  quotient_by : (precision : ℕ) (b : Bool) (kind : Option ExpressionType) (es : List TypedExpression)
      → ((nat_le 1 precision && nat_le precision 63) ≡ b) → OnGiven (IsKind t) kind → AllByRecursion (IsExpression t) es
      → OnGiven (IsValue t) (calculation (Some (Divide precision)) (if b then kind else None) es)
  quotient_by precision true kind es e k h =
      let both : (nat_le 1 precision ≡ true) × (nat_le precision 63 ≡ true) = and_parts _ _ e in
      calculated_fits (Some (Divide precision)) kind es (leb-true 1 precision both.0, leb-true precision 63 both.1) k h
  quotient_by precision false kind es e k h = tt

  division_fits : (x y : Meant) (written : Option ℕ) → IsMeant t x → IsMeant t y → OnGiven (IsValue t) (divided 63 x y written)
  division_fits (OneValue v) (OneValue w) None a b = tt
  division_fits (OneValue v) (OneValue w) (Some precision) a b =
      quotient_by precision (nat_le 1 precision && nat_le precision 63)
      (option_map (λ ps. number_type precision) (precisions 63 v.kind w.kind)) (v.expression ∷ w.expression ∷ []) refl
      (given_made (IsKind t) (λ ps. number_type precision) (precisions 63 v.kind w.kind) (λ ps. tt)) (a.0, (b.0, tt))
  division_fits (OneValue v) (WholeAggregate r) written a b = tt
  division_fits (WholeAggregate r) y written a b = tt

  -- LBOUND and HBOUND
  bound_fits : (x : ℤ) → IsBound x → IsValue t (bound_value x)
  bound_fits x h = (omega (arith, h), tt)

  bound_kept : (which : WhichBound) (b : Bounds) → AreBounds b → IsBound (bound_of which b)
  bound_kept Low b h = h.1
  bound_kept High b h = h.2

  bound_at : (which : WhichBound) (bs : List Bounds) (k : ℕ) → AllByRecursion AreBounds bs
      → OnGiven (IsValue t) (option_map (λ b. bound_value (bound_of which b)) (slice_get bs k))
  bound_at which [] k h = tt
  bound_at which (b ∷ bs) zero h = bound_fits (bound_of which b) (bound_kept which b h.0)
  bound_at which (b ∷ bs) (suc k) h = bound_at which bs k h.1

  among_fits : (which : WhichBound) (number : ℕ) (bs : List Bounds) → AllByRecursion AreBounds bs → OnGiven (IsValue t) (bound_among which number bs)
  among_fits which number bs h = given_if (IsValue t) (nat_le 1 number) _ (bound_at which bs (number - 1) h)

  -- a bound that is known where the array is
  there_fits : (which : WhichBound) (number j : ℕ) (r : TypedReference) (b : Bool) → (nat_le 1 number && nat_le number j) ≡ b → j ≤ 8 → IsReference t r
      → OnGiven (IsValue t) (if b then Some (bound_there which number r) else None)
  there_fits which number j r true e few h =
      let both = and_parts (nat_le 1 number) (nat_le number j) e in
      let most = leb-true number j both.1 in
      (((leb-true 1 number both.0, omega (arith, most, few)), h), tt)
  there_fits which number j r false e few h = tt

  bound_within : (which : WhichBound) (number : ℕ) (r : TypedReference) (type : ParameterType) → IsReference t r → IsParameterType type
      → OnGiven (IsValue t) (bound_in which number r type)
  bound_within which number r (Stated (Array bs element)) k h = among_fits which number bs h.2
  bound_within which number r (ArrayOf bs element) k h = among_fits which number bs h.1
  bound_within which number r (AnyArray j element) k h =
      let few = h.0.1 in there_fits which number j r (nat_le 1 number && nat_le number j) refl few k
  bound_within which number r type k h = tt

  the_bound_fits : (which : WhichBound) (m : Meant) (written : Option ℕ) → IsMeant t m → OnGiven (IsValue t) (the_bound which m written)
  the_bound_fits which (OneValue v) written h = tt
  the_bound_fits which (WholeAggregate r) None h = tt
  the_bound_fits which (WholeAggregate r) (Some number) h = bound_within which number r.reference r.description h.reference h.described

  -- ALLOCATION
  generations_fit : (r : TypedReference) → IsReference t r → OnGiven (IsValue t) (generations_in r)
  generations_fit (Whole (NewestOf number)) h = (h, tt)
  generations_fit r h = tt

  generations_given : (d : Denoted) → IsDenoted t d → OnGiven (IsValue t) (generations_of d)
  generations_given (DenotesVariable r) h = generations_fit r.reference h.reference
  generations_given (DenotesResult v) h = tt
  generations_given DenotesEmpty h = tt

  -- ADDR
  address_fits : (passed : Bool) (r : TypedReference) → IsReference t r → OnGiven (IsValue t) (address_in passed r)
  address_fits false (Whole root) h = (h, tt)
  address_fits passed r h = tt

  address_given : (d : Denoted) → IsDenoted t d → OnGiven (IsValue t) (address_of d)
  address_given (DenotesVariable r) h = address_fits r.is_parameter r.reference h.reference
  address_given (DenotesResult v) h = tt
  address_given DenotesEmpty h = tt

  -- POINTER and OFFSET
  pub area_fits : (r : TypedReference) (type : ParameterType) → IsReference t r → IsAreaNamed t (area_meant r type)
  area_fits (Whole (InSlot outward slot)) (Stated (Area bytes)) h = h
  area_fits (Whole (OfProgram number)) (Stated (Area bytes)) h = h
  area_fits (Whole (NewestOf number)) (Stated (Area bytes)) h = h
  area_fits (Whole (Located locator whole)) (Stated (Area bytes)) h = tt
  area_fits r type h = tt

  pub area_given : (d : Denoted) → IsDenoted t d → IsAreaNamed t (area_of d)
  area_given (DenotesVariable r) h = area_fits r.reference r.description h.reference
  area_given (DenotesResult v) h = tt
  area_given DenotesEmpty h = tt

  -- what makes something of a locator in an area
  abbrev MakesLocator : ((area : Beginning) → TypedExpression → ExpressionType → Option TypedValue) → Type 0
  MakesLocator make =
      (area : Beginning) → IsReference t (whole_at area) → (e : TypedExpression) (kind : ExpressionType) → IsExpression t e
      → OnGiven (IsValue t) (make area e kind)

  offset_makes : MakesLocator offset_within
  offset_makes area there e (types.Offset other) h = ((there, h), tt)
  offset_makes area there e kind h = tt

  pointer_makes : MakesLocator pointer_within
  pointer_makes area there e types.Pointer h = ((there, h), tt)
  pointer_makes area there e types.Null h = ((there, h), tt)
  pointer_makes area there e kind h = tt

  located_fits : (make : (area : Beginning) → TypedExpression → ExpressionType → Option TypedValue) → MakesLocator make → (m : Meant)
      (o : Option Beginning) → IsMeant t m → IsAreaNamed t o → OnGiven (IsValue t) (located_within make m o)
  located_fits make makes (OneValue v) (Some area) h there = makes area there v.expression v.kind h.0
  located_fits make makes m o h there = tt

  -- arguments that are values
  one_value_in : (m : Meant) → IsMeant t m → OnGiven (IsValue t) (value_in m)
  one_value_in (OneValue v) h = h
  one_value_in (WholeAggregate r) h = tt

  first_and_others : (o : Option TypedValue) (os : Option (List TypedValue)) → OnGiven (IsValue t) o → OnGiven (AllByRecursion (IsValue t)) os
      → OnGiven (AllByRecursion (IsValue t)) (option_and_then (λ v. option_map (λ vs. v ∷ vs) os) o)
  first_and_others (Some v) (Some vs) a b = (a, b)
  first_and_others (Some v) None a b = tt
  first_and_others None os a b = tt

  all_values_in : (gs : List Argument) → AreArgumentsGiven t gs → OnGiven (AllByRecursion (IsValue t)) (values_in gs)
  all_values_in [] h = tt
  all_values_in (g ∷ gs) h =
      first_and_others (value_in (meant_as g.denoted)) (values_in gs)
      (one_value_in (meant_as g.denoted) (denoted_fits g.denoted h.0)) (all_values_in gs h.1)

  given_values : (function : BuiltInFunction) (o : Option (List TypedValue)) → OnGiven (AllByRecursion (IsValue t)) o
      → OnGiven (IsValue t) (option_and_then (of_values 63 function) o)
  given_values function (Some vs) h = values_fit function vs h
  given_values function None h = tt

  arguments_give : (function : BuiltInFunction) (gs : List Argument) → AreArgumentsGiven t gs → OnGiven (IsValue t) (of_arguments 63 function gs)
  arguments_give functions.Divide (x ∷ y ∷ p ∷ []) h =
      division_fits (meant_as x.denoted) (meant_as y.denoted) p.written (denoted_fits x.denoted h.0) (denoted_fits y.denoted h.1.0)
  arguments_give functions.LowBound (a ∷ n ∷ []) h = the_bound_fits Low (meant_as a.denoted) n.written (denoted_fits a.denoted h.0)
  arguments_give functions.HighBound (a ∷ n ∷ []) h = the_bound_fits High (meant_as a.denoted) n.written (denoted_fits a.denoted h.0)
  arguments_give functions.Allocation (a ∷ []) h = generations_given a.denoted h.0
  arguments_give functions.Address (a ∷ []) h = address_given a.denoted h.0
  arguments_give functions.Null [] h = (refl, tt)
  arguments_give functions.Empty [] h = (refl, tt)
  arguments_give functions.Pointer (o ∷ a ∷ []) h =
      located_fits offset_within offset_makes (meant_as o.denoted) (area_of a.denoted) (denoted_fits o.denoted h.0) (area_given a.denoted h.1.0)
  arguments_give functions.Offset (p ∷ a ∷ []) h =
      located_fits pointer_within pointer_makes (meant_as p.denoted) (area_of a.denoted) (denoted_fits p.denoted h.0) (area_given a.denoted h.1.0)
  arguments_give function gs h = given_values function (values_in gs) (all_values_in gs h)

  or_bad : (at : ℕ) (o : Option TypedValue) → OnGiven (IsValue t) o → OnRead (IsValue t) (or_bad_argument at o)
  or_bad at (Some v) h = h
  or_bad at None h = tt

  pub functions_fit : (function : BuiltInFunction) (at : ℕ) (roles : Option (List Role)) (gs : List Argument) → AreArgumentsGiven t gs
      → OnRead (IsValue t) (function_called 63 function at roles gs)
  functions_fit function at None gs h = tt
  functions_fit function at (Some roles) gs h = or_bad at (of_arguments 63 function gs) (arguments_give function gs h)
