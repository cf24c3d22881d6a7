-- What values are and how they are converted, as the type checker finds it.
use Rattle.std.specs.Prelude.{◌≡◌, ℕ, ◌++◌, Bool, true, false, Option, Some, None, option_map, refl, [], ◌∷◌, max, ◌&&◌, if◌then◌else◌}
use Rattle.std.specs.Option.{option_or}
use Rattle.std.proofs.Common.{ap, ◌∙◌}
use Rattle.pli_base.specs.declared.syntax.ConstantValue.{ConstantValue}
use Rattle.pli_base.specs.declared.syntax.ConstantValue.TheVariants as constants
use Rattle.pli_base.specs.declared.syntax.InfixOperator.{InfixOperator}
use Rattle.pli_base.specs.declared.syntax.InfixOperator.TheVariants as infixes
use Rattle.pli_base.specs.declared.syntax.PrefixOperator.{PrefixOperator}
use Rattle.pli_base.specs.declared.syntax.PrefixOperator.TheVariants as prefixes
use Rattle.pli_map.specs.Description.{Description, FixedBinary, Character, Varying, Bit, Pointer, Offset, Area, Array, Structure}
use Rattle.pli_map.specs.ParameterTypes.{ParameterType, Stated, AnyString, AnyArray, ArrayOf, StructureOf}
use Rattle.pli_map.specs.declared.parameter.StringForm.{StringForm}
use Rattle.pli_map.specs.declared.parameter.StringForm.TheVariants as forms
use Rattle.pli_operation.specs.declared.operation.Operation.{Operation}
use Rattle.pli_operation.specs.declared.operation.Operation.TheVariants.{Not, Compare, Concatenate, Add, Subtract, Multiply, And, Or}
use Rattle.pli_operation.specs.declared.operation.Relation.{Relation}
use Rattle.pli_operation.specs.declared.operation.Relation.TheVariants.{Equal, Unequal, Less, AtMost, Greater, AtLeast}
use Rattle.pli_type_rules.specs.ExpressionTypes as old
use Rattle.pli_type_rules.specs.ExpressionTypes.{TypedValue, only_bits, string_type, string_as, string_conversions, bit_conversions, pointer_conversion, offset_conversion, null_as_offset, is_locator, precision_of}
use Rattle.pli_type_rules.specs.declared.beginning.Beginning.{Beginning}
use Rattle.pli_type_rules.specs.declared.expression_type.ExpressionType.{ExpressionType}
use Rattle.pli_type_rules.specs.declared.expression_type.ExpressionType.TheVariants as types
use Rattle.pli_type_tree.specs.TypedTree.{TypedExpression, Fit, Conversion, ByOperations, ToPlace}
use Rattle.pli_type_unit.specs.Found.{◌>>=◌, where_holds}
use Rattle.pli_type_unit.specs.Values as new
use Rattle.pli_type_unit.specs.Values.{calculated, by_conversion, as_bit}

pub constant_alike : (c : ConstantValue) → new.constant c ≡ old.constant 63 c
constant_alike (constants.Decimal value digits) = refl
constant_alike (constants.Binary value digits) = refl
constant_alike (constants.Characters text) = refl
constant_alike (constants.Bits bits) = refl

not_alike : (e : TypedExpression) (k : ExpressionType) → option_map (λ bits. calculated Not (bits ∷ []) types.Bits) (only_bits e k) ≡ old.with_not e k
not_alike e (types.FixedDecimal a) = refl
not_alike e (types.FixedBinary a) = refl
not_alike e types.Characters = refl
not_alike e types.Bits = refl
not_alike e types.Pointer = refl
not_alike e types.Null = refl
not_alike e (types.Offset None) = refl
not_alike e (types.Offset (Some a)) = refl
not_alike e types.Area = refl

pub prefix_alike : (o : PrefixOperator) (v : TypedValue) → new.prefix_value o v ≡ old.prefix_value 63 o v
prefix_alike prefixes.Plus v = refl
prefix_alike prefixes.Minus v = refl
prefix_alike prefixes.Not v = not_alike v.expression v.kind

pub numbers_alike : (operation : Operation) (precision : (p q : ℕ) → ℕ) (v w : TypedValue) → new.on_numbers operation precision v w ≡ old.on_numbers 63 operation precision v w
numbers_alike operation precision v w = by (precision_of 63 v.kind) (precision_of 63 w.kind)
  where
    by : (o other : Option ℕ)
        → (o >>= λ p. other >>= λ q. Some (calculated operation (v.expression ∷ w.expression ∷ []) (types.FixedBinary (precision p q))))
        ≡ option_map (λ ps. record { expression = old.with_two operation v.expression w.expression; kind = types.FixedBinary (precision ps.0 ps.1) }) (old.paired o other)
    by None other = refl
    by (Some p) None = refl
    by (Some p) (Some q) = refl

joined_alike : (v w : TypedValue) → new.on_strings Concatenate v w ≡ old.concatenation v w
joined_alike v w = by (string_type v.kind w.kind)
  where
    by : (o : Option ExpressionType)
        → (o >>= λ kind. Some (calculated Concatenate (string_as v.expression v.kind kind ∷ string_as w.expression w.kind kind ∷ []) kind))
        ≡ option_map (λ kind. record { expression = old.on_strings Concatenate v w kind; kind = kind }) o
    by None = refl
    by (Some kind) = refl

both_bits : (operation : Operation) (x y : TypedExpression) (k l : ExpressionType)
    → (only_bits x k >>= λ one. only_bits y l >>= λ other. Some (calculated operation (one ∷ other ∷ []) types.Bits)) ≡ old.of_bits_alone operation x y k l
both_bits operation x y (types.FixedDecimal a) l = refl
both_bits operation x y (types.FixedBinary a) l = refl
both_bits operation x y types.Characters l = refl
both_bits operation x y types.Pointer l = refl
both_bits operation x y types.Null l = refl
both_bits operation x y (types.Offset None) l = refl
both_bits operation x y (types.Offset (Some a)) l = refl
both_bits operation x y types.Area l = refl
both_bits operation x y types.Bits (types.FixedDecimal a) = refl
both_bits operation x y types.Bits (types.FixedBinary a) = refl
both_bits operation x y types.Bits types.Characters = refl
both_bits operation x y types.Bits types.Bits = refl
both_bits operation x y types.Bits types.Pointer = refl
both_bits operation x y types.Bits types.Null = refl
both_bits operation x y types.Bits (types.Offset None) = refl
both_bits operation x y types.Bits (types.Offset (Some a)) = refl
both_bits operation x y types.Bits types.Area = refl

bits_alike : (operation : Operation) (v w : TypedValue) → new.on_bits operation v w ≡ old.logical operation v w
bits_alike operation v w = both_bits operation v.expression w.expression v.kind w.kind

-- conversions

abbrev turned_by : TypedExpression → Option Conversion → Option TypedExpression
turned_by e o = option_map (λ conversion. by_conversion conversion e) o

pointer_alike : (e : TypedExpression) (k : ExpressionType) → turned_by e (pointer_conversion k) ≡ old.as_pointer e k
pointer_alike e (types.FixedDecimal a) = refl
pointer_alike e (types.FixedBinary a) = refl
pointer_alike e types.Characters = refl
pointer_alike e types.Bits = refl
pointer_alike e types.Pointer = refl
pointer_alike e types.Null = refl
pointer_alike e (types.Offset None) = refl
pointer_alike e (types.Offset (Some a)) = refl
pointer_alike e types.Area = refl

offset_alike : (area : Option Beginning) (e : TypedExpression) (k : ExpressionType) → turned_by (null_as_offset e k) (offset_conversion area k) ≡ old.as_offset area e k
offset_alike area e (types.FixedDecimal a) = refl
offset_alike area e (types.FixedBinary a) = refl
offset_alike area e types.Characters = refl
offset_alike area e types.Bits = refl
offset_alike None e types.Pointer = refl
offset_alike (Some area) e types.Pointer = refl
offset_alike area e types.Null = refl
offset_alike area e (types.Offset None) = refl
offset_alike area e (types.Offset (Some a)) = refl
offset_alike area e types.Area = refl

number_with : (d : Description) (e : TypedExpression) (o : Option ℕ)
    → turned_by e (option_map (λ operations. ByOperations (operations ++ Fit d ∷ [])) (option_map (λ p. []) o)) ≡ option_map (old.with_one (Fit d)) (option_map (λ p. e) o)
number_with d e None = refl
number_with d e (Some p) = refl

characters_with : (d : Description) (e : TypedExpression) (k : ExpressionType)
    → turned_by e (option_map (λ operations. ByOperations (operations ++ Fit d ∷ [])) (string_conversions k)) ≡ option_map (old.with_one (Fit d)) (old.as_characters e k)
characters_with d e (types.FixedDecimal a) = refl
characters_with d e (types.FixedBinary a) = refl
characters_with d e types.Characters = refl
characters_with d e types.Bits = refl
characters_with d e types.Pointer = refl
characters_with d e types.Null = refl
characters_with d e (types.Offset None) = refl
characters_with d e (types.Offset (Some a)) = refl
characters_with d e types.Area = refl

bits_with : (d : Description) (e : TypedExpression) (k : ExpressionType)
    → turned_by e (option_map (λ operations. ByOperations (operations ++ Fit d ∷ [])) (bit_conversions k)) ≡ option_map (old.with_one (Fit d)) (only_bits e k)
bits_with d e (types.FixedDecimal a) = refl
bits_with d e (types.FixedBinary a) = refl
bits_with d e types.Characters = refl
bits_with d e types.Bits = refl
bits_with d e types.Pointer = refl
bits_with d e types.Null = refl
bits_with d e (types.Offset None) = refl
bits_with d e (types.Offset (Some a)) = refl
bits_with d e types.Area = refl

characters_placed : (e : TypedExpression) (k : ExpressionType) → turned_by e (option_map ToPlace (string_conversions k)) ≡ old.as_characters e k
characters_placed e (types.FixedDecimal a) = refl
characters_placed e (types.FixedBinary a) = refl
characters_placed e types.Characters = refl
characters_placed e types.Bits = refl
characters_placed e types.Pointer = refl
characters_placed e types.Null = refl
characters_placed e (types.Offset None) = refl
characters_placed e (types.Offset (Some a)) = refl
characters_placed e types.Area = refl

bits_placed : (e : TypedExpression) (k : ExpressionType) → turned_by e (option_map ToPlace (bit_conversions k)) ≡ only_bits e k
bits_placed e (types.FixedDecimal a) = refl
bits_placed e (types.FixedBinary a) = refl
bits_placed e types.Characters = refl
bits_placed e types.Bits = refl
bits_placed e types.Pointer = refl
bits_placed e types.Null = refl
bits_placed e (types.Offset None) = refl
bits_placed e (types.Offset (Some a)) = refl
bits_placed e types.Area = refl

pub converted_alike : (area : Option Beginning) (d : Description) (v : TypedValue) → new.converted area (Stated d) v ≡ old.converted 63 area d v
converted_alike area (FixedBinary p) v = number_with (FixedBinary p) v.expression (precision_of 63 v.kind)
converted_alike area (Character n) v = characters_with (Character n) v.expression v.kind
converted_alike area (Varying n) v = characters_with (Varying n) v.expression v.kind
converted_alike area (Bit n) v = bits_with (Bit n) v.expression v.kind
converted_alike area Pointer v = pointer_alike v.expression v.kind
converted_alike area Offset v = offset_alike area v.expression v.kind
converted_alike area (Area n) v = refl
converted_alike area (Array bounds element) v = refl
converted_alike area (Structure parts) v = refl

pub placed_alike : (area : Option Beginning) (form : StringForm) (v : TypedValue) → new.converted area (AnyString form) v ≡ old.suited_to_form form v.expression v.kind
placed_alike area forms.Character v = characters_placed v.expression v.kind
placed_alike area forms.Varying v = characters_placed v.expression v.kind
placed_alike area forms.Bit v = bits_placed v.expression v.kind

printed_from : (e : TypedExpression) (k : ExpressionType) → new.printed (record { expression = e; kind = k }) ≡ old.printed_from e k
printed_from e (types.FixedDecimal a) = refl
printed_from e (types.FixedBinary a) = refl
printed_from e types.Characters = refl
printed_from e types.Bits = refl
printed_from e types.Pointer = refl
printed_from e types.Null = refl
printed_from e (types.Offset None) = refl
printed_from e (types.Offset (Some a)) = refl
printed_from e types.Area = refl

pub conversion_alike : (area : Option Beginning) (t : ParameterType) (k : ExpressionType) → new.conversion area t k ≡ old.conversion_to 63 area t k
conversion_alike area (Stated (FixedBinary p)) k = refl
conversion_alike area (Stated (Character n)) k = refl
conversion_alike area (Stated (Varying n)) k = refl
conversion_alike area (Stated (Bit n)) k = refl
conversion_alike area (Stated Pointer) k = refl
conversion_alike area (Stated Offset) k = refl
conversion_alike area (Stated (Area n)) k = refl
conversion_alike area (Stated (Array bounds element)) k = refl
conversion_alike area (Stated (Structure parts)) k = refl
conversion_alike area (AnyString forms.Character) k = refl
conversion_alike area (AnyString forms.Varying) k = refl
conversion_alike area (AnyString forms.Bit) k = refl
conversion_alike area (AnyArray dimensions element) k = refl
conversion_alike area (ArrayOf bounds element) k = refl
conversion_alike area (StructureOf parts) k = refl

pub printed_alike : (v : TypedValue) → new.printed v ≡ old.printed v
printed_alike v = printed_from v.expression v.kind

-- comparisons

both_located : (relation : Relation) (left right : Option TypedExpression)
    → (left >>= λ one. right >>= λ other. where_holds (new.is_equality relation) (calculated (Compare relation) (one ∷ other ∷ []) types.Bits))
    ≡ old.locators_compared relation left right
both_located Equal None right = refl
both_located Equal (Some x) None = refl
both_located Equal (Some x) (Some y) = refl
both_located Unequal None right = refl
both_located Unequal (Some x) None = refl
both_located Unequal (Some x) (Some y) = refl
both_located Less None right = refl
both_located Less (Some x) None = refl
both_located Less (Some x) (Some y) = refl
both_located AtMost None right = refl
both_located AtMost (Some x) None = refl
both_located AtMost (Some x) (Some y) = refl
both_located Greater None right = refl
both_located Greater (Some x) None = refl
both_located Greater (Some x) (Some y) = refl
both_located AtLeast None right = refl
both_located AtLeast (Some x) None = refl
both_located AtLeast (Some x) (Some y) = refl

beside : (k l : ExpressionType) → new.compared_as k l ≡ (if old.are_offsets k l then Offset else Pointer)
beside (types.FixedDecimal a) l = refl
beside (types.FixedBinary a) l = refl
beside types.Characters l = refl
beside types.Bits l = refl
beside types.Pointer l = refl
beside types.Null (types.FixedDecimal b) = refl
beside types.Null (types.FixedBinary b) = refl
beside types.Null types.Characters = refl
beside types.Null types.Bits = refl
beside types.Null types.Pointer = refl
beside types.Null types.Null = refl
beside types.Null (types.Offset None) = refl
beside types.Null (types.Offset (Some b)) = refl
beside types.Null types.Area = refl
beside (types.Offset None) (types.FixedDecimal b) = refl
beside (types.Offset None) (types.FixedBinary b) = refl
beside (types.Offset None) types.Characters = refl
beside (types.Offset None) types.Bits = refl
beside (types.Offset None) types.Pointer = refl
beside (types.Offset None) types.Null = refl
beside (types.Offset None) (types.Offset None) = refl
beside (types.Offset None) (types.Offset (Some b)) = refl
beside (types.Offset None) types.Area = refl
beside (types.Offset (Some a)) (types.FixedDecimal b) = refl
beside (types.Offset (Some a)) (types.FixedBinary b) = refl
beside (types.Offset (Some a)) types.Characters = refl
beside (types.Offset (Some a)) types.Bits = refl
beside (types.Offset (Some a)) types.Pointer = refl
beside (types.Offset (Some a)) types.Null = refl
beside (types.Offset (Some a)) (types.Offset None) = refl
beside (types.Offset (Some a)) (types.Offset (Some b)) = refl
beside (types.Offset (Some a)) types.Area = refl
beside types.Area l = refl

abbrev pair : Relation → (left right : Option TypedExpression) → Option TypedValue
pair relation left right = left >>= λ one. right >>= λ other. where_holds (new.is_equality relation) (calculated (Compare relation) (one ∷ other ∷ []) types.Bits)

located_alike : (relation : Relation) (v w : TypedValue) → new.locators_compared relation (new.compared_as v.kind w.kind) v w ≡ old.locators_beside relation v w
located_alike relation v w =
    ap (λ d. new.locators_compared relation d v w) (beside v.kind w.kind) ∙ by (old.are_offsets v.kind w.kind)
  where
    by : (b : Bool)
        → new.locators_compared relation (if b then Offset else Pointer) v w
        ≡ (if b then old.locators_compared relation (old.as_offset None v.expression v.kind) (old.as_offset None w.expression w.kind)
        else old.locators_compared relation (old.as_pointer v.expression v.kind) (old.as_pointer w.expression w.kind))
    by true =
        ap (λ o. pair relation o (new.converted None (Stated Offset) w)) (offset_alike None v.expression v.kind)
        ∙ ap (pair relation (old.as_offset None v.expression v.kind)) (offset_alike None w.expression w.kind)
        ∙ both_located relation (old.as_offset None v.expression v.kind) (old.as_offset None w.expression w.kind)
    by false =
        ap (λ o. pair relation o (new.converted None (Stated Pointer) w)) (pointer_alike v.expression v.kind)
        ∙ ap (pair relation (old.as_pointer v.expression v.kind)) (pointer_alike w.expression w.kind)
        ∙ both_located relation (old.as_pointer v.expression v.kind) (old.as_pointer w.expression w.kind)

ordered_alike : (relation : Relation) (v w : TypedValue) (o : Option ExpressionType)
    → option_map as_bit (option_or (o >>= λ kind. Some (calculated (Compare relation) (string_as v.expression v.kind kind ∷ string_as w.expression w.kind kind ∷ []) kind)) (new.on_numbers (Compare relation) max v w))
    ≡ old.compared 63 relation v w o
ordered_alike relation v w (Some kind) = refl
ordered_alike relation v w None = by (precision_of 63 v.kind) (precision_of 63 w.kind)
  where
    by : (o other : Option ℕ)
        → option_map as_bit (o >>= λ p. other >>= λ q. Some (calculated (Compare relation) (v.expression ∷ w.expression ∷ []) (types.FixedBinary (max p q))))
        ≡ option_map (λ (v : TypedValue). old.as_bits v.expression) (option_map (λ ps. record { expression = old.with_two (Compare relation) v.expression w.expression; kind = types.FixedBinary (old.sum_precision 63 ps.0 ps.1) }) (old.paired o other))
    by None other = refl
    by (Some p) None = refl
    by (Some p) (Some q) = refl

chosen_alike : {A : Type 0} (b : Bool) {x y z w : A} → x ≡ y → z ≡ w → (if b then x else z) ≡ (if b then y else w)
chosen_alike true e f = e
chosen_alike false e f = f

comparison_alike : (relation : Relation) (v w : TypedValue) → new.comparison relation v w ≡ old.comparison 63 relation v w
comparison_alike relation v w =
    chosen_alike (is_locator v.kind && is_locator w.kind) (located_alike relation v w) (ordered_alike relation v w (string_type v.kind w.kind))

pub infix_alike : (o : InfixOperator) (v w : TypedValue) → new.infix_value o v w ≡ old.infix_value 63 o v w
infix_alike infixes.Add v w = numbers_alike Add (old.sum_precision 63) v w
infix_alike infixes.Subtract v w = numbers_alike Subtract (old.sum_precision 63) v w
infix_alike infixes.Multiply v w = numbers_alike Multiply (old.product_precision 63) v w
infix_alike infixes.Equal v w = comparison_alike Equal v w
infix_alike infixes.NotEqual v w = comparison_alike Unequal v w
infix_alike infixes.Less v w = comparison_alike Less v w
infix_alike infixes.LessOrEqual v w = comparison_alike AtMost v w
infix_alike infixes.Greater v w = comparison_alike Greater v w
infix_alike infixes.GreaterOrEqual v w = comparison_alike AtLeast v w
infix_alike infixes.Concatenate v w = joined_alike v w
infix_alike infixes.And v w = bits_alike And v w
infix_alike infixes.Or v w = bits_alike Or v w
