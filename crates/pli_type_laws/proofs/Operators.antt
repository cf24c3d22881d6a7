-- Operators give values of their types.
use Rattle.std.specs.Prelude.{◌≡◌, ℕ, ◌+◌, min, max, Bool, true, false, ◌&&◌, Option, Some, None, option_map, [], ◌∷◌}
use Rattle.std.specs.Prelude.{if◌then◌else◌, refl}
use Rattle.std.proofs.Common.{arith, inl, inr, sym, subst}
use Rattle.pli_base.specs.declared.syntax.InfixOperator.{InfixOperator}
use Rattle.pli_base.specs.declared.syntax.InfixOperator.TheVariants as infixes
use Rattle.pli_base.specs.declared.syntax.PrefixOperator.{PrefixOperator}
use Rattle.pli_base.specs.declared.syntax.PrefixOperator.TheVariants as prefixes
use Rattle.pli_operation.specs.declared.operation.Operation.{Operation}
use Rattle.pli_operation.specs.declared.operation.Operation.TheVariants.{Negate, Not, FromBits, Add, Subtract, Multiply, Compare, Concatenate, And, Or}
use Rattle.pli_operation.specs.declared.operation.Relation.{Relation}
use Rattle.pli_operation.specs.declared.operation.Relation.TheVariants.{Equal, Unequal, Less, AtMost, Greater, AtLeast}
use Rattle.pli_type_rules.specs.ExpressionTypes.{TypedValue, precision_of, precisions, paired, with_one, with_two, with_not}
use Rattle.pli_type_rules.specs.ExpressionTypes.{prefix_value, infix_value, on_numbers, sum_precision, product_precision}
use Rattle.pli_type_rules.specs.ExpressionTypes.{string_type, string_as, on_strings, as_bits, is_locator, as_pointer, as_offset, are_offsets, compared, locators_compared, locators_beside, comparison, concatenation, of_bits_alone}
use Rattle.pli_type_rules.specs.TypingSteps.{with_plus, with_minus}
use Rattle.pli_type_rules.specs.declared.expression_type.ExpressionType.{ExpressionType}
use Rattle.pli_type_rules.specs.declared.expression_type.ExpressionType.TheVariants as types
use Rattle.pli_type_laws.proofs.Conversions.{OnGiven, pointer_made, offset_made}
use Rattle.pli_type_laws.specs.ExpressionTyping.{HasType, IsShort, IsNumber, AreNear}
use Rattle.pli_type_tree.specs.TypedTree.{Operate, TypedOperation, TypedExpression}
use Rattle.pli_type_tree.specs.ValueTypes.{ValueType, Numbers, Strings, Pointers, Offsets, StringKind, OfCharacters, OfBits, OnLocators, Computes, Operates, longest}
use Rattle.pli_type_tree.specs.WellTyped.{TypingContext, IsTyped}

-- a value has its type
abbrev pub HasValue : TypingContext → TypedValue → Type 0
HasValue s v = HasType s v.expression v.kind

pub given_map : {A B : Type 0} (P : A → Type 0) (Q : B → Type 0) (f : A → B) (o : Option A)
    → ((x : A) → P x → Q (f x)) → OnGiven P o → OnGiven Q (option_map f o)
given_map P Q f (Some x) g h = g x h
given_map P Q f None g h = tt

pub sum_near : (p q r t : ℕ) → AreNear p r → AreNear q t
    → AreNear (min 63 (max p q + 1)) (sum_precision 63 r t)
sum_near p q r t a b = (omega (arith, a.0, b.0), omega arith, omega arith)

pub product_near : (p q r t : ℕ) → AreNear p r → AreNear q t
    → AreNear (min 63 (p + q + 1)) (product_precision 63 r t)
product_near p q r t a b = (omega (arith, a.0, b.0), omega arith, omega arith)

module _ (s : TypingContext) where
  -- a number has its precision
  pub has_precision : (e : TypedExpression) (kind : ExpressionType) → HasType s e kind
      → OnGiven (IsNumber s e) (precision_of 63 kind)
  has_precision e (types.FixedDecimal digits) h = (h.0, h.1, h.2)
  has_precision e (types.FixedBinary precision) h = h
  has_precision e types.Characters h = tt
  has_precision e types.Bits h = tt
  has_precision e types.Pointer h = tt
  has_precision e types.Null h = tt
  has_precision e (types.Offset area) h = tt
  has_precision e types.Area h = tt

  -- one operand, two operands
  pub of_one : (operation : TypedOperation) (e : TypedExpression) (t u : ValueType) → IsTyped 63 s e t
      → Operates 63 operation (t ∷ []) u → IsTyped 63 s (with_one operation e) u
  of_one operation e t u typed operates = (t ∷ [], (t, [], refl, typed, refl), operates)

  pub of_two : (operation : Operation) (e f : TypedExpression) (t u r : ValueType) → IsTyped 63 s e t
      → IsTyped 63 s f u → Computes 63 operation (t ∷ u ∷ []) r → IsTyped 63 s (with_two operation e f) r
  of_two operation e f t u r one other operates =
      (t ∷ u ∷ [], (t, u ∷ [], refl, one, (u, [], refl, other, refl)), operates)

  -- two numbers
  abbrev pub AreNumbers : (e f : TypedExpression) → ℕ × ℕ → Type 0
  AreNumbers e f ps = IsNumber s e ps.0 × IsNumber s f ps.1

  both_paired : (e f : TypedExpression) (o q : Option ℕ) → OnGiven (IsNumber s e) o → OnGiven (IsNumber s f) q
      → OnGiven (AreNumbers e f) (paired o q)
  both_paired e f (Some p) (Some q) a b = (a, b)
  both_paired e f (Some p) None a b = tt
  both_paired e f None (Some q) a b = tt
  both_paired e f None None a b = tt

  pub have_precisions : (v w : TypedValue) → HasValue s v → HasValue s w
      → OnGiven (AreNumbers v.expression w.expression) (precisions 63 v.kind w.kind)
  have_precisions v w a b =
      both_paired v.expression w.expression (precision_of 63 v.kind) (precision_of 63 w.kind)
      (has_precision v.expression v.kind a) (has_precision w.expression w.kind b)

  -- prefix operators
  minus : (e : TypedExpression) (kind : ExpressionType) (o : Option ℕ) → HasType s e kind
      → OnGiven (IsNumber s e) (precision_of 63 kind)
      → OnGiven (HasValue s) (with_minus (record { expression = e; kind = kind }) (precision_of 63 kind))
  minus e (types.FixedDecimal digits) o h n = (h.0, of_one (Operate Negate) e _ _ h.1 (h.0, refl, refl), h.2, h.3)
  minus e (types.FixedBinary precision) o h n = (h.0, of_one (Operate Negate) e _ _ h.1 (h.0, refl, refl), h.2)
  minus e types.Characters o h n = tt
  minus e types.Bits o h n = tt
  minus e types.Pointer o h n = tt
  minus e types.Null o h n = tt
  minus e (types.Offset area) o h n = tt
  minus e types.Area o h n = tt

  plus : (v : TypedValue) (o : Option ℕ) → HasValue s v → OnGiven (HasValue s) (with_plus v o)
  plus v (Some p) h = h
  plus v None h = tt

  negation : (e : TypedExpression) (kind : ExpressionType) → HasType s e kind → OnGiven (HasValue s) (with_not e kind)
  negation e (types.FixedDecimal digits) h = tt
  negation e (types.FixedBinary precision) h = tt
  negation e types.Characters h = tt
  negation e types.Bits h =
      (h.0, h.1, of_one (Operate Not) e (Strings OfBits h.0 h.1) _ h.2 (OfBits, h.0, h.1, refl, (refl, refl)), h.3)
  negation e types.Pointer h = tt
  negation e types.Null h = tt
  negation e (types.Offset area) h = tt
  negation e types.Area h = tt

  pub prefix_has_type : (operator : PrefixOperator) (v : TypedValue) → HasValue s v
      → OnGiven (HasValue s) (prefix_value 63 operator v)
  prefix_has_type prefixes.Plus v h = plus v (precision_of 63 v.kind) h
  prefix_has_type prefixes.Minus v h =
      minus v.expression v.kind None h (has_precision v.expression v.kind h)
  prefix_has_type prefixes.Not v h = negation v.expression v.kind h

  -- numbers
  abbrev GivesNumber : Operation → (precision : (p q : ℕ) → ℕ) → Type 0
  GivesNumber operation precision =
      (p q r t : ℕ) → AreNear p r → AreNear q t
      → (m : ℕ) × Computes 63 operation (Numbers p ∷ Numbers q ∷ []) (Numbers m) × AreNear m (precision r t)

  numbers_give : (operation : Operation) (precision : (p q : ℕ) → ℕ) → GivesNumber operation precision
      → (v w : TypedValue) → HasValue s v → HasValue s w
      → OnGiven (HasValue s) (on_numbers 63 operation precision v w)
  numbers_give operation precision gives v w a b =
      given_map (AreNumbers v.expression w.expression) (HasValue s) _ (precisions 63 v.kind w.kind)
      (λ ps h. made ps h) (have_precisions v w a b)
    where
      made : (ps : ℕ × ℕ) → AreNumbers v.expression w.expression ps
          → IsNumber s (with_two operation v.expression w.expression) (precision ps.0 ps.1)
      made ps h =
          let given : (m : ℕ) × Computes 63 operation (Numbers h.0.0 ∷ Numbers h.1.0 ∷ []) (Numbers m)
          × AreNear m (precision ps.0 ps.1) = gives h.0.0 h.1.0 ps.0 ps.1 h.0.2 h.1.2 in
          (given.0, of_two operation v.expression w.expression _ _ _ h.0.1 h.1.1 given.1, given.2)

  sums : (operation : Operation) → ((p q : ℕ) → Computes 63 operation (Numbers p ∷ Numbers q ∷ []) (Numbers (min 63 (max p q + 1))))
      → GivesNumber operation (sum_precision 63)
  sums operation operates p q r t a b = (min 63 (max p q + 1), operates p q, sum_near p q r t a b)

  products : GivesNumber Multiply (product_precision 63)
  products p q r t a b = (min 63 (p + q + 1), (p, q, refl, refl), product_near p q r t a b)

  -- strings of one kind
  abbrev KindIs : StringKind → ExpressionType → Type 0
  KindIs OfCharacters kind = kind ≡ types.Characters
  KindIs OfBits kind = kind ≡ types.Bits

  abbrev AreShort : (e : TypedExpression) (one : ExpressionType) (f : TypedExpression) (other : ExpressionType)
      → ExpressionType → Type 0
  AreShort e one f other kind =
      (k : StringKind) × IsShort s k (string_as e one kind) × IsShort s k (string_as f other kind) × KindIs k kind

  read_as_characters : (e : TypedExpression) → IsShort s OfBits e → IsShort s OfCharacters (with_one (Operate FromBits) e)
  read_as_characters e h =
      (h.0, h.1, of_one (Operate FromBits) e (Strings OfBits h.0 h.1) _ h.2 (OfBits, h.0, h.1, refl, (refl, refl)), h.3)

  strings_meet : (e : TypedExpression) (one : ExpressionType) (f : TypedExpression) (other : ExpressionType)
      → HasType s e one → HasType s f other → OnGiven (AreShort e one f other) (string_type one other)
  strings_meet e types.Characters f types.Characters a b = (OfCharacters, a, b, refl)
  strings_meet e types.Characters f types.Bits a b = (OfCharacters, a, read_as_characters f b, refl)
  strings_meet e types.Bits f types.Characters a b = (OfCharacters, read_as_characters e a, b, refl)
  strings_meet e types.Bits f types.Bits a b = (OfBits, a, b, refl)
  strings_meet e one f other a b = tt

  pub one_bit : (e : TypedExpression) → IsTyped 63 s e (Strings OfBits 1 1) → IsShort s OfBits e
  one_bit e h = (1, 1, h, omega arith)

  compared_type : (relation : Relation) (v w : TypedValue) (o : Option ExpressionType) → HasValue s v → HasValue s w
      → OnGiven (AreShort v.expression v.kind w.expression w.kind) o
      → OnGiven (HasValue s) (compared 63 relation v w o)
  compared_type relation v w (Some kind) a b h =
      one_bit (on_strings (Compare relation) v w kind)
      (of_two (Compare relation) (string_as v.expression v.kind kind) (string_as w.expression w.kind kind)
      (Strings h.0 h.1.0 h.1.1) (Strings h.0 h.2.0 h.2.1) (Strings OfBits 1 1) h.1.2 h.2.2
      (inr (inl (h.0, h.1.0, h.1.1, h.2.0, h.2.1, refl, tt)), refl))
  compared_type relation v w None a b h =
      given_map (λ x. IsShort s OfBits x.expression) (HasValue s) (λ x. as_bits x.expression)
      (on_numbers 63 (Compare relation) (sum_precision 63) v w) (λ x g. g)
      (given_map (AreNumbers v.expression w.expression) (λ x. IsShort s OfBits x.expression) _
      (precisions 63 v.kind w.kind) (λ ps g. of_numbers ps g) (have_precisions v w a b))
    where
      of_numbers : (ps : ℕ × ℕ) → AreNumbers v.expression w.expression ps
          → IsShort s OfBits (with_two (Compare relation) v.expression w.expression)
      of_numbers ps g =
          one_bit (with_two (Compare relation) v.expression w.expression)
          (of_two (Compare relation) v.expression w.expression (Numbers g.0.0) (Numbers g.1.0) (Strings OfBits 1 1)
          g.0.1 g.1.1 (inl (g.0.0, g.1.0, refl, tt), refl))

  -- locators, all of one type
  module _ (t : ValueType) (both : OnLocators (t ∷ t ∷ [])) where
    abbrev IsOfIt : TypedExpression → Type 0
    IsOfIt e = IsTyped 63 s e t

    locators_type : (relation : Relation) (o q : Option TypedExpression) → OnGiven IsOfIt o → OnGiven IsOfIt q
        → OnGiven (HasValue s) (locators_compared relation o q)
    locators_type Equal (Some e) (Some f) a b =
        one_bit (with_two (Compare Equal) e f)
        (of_two (Compare Equal) e f t t (Strings OfBits 1 1) a b (inr (inr (tt, both)), refl))
    locators_type Unequal (Some e) (Some f) a b =
        one_bit (with_two (Compare Unequal) e f)
        (of_two (Compare Unequal) e f t t (Strings OfBits 1 1) a b (inr (inr (tt, both)), refl))
    locators_type Equal (Some e) None a b = tt
    locators_type Unequal (Some e) None a b = tt
    locators_type Equal None q a b = tt
    locators_type Unequal None q a b = tt
    locators_type relation o q a b = tt

  beside_type : (relation : Relation) (v w : TypedValue) → HasValue s v → HasValue s w
      → OnGiven (HasValue s) (locators_beside relation v w)
  beside_type relation v w a b = by (are_offsets v.kind w.kind)
    where
      by : (c : Bool)
          → OnGiven (HasValue s)
          (if c then locators_compared relation (as_offset None v.expression v.kind) (as_offset None w.expression w.kind)
          else locators_compared relation (as_pointer v.expression v.kind) (as_pointer w.expression w.kind))
      by true =
          locators_type Offsets (inr refl) relation (as_offset None v.expression v.kind) (as_offset None w.expression w.kind)
          (offset_made s None tt v.expression v.kind a) (offset_made s None tt w.expression w.kind b)
      by false =
          locators_type Pointers (inl refl) relation (as_pointer v.expression v.kind) (as_pointer w.expression w.kind)
          (pointer_made s v.expression v.kind a) (pointer_made s w.expression w.kind b)

  compares : (relation : Relation) (v w : TypedValue) → HasValue s v → HasValue s w
      → OnGiven (HasValue s) (comparison 63 relation v w)
  compares relation v w a b = by (is_locator v.kind && is_locator w.kind)
    where
      by : (c : Bool)
          → OnGiven (HasValue s) (if c then locators_beside relation v w
          else compared 63 relation v w (string_type v.kind w.kind))
      by true = beside_type relation v w a b
      by false =
          compared_type relation v w (string_type v.kind w.kind) a b
          (strings_meet v.expression v.kind w.expression w.kind a b)

  string_value : (k : StringKind) (e : TypedExpression) (kind : ExpressionType) → KindIs k kind → IsShort s k e
      → HasType s e kind
  string_value OfCharacters e kind is h = substitute kind is
    where
      substitute : (kind : ExpressionType) → kind ≡ types.Characters → HasType s e kind
      substitute kind is = subst (HasType s e) (sym is) h
  string_value OfBits e kind is h = subst (HasType s e) (sym is) h

  concatenates : (v w : TypedValue) → HasValue s v → HasValue s w → OnGiven (HasValue s) (concatenation v w)
  concatenates v w a b =
      given_map (AreShort v.expression v.kind w.expression w.kind) (HasValue s) _ (string_type v.kind w.kind)
      (λ kind h. string_value h.0 (on_strings Concatenate v w kind) kind h.3 (
        0,
        longest,
        of_two Concatenate (string_as v.expression v.kind kind) (string_as w.expression w.kind kind) (Strings h.0 h.1.0 h.1.1) (Strings h.0 h.2.0 h.2.1) _ h.1.2 h.2.2
            (h.0, h.1.0, h.1.1, h.2.0, h.2.1, refl, refl),
        omega arith,
      ))
      (strings_meet v.expression v.kind w.expression w.kind a b)

  bits_alone : (operation : Operation) → ((a b c d : ℕ) → Computes 63 operation (Strings OfBits a b ∷ Strings OfBits c d ∷ []) (Strings OfBits 0 (max b d)))
      → (e f : TypedExpression) (one other : ExpressionType) → HasType s e one → HasType s f other
      → OnGiven (HasValue s) (of_bits_alone operation e f one other)
  bits_alone operation operates e f types.Bits types.Bits a b =
      (0, max a.1 b.1, of_two operation e f _ _ _ a.2 b.2 (operates a.0 a.1 b.0 b.1), omega (arith, a.3, b.3))
  bits_alone operation operates e f one other a b = tt

  pub infix_has_type : (operator : InfixOperator) (v w : TypedValue) → HasValue s v → HasValue s w
      → OnGiven (HasValue s) (infix_value 63 operator v w)
  infix_has_type infixes.Add = numbers_give Add (sum_precision 63) (sums Add (λ p q. (p, q, refl, refl)))
  infix_has_type infixes.Subtract =
      numbers_give Subtract (sum_precision 63) (sums Subtract (λ p q. (p, q, refl, refl)))
  infix_has_type infixes.Multiply = numbers_give Multiply (product_precision 63) products
  infix_has_type infixes.Equal = compares Equal
  infix_has_type infixes.NotEqual = compares Unequal
  infix_has_type infixes.Less = compares Less
  infix_has_type infixes.LessOrEqual = compares AtMost
  infix_has_type infixes.Greater = compares Greater
  infix_has_type infixes.GreaterOrEqual = compares AtLeast
  infix_has_type infixes.Concatenate = concatenates
  infix_has_type infixes.And = λ v w a b.
      bits_alone And (λ i j k l. (OfBits, i, j, k, l, refl, (refl, refl))) v.expression w.expression v.kind w.kind a b
  infix_has_type infixes.Or = λ v w a b.
      bits_alone Or (λ i j k l. (OfBits, i, j, k, l, refl, (refl, refl))) v.expression w.expression v.kind w.kind a b
