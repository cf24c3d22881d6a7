-- Conversions: what they are fitted to, and characters of numbers.
use Rattle.std.specs.Prelude.{◌≡◌, ℕ, Bool, true, false, if◌then◌else◌, Option, Some, None, option_map, [], ◌∷◌, refl}
use Rattle.std.proofs.Common.{arith, subst}
use Rattle.pli_map.specs.Description as described
use Rattle.pli_map.specs.Description.{Description}
use Rattle.pli_map.specs.declared.parameter.StringForm.{StringForm}
use Rattle.pli_map.specs.declared.parameter.StringForm.TheVariants as forms
use Rattle.pli_operation.specs.declared.operation.Operation.TheVariants.{ToCharacters}
use Rattle.pli_type_rules.specs.ExpressionTypes.{TypedValue, null_offset, with_one, suited, suited_to_form, only_bits, as_pointer, as_offset, converted, printed, printed_from, as_characters, columns, decimal_digits}
use Rattle.pli_type_rules.specs.declared.beginning.Beginning.{Beginning}
use Rattle.pli_type_rules.specs.declared.expression_type.ExpressionType.{ExpressionType}
use Rattle.pli_type_rules.specs.declared.expression_type.ExpressionType.TheVariants as types
use Rattle.pli_type_laws.specs.ExpressionTyping.{HasType, IsShort, ConvertedIsHeld, PrintedIsString}
use Rattle.pli_type_laws.proofs.Widths.{near_has_columns}
use Rattle.pli_type_laws.specs.NameFacts.{IsAreaNamed}
use Rattle.pli_type_tree.specs.TypedTree.{Fit, Operate, TypedExpression}
use Rattle.pli_type_tree.specs.ValueTypes.{ValueType, Numbers, Strings, Pointers, Offsets, StringKind, OfCharacters, OfBits, kind_of_form, type_held, IsFitted, IsWithin, HaveColumns}
use Rattle.pli_type_tree.specs.WellTyped.{TypingContext, IsTyped, IsValueFor}
use Rattle.pli_value.specs.declared.locator.Locator.TheVariants as locators

-- what is there, if something is
abbrev pub OnGiven : {A : Type 0} → (A → Type 0) → Option A → Type 0
OnGiven P (Some x) = P x
OnGiven P None = Unit {0}

pub given_if : {A : Type 0} (P : A → Type 0) (b : Bool) (o : Option A) → OnGiven P o → OnGiven P (if b then o else None)
given_if P true o h = h
given_if P false o h = tt

-- what is there has what follows
pub given_weaker : {A : Type 0} (P Q : A → Type 0) (o : Option A) → ((x : A) → P x → Q x) → OnGiven P o → OnGiven Q o
given_weaker P Q (Some x) g h = g x h
given_weaker P Q None g h = tt

pub within_self : (t : ValueType) → IsWithin t t
within_self (Numbers p) = omega arith
within_self (Strings OfCharacters a b) = (omega arith, omega arith)
within_self (Strings OfBits a b) = (omega arith, omega arith)
within_self Pointers = tt
within_self Offsets = tt

some_same : {A : Type 0} {x y : A} → Some x ≡ Some y → x ≡ y
some_same e = cc

none_some : {A : Type 0} {x : A} → None ≡ Some x → ⊥
none_some e = absurd (cc)

pub when_some : {A : Type 0} (P : A → Type 0) (o : Option A) (x : A) → OnGiven P o → o ≡ Some x → P x
when_some P (Some y) x h e = subst P (some_same e) h
when_some P None x h e = absurd (none_some e)

module _ (s : TypingContext) where
  -- what can be fitted to a description
  abbrev Fits : Description → TypedExpression → Type 0
  Fits d e = (u : ValueType) × (t : ValueType) × IsTyped 63 s e u × IsFitted d u × (type_held d ≡ Some t)

  fitted : (d : Description) (e : TypedExpression) → Fits d e → IsValueFor 63 s d (with_one (Fit d) e)
  fitted d e (u, t, typed, fits, held) =
      (t, (u ∷ [], (u, [], refl, typed, refl), (u, refl, fits, held)), (t, held, within_self t))

  numbers_fit : (precision : ℕ) (e : TypedExpression) (kind : ExpressionType) → HasType s e kind
      → OnGiven (Fits (described.FixedBinary precision)) (suited 63 (described.FixedBinary precision) e kind)
  numbers_fit precision e (types.FixedDecimal digits) h = (Numbers h.0, Numbers precision, h.1, tt, refl)
  numbers_fit precision e (types.FixedBinary q) h = (Numbers h.0, Numbers precision, h.1, tt, refl)
  numbers_fit precision e kind h = tt

  bits_fit : (k : ℕ) (e : TypedExpression) (kind : ExpressionType) → HasType s e kind
      → OnGiven (Fits (described.Bit k)) (suited 63 (described.Bit k) e kind)
  bits_fit k e types.Bits h = (Strings OfBits h.0 h.1, Strings OfBits k k, h.2, tt, refl)
  bits_fit k e kind h = tt

  made_string : (e : TypedExpression) (width p : ℕ) → IsTyped 63 s e (Numbers p) → HaveColumns width p
      → IsTyped 63 s (with_one (Operate (ToCharacters width)) e) (Strings OfCharacters width width)
  made_string e width p typed room =
      (Numbers p ∷ [], (Numbers p, [], refl, typed, refl), (p, refl, (room, refl)))

  characters_fit : (d : Description) (t : ValueType) → type_held d ≡ Some t
      → ((a b : ℕ) → IsFitted d (Strings OfCharacters a b)) → (e : TypedExpression) (kind : ExpressionType)
      → HasType s e kind → OnGiven (Fits d) (as_characters e kind)
  characters_fit d t held fits e (types.FixedDecimal digits) h =
      (_, t, made_string e (columns digits) h.0 h.1 h.3, fits _ _, held)
  characters_fit d t held fits e (types.FixedBinary q) h =
      (_, t, made_string e (columns (decimal_digits q)) h.0 h.1 (near_has_columns h.0 q h.2), fits _ _, held)
  characters_fit d t held fits e types.Characters h = (_, t, h.2, fits h.0 h.1, held)
  characters_fit d t held fits e types.Bits h = (
    Strings OfCharacters h.0 h.1,
    t,
    (Strings OfBits h.0 h.1 ∷ [], (Strings OfBits h.0 h.1, [], refl, h.2, refl), (OfBits, h.0, h.1, refl, (refl, refl))),
    fits h.0 h.1,
    held,
  )
  characters_fit d t held fits e types.Pointer h = tt
  characters_fit d t held fits e types.Null h = tt
  characters_fit d t held fits e (types.Offset area) h = tt
  characters_fit d t held fits e types.Area h = tt

  -- strings of any length
  characters_suit : (e : TypedExpression) (kind : ExpressionType) → HasType s e kind → OnGiven (IsShort s OfCharacters) (as_characters e kind)
  characters_suit e (types.FixedDecimal digits) h =
      (columns digits, columns digits, made_string e (columns digits) h.0 h.1 h.3, omega arith)
  characters_suit e (types.FixedBinary q) h =
      let width : ℕ = columns (decimal_digits q) in
      (width, width, made_string e width h.0 h.1 (near_has_columns h.0 q h.2), omega arith)
  characters_suit e types.Characters h = h
  characters_suit e types.Bits h = (
    h.0,
    h.1,
    (Strings OfBits h.0 h.1 ∷ [], (Strings OfBits h.0 h.1, [], refl, h.2, refl), (OfBits, h.0, h.1, refl, (refl, refl))),
    h.3,
  )
  characters_suit e types.Pointer h = tt
  characters_suit e types.Null h = tt
  characters_suit e (types.Offset area) h = tt
  characters_suit e types.Area h = tt

  bits_suit : (e : TypedExpression) (kind : ExpressionType) → HasType s e kind → OnGiven (IsShort s OfBits) (only_bits e kind)
  bits_suit e types.Bits h = h
  bits_suit e kind h = tt

  pub string_suits : (form : StringForm) (e : TypedExpression) (kind : ExpressionType) → HasType s e kind
      → OnGiven (IsShort s (kind_of_form form)) (suited_to_form form e kind)
  string_suits forms.Character e kind h = characters_suit e kind h
  string_suits forms.Varying e kind h = characters_suit e kind h
  string_suits forms.Bit e kind h = bits_suit e kind h

  all_fit : (d : Description) (e : TypedExpression) (kind : ExpressionType) → HasType s e kind
      → OnGiven (Fits d) (suited 63 d e kind)
  all_fit (described.FixedBinary p) e kind h = numbers_fit p e kind h
  all_fit (described.Character k) e kind h = characters_fit (described.Character k) _ refl (λ a b. tt) e kind h
  all_fit (described.Varying k) e kind h = characters_fit (described.Varying k) _ refl (λ a b. tt) e kind h
  all_fit (described.Bit k) e kind h = bits_fit k e kind h
  all_fit described.Pointer e kind h = tt
  all_fit described.Offset e kind h = tt
  all_fit (described.Area k) e kind h = tt
  all_fit (described.Array bounds element) e kind h = tt
  all_fit (described.Structure _) e kind h = tt

  given_fit : (d : Description) (o : Option TypedExpression) → OnGiven (Fits d) o
      → OnGiven (IsValueFor 63 s d) (option_map (with_one (Fit d)) o)
  given_fit d (Some x) h = fitted d x h
  given_fit d None h = tt

  -- an expression gives pointers, or offsets
  abbrev pub IsAPointer : TypedExpression → Type 0
  IsAPointer e = IsTyped 63 s e Pointers

  abbrev pub IsAnOffset : TypedExpression → Type 0
  IsAnOffset e = IsTyped 63 s e Offsets

  -- a locator as a pointer, and as an offset
  pub pointer_made : (e : TypedExpression) (kind : ExpressionType) → HasType s e kind → OnGiven IsAPointer (as_pointer e kind)
  pointer_made e types.Pointer h = h
  pointer_made e types.Null h = h
  pointer_made e (types.Offset (Some area)) h = (h.0, h.1, refl)
  pointer_made e (types.Offset None) h = tt
  pointer_made e kind h = tt

  pub null_offset_typed : IsAnOffset null_offset
  null_offset_typed = (locators.Offset 0, refl, refl)

  pub offset_made : (area : Option Beginning) → IsAreaNamed 63 s area → (e : TypedExpression) (kind : ExpressionType) → HasType s e kind
      → OnGiven IsAnOffset (as_offset area e kind)
  offset_made None there e (types.Offset other) h = h.0
  offset_made (Some area) there e (types.Offset other) h = h.0
  offset_made None there e types.Null h = null_offset_typed
  offset_made (Some area) there e types.Null h = null_offset_typed
  offset_made (Some area) there e types.Pointer h = (h, there, refl)
  offset_made area there e kind h = tt

  -- a locator needs no fitting
  pub conversion_held : (area : Option Beginning) → IsAreaNamed 63 s area → (d : Description) (v : TypedValue)
      → HasType s v.expression v.kind → OnGiven (IsValueFor 63 s d) (converted 63 area d v)
  conversion_held area there described.Pointer v h =
      given_weaker IsAPointer (IsValueFor 63 s described.Pointer) (as_pointer v.expression v.kind)
      (λ x k. (Pointers, k, (Pointers, refl, tt))) (pointer_made v.expression v.kind h)
  conversion_held area there described.Offset v h =
      given_weaker IsAnOffset (IsValueFor 63 s described.Offset) (as_offset area v.expression v.kind)
      (λ x k. (Offsets, k, (Offsets, refl, tt))) (offset_made area there v.expression v.kind h)
  conversion_held area there d v h = given_fit d (suited 63 d v.expression v.kind) (all_fit d v.expression v.kind h)

  -- what is printed
  abbrev pub IsItem : TypedExpression → Type 0
  IsItem e = (kind : StringKind) × IsShort s kind e

  item_of : (e : TypedExpression) (kind : ExpressionType) → HasType s e kind
      → OnGiven IsItem (printed_from e kind)
  item_of e (types.FixedDecimal digits) h =
      (OfCharacters, (columns digits, columns digits, made_string e (columns digits) h.0 h.1 h.3, omega arith))
  item_of e (types.FixedBinary q) h =
      let width : ℕ = columns (decimal_digits q) in
      (OfCharacters, (width, width, made_string e width h.0 h.1 (near_has_columns h.0 q h.2), omega arith))
  item_of e types.Characters h = (OfCharacters, h)
  item_of e types.Bits h = (OfBits, h)
  item_of e types.Pointer h = tt
  item_of e types.Null h = tt
  item_of e (types.Offset area) h = tt
  item_of e types.Area h = tt

  pub printing_held : (v : TypedValue) → HasType s v.expression v.kind → OnGiven IsItem (printed v)
  printing_held v h = item_of v.expression v.kind h

pub converted_is_held : ConvertedIsHeld
converted_is_held s area d v e there h same =
    when_some (IsValueFor 63 s d) (converted 63 area d v) e (conversion_held s area there d v h) same

pub printed_is_string : PrintedIsString
printed_is_string s v e h same = when_some (IsItem s) (printed v) e (printing_held s v h) same
