-- Conversions of an iteration lead to values that its variable holds, and its limits are numbers.
use Rattle.std.specs.Prelude.{◌≡◌, ℕ, true, Option, Some, None, option_map, List, [], ◌∷◌, ◌++◌, refl}
use Rattle.std.proofs.lemmas.Bool.{false≢true}
use Rattle.pli_map.specs.Description as described
use Rattle.pli_map.specs.Description.{Description}
use Rattle.pli_map.specs.ParameterTypes.{ParameterType, Stated, AnyString}
use Rattle.pli_map.specs.declared.parameter.StringForm.{StringForm}
use Rattle.pli_map.specs.declared.parameter.StringForm.TheVariants as forms
use Rattle.pli_type_rules.specs.ExpressionTypes.{TypedValue, string_conversions, bit_conversions, form_conversions, pointer_conversion, offset_conversion, conversion, conversion_to, null_as_offset, unconverted, columns, decimal_digits}
use Rattle.pli_type_rules.specs.StatementTyping.{suits_range}
use Rattle.pli_type_rules.specs.declared.beginning.Beginning.{Beginning}
use Rattle.pli_type_rules.specs.declared.expression_type.ExpressionType.{ExpressionType}
use Rattle.pli_type_rules.specs.declared.expression_type.ExpressionType.TheVariants as types
use Rattle.pli_type_laws.proofs.Conversions.{OnGiven, within_self, null_offset_typed}
use Rattle.pli_type_laws.proofs.Widths.{near_has_columns}
use Rattle.pli_type_laws.specs.ExpressionTyping.{HasType}
use Rattle.pli_type_laws.specs.NameFacts.{IsAreaNamed}
use Rattle.pli_type_tree.specs.TypedTree.{TypedOperation, Fit, TypedExpression, Conversion, ByOperations, ToPlace, TypedRange, Once, ToBy, ByTo, Repeated, RepeatedString}
use Rattle.pli_type_tree.specs.ValueTypes.{ValueType, StringKind, Numbers, Strings, Pointers, Offsets, OfCharacters, OfBits, kind_of_form, type_held, IsFitted}
use Rattle.pli_type_tree.specs.WellTyped.{TypingContext, IsTyped, Convert, ConvertToKind, ConvertsTo, ConvertsToKind, IsConversion, Counts, IsNumber, IsPossibleNumber, IsRange, IsRangeFor}

last : (d : Description) (t u : ValueType) → IsFitted d t → type_held d ≡ Some u → Convert 63 (Fit d ∷ []) t d
last d t u fits held = (u, (t, refl, fits, held), (u, held, within_self u))

module _ (s : TypingContext) where
  -- a number counts, whatever the number is that is converted to it
  abbrev pub CountsIf : Description → Conversion → Type 0
  CountsIf (described.FixedBinary q) c = Counts 63 s c (described.FixedBinary q)
  CountsIf other c = Unit {0}

  abbrev pub Converts : Description → TypedExpression → Conversion → Type 0
  Converts d e c = ((t : ValueType) × IsTyped 63 s e t × ConvertsTo 63 s c t d) × CountsIf d c

  numbers_convert : (area : Option Beginning) (p : ℕ) (e : TypedExpression) (kind : ExpressionType) → HasType s e kind
      → OnGiven (Converts (described.FixedBinary p) e) (conversion 63 area (described.FixedBinary p) kind)
  numbers_convert area p e (types.FixedDecimal digits) h = (
    (Numbers h.0, h.1, last (described.FixedBinary p) (Numbers h.0) (Numbers p) tt refl),
    ((p, refl), λ q. last (described.FixedBinary p) (Numbers q) (Numbers p) tt refl),
  )
  numbers_convert area p e (types.FixedBinary q) h = (
    (Numbers h.0, h.1, last (described.FixedBinary p) (Numbers h.0) (Numbers p) tt refl),
    ((p, refl), λ q. last (described.FixedBinary p) (Numbers q) (Numbers p) tt refl),
  )
  numbers_convert area p e kind h = tt

  bits_convert : (area : Option Beginning) (k : ℕ) (e : TypedExpression) (kind : ExpressionType) → HasType s e kind
      → OnGiven (Converts (described.Bit k) e) (conversion 63 area (described.Bit k) kind)
  bits_convert area k e types.Bits h =
      ((Strings OfBits h.0 h.1, h.2, last (described.Bit k) (Strings OfBits h.0 h.1) (Strings OfBits k k) tt refl), tt)
  bits_convert area k e kind h = tt

  -- characters of a number or of a string
  abbrev LeadsOn : Description → TypedExpression → List TypedOperation → Type 0
  LeadsOn d e operations = (t : ValueType) × IsTyped 63 s e t × Convert 63 (operations ++ Fit d ∷ []) t d

  characters_convert : (d : Description) (u : ValueType) → type_held d ≡ Some u
      → ((a b : ℕ) → IsFitted d (Strings OfCharacters a b)) → (e : TypedExpression) (kind : ExpressionType)
      → HasType s e kind → OnGiven (LeadsOn d e) (string_conversions kind)
  characters_convert d u held fits e (types.FixedDecimal digits) h =
      let width : ℕ = columns digits in
      (Numbers h.0, h.1, (Strings OfCharacters width width, (h.0, refl, (h.3, refl)), last d (Strings OfCharacters width width) u (fits width width) held))
  characters_convert d u held fits e (types.FixedBinary q) h =
      let width : ℕ = columns (decimal_digits q) in
      (Numbers h.0, h.1, (Strings OfCharacters width width, (h.0, refl, (near_has_columns h.0 q h.2, refl)), last d (Strings OfCharacters width width) u (fits width width) held))
  characters_convert d u held fits e types.Characters h =
      (Strings OfCharacters h.0 h.1, h.2, last d (Strings OfCharacters h.0 h.1) u (fits h.0 h.1) held)
  characters_convert d u held fits e types.Bits h = (
    Strings OfBits h.0 h.1,
    h.2,
    (Strings OfCharacters h.0 h.1, (OfBits, h.0, h.1, refl, (refl, refl)), last d (Strings OfCharacters h.0 h.1) u (fits h.0 h.1) held),
  )
  characters_convert d u held fits e types.Pointer h = tt
  characters_convert d u held fits e types.Null h = tt
  characters_convert d u held fits e (types.Offset area) h = tt
  characters_convert d u held fits e types.Area h = tt

  fitted_last : (d : Description) (e : TypedExpression) (o : Option (List TypedOperation))
      → ((c : Conversion) → CountsIf d c) → OnGiven (LeadsOn d e) o
      → OnGiven (Converts d e) (option_map (λ operations. ByOperations (operations ++ Fit d ∷ [])) o)
  fitted_last d e (Some operations) counts h = (h, counts (ByOperations (operations ++ Fit d ∷ [])))
  fitted_last d e None counts h = tt

  -- what becomes a pointer, and what becomes an offset: a locator of the same kind needs no conversion
  pointers_convert : (e : TypedExpression) (kind : ExpressionType) → HasType s e kind
      → OnGiven (Converts described.Pointer e) (pointer_conversion kind)
  pointers_convert e types.Pointer h = ((Pointers, h, (Pointers, refl, tt)), tt)
  pointers_convert e types.Null h = ((Pointers, h, (Pointers, refl, tt)), tt)
  pointers_convert e (types.Offset (Some area)) h = ((Offsets, h.0, (h.1, refl, (Pointers, refl, tt))), tt)
  pointers_convert e (types.Offset None) h = tt
  pointers_convert e kind h = tt

  offsets_convert : (area : Option Beginning) → IsAreaNamed 63 s area → (e : TypedExpression) (kind : ExpressionType) → HasType s e kind
      → OnGiven (Converts described.Offset (null_as_offset e kind)) (offset_conversion area kind)
  offsets_convert None there e (types.Offset other) h = ((Offsets, h.0, (Offsets, refl, tt)), tt)
  offsets_convert (Some area) there e (types.Offset other) h = ((Offsets, h.0, (Offsets, refl, tt)), tt)
  offsets_convert None there e types.Null h = ((Offsets, null_offset_typed s, (Offsets, refl, tt)), tt)
  offsets_convert (Some area) there e types.Null h = ((Offsets, null_offset_typed s, (Offsets, refl, tt)), tt)
  offsets_convert (Some area) there e types.Pointer h = ((Pointers, h, (there, refl, (Offsets, refl, tt))), tt)
  offsets_convert area there e kind h = tt

  described_convert : (area : Option Beginning) → IsAreaNamed 63 s area → (d : Description) (e : TypedExpression) (kind : ExpressionType)
      → HasType s e kind → OnGiven (Converts d (unconverted (Stated d) (record { expression = e; kind = kind }))) (conversion 63 area d kind)
  described_convert area there (described.FixedBinary p) e kind h = numbers_convert area p e kind h
  described_convert area there (described.Character k) e kind h =
      fitted_last (described.Character k) e (string_conversions kind) (λ c. tt)
      (characters_convert (described.Character k) _ refl (λ a b. tt) e kind h)
  described_convert area there (described.Varying k) e kind h =
      fitted_last (described.Varying k) e (string_conversions kind) (λ c. tt)
      (characters_convert (described.Varying k) _ refl (λ a b. tt) e kind h)
  described_convert area there (described.Bit k) e kind h = bits_convert area k e kind h
  described_convert area there described.Pointer e kind h = pointers_convert e kind h
  described_convert area there described.Offset e kind h = offsets_convert area there e kind h
  described_convert area there (described.Area k) e kind h = tt
  described_convert area there (described.Array bounds element) e kind h = tt
  described_convert area there (described.Structure _) e kind h = tt

  -- strings of a kind
  abbrev LeadsToKind : StringKind → TypedExpression → List TypedOperation → Type 0
  LeadsToKind kind e operations = (t : ValueType) × IsTyped 63 s e t × ConvertToKind 63 operations t kind

  characters_lead : (e : TypedExpression) (kind : ExpressionType) → HasType s e kind
      → OnGiven (LeadsToKind OfCharacters e) (string_conversions kind)
  characters_lead e (types.FixedDecimal digits) h =
      let width : ℕ = columns digits in
      (Numbers h.0, h.1, (Strings OfCharacters width width, (h.0, refl, (h.3, refl)), (width, width, refl)))
  characters_lead e (types.FixedBinary q) h =
      let width : ℕ = columns (decimal_digits q) in (
        Numbers h.0,
        h.1,
        (Strings OfCharacters width width, (h.0, refl, (near_has_columns h.0 q h.2, refl)), (width, width, refl)),
      )
  characters_lead e types.Characters h = (Strings OfCharacters h.0 h.1, h.2, (h.0, h.1, refl))
  characters_lead e types.Bits h = (
    Strings OfBits h.0 h.1,
    h.2,
    (Strings OfCharacters h.0 h.1, (OfBits, h.0, h.1, refl, (refl, refl)), (h.0, h.1, refl)),
  )
  characters_lead e types.Pointer h = tt
  characters_lead e types.Null h = tt
  characters_lead e (types.Offset area) h = tt
  characters_lead e types.Area h = tt

  bits_lead : (e : TypedExpression) (kind : ExpressionType) → HasType s e kind → OnGiven (LeadsToKind OfBits e) (bit_conversions kind)
  bits_lead e types.Bits h = (Strings OfBits h.0 h.1, h.2, (h.0, h.1, refl))
  bits_lead e kind h = tt

  form_leads : (form : StringForm) (e : TypedExpression) (kind : ExpressionType) → HasType s e kind
      → OnGiven (LeadsToKind (kind_of_form form) e) (form_conversions form kind)
  form_leads forms.Character e kind h = characters_lead e kind h
  form_leads forms.Varying e kind h = characters_lead e kind h
  form_leads forms.Bit e kind h = bits_lead e kind h

  -- a conversion takes an expression's values to what a variable of a type gets
  abbrev pub ConvertsFor : ParameterType → TypedExpression → Conversion → Type 0
  ConvertsFor (Stated d) e c = Converts d e c
  ConvertsFor (AnyString form) e c = (t : ValueType) × IsTyped 63 s e t × ConvertsToKind 63 c t (kind_of_form form)
  ConvertsFor type e c = ⊥

  pub converts_so : (type : ParameterType) (e : TypedExpression) (c : Conversion) → ConvertsFor type e c
      → (t : ValueType) × IsTyped 63 s e t × IsConversion 63 s c t type
  converts_so (Stated d) e c h = h.0
  converts_so (AnyString form) e c h = h
  converts_so type e c h = absurd h

  to_place : (form : StringForm) (e : TypedExpression) (o : Option (List TypedOperation)) → OnGiven (LeadsToKind (kind_of_form form) e) o
      → OnGiven (ConvertsFor (AnyString form) e) (option_map ToPlace o)
  to_place form e (Some operations) h = h
  to_place form e None h = tt

  pub conversions_hold : (area : Option Beginning) → IsAreaNamed 63 s area → (type : ParameterType) (v : TypedValue)
      → HasType s v.expression v.kind → OnGiven (ConvertsFor type (unconverted type v)) (conversion_to 63 area type v.kind)
  conversions_hold area there (Stated d) v h = described_convert area there d v.expression v.kind h
  conversions_hold area there (AnyString form) v h =
      to_place form v.expression (form_conversions form v.kind) (form_leads form v.expression v.kind h)
  conversions_hold area there type v h = tt

  -- TO and BY are numbers
  abbrev pub AreLimits : TypedRange → Type 0
  AreLimits Once = Unit {0}
  AreLimits (ToBy x y) = IsNumber 63 s x × IsPossibleNumber 63 s y
  AreLimits (ByTo x y) = IsNumber 63 s x × IsPossibleNumber 63 s y
  AreLimits (Repeated next) = ⊥
  AreLimits (RepeatedString next) = ⊥

  described_range : (d : Description) (c : Conversion) (range : TypedRange) → CountsIf d c
      → suits_range (Stated d) range ≡ true → AreLimits range → IsRange 63 s c d range
  described_range d c Once counts suits h = tt
  described_range (described.FixedBinary q) c (ToBy x y) counts suits h = (counts, h.0, h.1)
  described_range (described.FixedBinary q) c (ByTo x y) counts suits h = (counts, h.0, h.1)
  described_range d c (ToBy x y) counts suits h = absurd (false≢true suits)
  described_range d c (ByTo x y) counts suits h = absurd (false≢true suits)
  described_range d c (Repeated next) counts suits h = absurd h
  described_range d c (RepeatedString next) counts suits h = absurd h

  pub limits_range : (type : ParameterType) (e : TypedExpression) (c : Conversion) (range : TypedRange) → ConvertsFor type e c
      → suits_range type range ≡ true → AreLimits range → IsRangeFor 63 s c type range
  limits_range (Stated d) e c range h suits limits = described_range d c range h.1 suits limits
  limits_range (AnyString form) e c Once h suits limits = tt
  limits_range (AnyString form) e c (ToBy x y) h suits limits = absurd (false≢true suits)
  limits_range (AnyString form) e c (ByTo x y) h suits limits = absurd (false≢true suits)
  limits_range (AnyString form) e c (Repeated next) h suits limits = absurd limits
  limits_range (AnyString form) e c (RepeatedString next) h suits limits = absurd limits
  limits_range type e c range h suits limits = absurd h
