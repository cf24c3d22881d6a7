-- Calls of procedures: arguments fit parameters, and functions give values of their types.
use Rattle.std.specs.Prelude.{◌≡◌, ℕ, nat_eq, Bool, true, false, IsTrue, Option, Some, None, option_map, List, [], ◌∷◌, length, refl}
use Rattle.std.specs.Prelude.{if◌then◌else◌}
use Rattle.std.proofs.Common.{sym, subst, ◌∙◌}
use Rattle.std.proofs.lemmas.Bool.{true≢false, false≢true}
use Rattle.pli_map.specs.Description.{Description, Area}
use Rattle.pli_map.specs.ParameterTypes.{ParameterType, Stated, AnyString, agrees}
use Rattle.pli_map.specs.Scalars.{is_area}
use Rattle.pli_map.specs.laws.SameLaws.{same_decides}
use Rattle.pli_type_rules.specs.Beginnings.{area_meant, whole_at}
use Rattle.pli_type_rules.specs.ExpressionTypes.{type_of}
use Rattle.pli_type_rules.specs.FunctionCalls.{Denoted, DenotesVariable, DenotesResult, DenotesEmpty, Meant, OneValue, meant_as, Argument}
use Rattle.pli_type_rules.specs.NamedUnits.{is_plain}
use Rattle.pli_type_rules.specs.Names.{NamedProcedure}
use Rattle.pli_type_rules.specs.ProcedureCalls.{place_of, passed_place, passed_value, handed, passed, all_passed}
use Rattle.pli_type_rules.specs.ProcedureCalls.{arguments_passed, result_of}
use Rattle.pli_type_rules.specs.TypingSteps.{passed_before, or_wrong_argument, type_returned}
use Rattle.pli_type_rules.specs.declared.expression_type.ExpressionType.{ExpressionType}
use Rattle.pli_type_laws.proofs.Conversions.{OnGiven, given_weaker, conversion_held, string_suits}
use Rattle.pli_type_laws.proofs.Denotations.{OnRead, IsMeant, IsDenoted, AreArguments, scalar_typed, denoted_meant}
use Rattle.pli_type_laws.proofs.Operators.{HasValue}
use Rattle.pli_type_laws.proofs.References.{read_if}
use Rattle.pli_type_laws.specs.ExpressionTyping.{HasType, IsShort}
use Rattle.pli_type_laws.proofs.PlainDescriptions.{plain_stands, may_narrow}
use Rattle.pli_type_laws.specs.NameFacts.{IsAreaNamed}
use Rattle.pli_type_tree.specs.TypedTree.{InSlot, OfProgram, NewestOf, Located, TypedExpression, TypedReference, Whole, TypedArguments, Called}
use Rattle.pli_type_tree.specs.ValueTypes.{kind_of_form}
use Rattle.pli_type_tree.specs.WellTyped.{TypingContext, IsCallee, IsPlaced, IsAreaReference, IsNarrow, ArePassed, IsValueFor, is_area_type}

-- a procedure that a name means is one of the unit, and reached, or an entry; what it gives is plain, and the area is
-- there that its RETURNS names
pub record IsCallable (s : TypingContext) (p : NamedProcedure) : Type 0 where
  pub there : IsCallee s.globals s.procedures s.blocks p.callee p.parameters p.returned
  pub plain : (d : Description) → p.returned ≡ Some d → IsTrue (is_plain 63 d)
  pub area : IsAreaNamed 63 s p.area

module _ (s : TypingContext) where
  -- a place of what is of this type, that of a whole area where it is one
  abbrev IsHanded : ParameterType → TypedReference → Type 0
  IsHanded type r = IsPlaced 63 s r type × (is_area_type type ≡ true → IsAreaReference 63 s r)

  area_handed : (r : TypedReference) (type : ParameterType) → IsPlaced 63 s r type
      → OnGiven (λ x. IsPlaced 63 s x type × IsAreaReference 63 s x) (option_map whole_at (area_meant r type))
  area_handed (Whole (InSlot outward slot)) (Stated (Area bytes)) placed = (placed, (tt, (Area bytes, placed, refl)))
  area_handed (Whole (OfProgram number)) (Stated (Area bytes)) placed = (placed, (tt, (Area bytes, placed, refl)))
  area_handed (Whole (NewestOf number)) (Stated (Area bytes)) placed = (placed, (tt, (Area bytes, placed, refl)))
  area_handed (Whole (Located locator whole)) (Stated (Area bytes)) placed = tt
  area_handed r type placed = tt

  place_handed : (r : TypedReference) (type : ParameterType) → IsPlaced 63 s r type → OnGiven (IsHanded type) (place_of r type)
  place_handed r type placed = by (is_area_type type) refl
    where
      by : (b : Bool) → is_area_type type ≡ b
          → OnGiven (IsHanded type) (if b then option_map whole_at (area_meant r type) else Some r)
      by true e =
          given_weaker (λ x. IsPlaced 63 s x type × IsAreaReference 63 s x) (IsHanded type) (option_map whole_at (area_meant r type))
          (λ x h. (h.0, λ is. h.1)) (area_handed r type placed)
      by false e = (placed, λ is. absurd (true≢false (sym is ∙ e)))

  -- a place that is handed over for a parameter of this type
  abbrev IsGiven : ParameterType → TypedReference → Type 0
  IsGiven type r =
      (argument : ParameterType) × IsPlaced 63 s r argument × IsTrue (agrees type argument) × IsNarrow argument
      × (is_area_type type ≡ true → IsAreaReference 63 s r)

  -- an area agrees with areas only
  area_agrees : (type argument : ParameterType) → is_area_type type ≡ true → agrees type argument ≡ true
      → is_area_type argument ≡ true
  area_agrees (Stated d) (Stated e) is same = subst (λ x. is_area x ≡ true) ((same_decides d e).0 same) is
  area_agrees (Stated d) argument is same = absurd (false≢true same)
  area_agrees type argument is same = absurd (false≢true is)

  place_if : (b : Bool) (type : ParameterType) (o : Option TypedReference) → (b ≡ true → OnGiven (IsGiven type) o)
      → OnGiven (IsGiven type) (if b then o else None)
  place_if true type o h = h refl
  place_if false type o h = tt

  place_passed : (type : ParameterType) (a : Denoted) → IsDenoted s a → OnGiven (IsGiven type) (passed_place type a)
  place_passed type (DenotesVariable r) h =
      place_if (agrees type r.description) type (place_of r.reference r.description)
      (λ e. given_weaker (IsHanded r.description) (IsGiven type) (place_of r.reference r.description)
      (λ x k. (
        r.description,
        k.0,
        e,
        may_narrow 63 r.description h.1,
        λ is. k.1 (area_agrees type r.description is e),
      )) (place_handed r.reference r.description h.0))
  place_passed type (DenotesResult v) h = tt
  place_passed type DenotesEmpty h = tt

  -- a value that is handed over for it
  abbrev IsSuited : ParameterType → TypedExpression → Type 0
  IsSuited (Stated d) e = IsValueFor 63 s d e
  IsSuited (AnyString form) e = IsShort s (kind_of_form form) e
  IsSuited type e = Unit {0}

  value_passed : (type : ParameterType) (m : Meant) → IsMeant s m → OnGiven (IsSuited type) (passed_value 63 type m)
  value_passed (Stated d) (OneValue v) h = conversion_held s None tt d v h
  value_passed (AnyString form) (OneValue v) h = string_suits s form v.expression v.kind h
  value_passed type m h = tt

  value_handed : (type : ParameterType) (types : List ParameterType) (e : TypedExpression) (more : TypedArguments) → IsSuited type e
      → ArePassed 63 s more types → OnGiven (λ xs. ArePassed 63 s xs (type ∷ types)) (handed type e more)
  value_handed (Stated d) types e more b h = (types, refl, b, h)
  value_handed (AnyString form) types e more b h = (types, refl, b, h)
  value_handed type types e more b h = tt

  one_passed : (type : ParameterType) (types : List ParameterType) (place : Option TypedReference) (value : Option TypedExpression)
      (more : TypedArguments) → OnGiven (IsGiven type) place → OnGiven (IsSuited type) value
      → ArePassed 63 s more types → OnGiven (λ xs. ArePassed 63 s xs (type ∷ types)) (passed type place value more)
  one_passed type types (Some r) value more a b h = (type, a.0, types, refl, a.1, a.2, a.3, a.4, h)
  one_passed type types None (Some e) more a b h = value_handed type types e more b h
  one_passed type types None None more a b h = tt

  before : (type : ParameterType) (types : List ParameterType) (g : Argument) (more : Option TypedArguments) → IsDenoted s g.denoted
      → OnGiven (λ xs. ArePassed 63 s xs types) more
      → OnGiven (λ xs. ArePassed 63 s xs (type ∷ types)) (passed_before 63 type g more)
  before type types g None h k = tt
  before type types g (Some more) h k =
      one_passed type types (passed_place type g.denoted) (passed_value 63 type (meant_as g.denoted)) more
      (place_passed type g.denoted h) (value_passed type (meant_as g.denoted) (denoted_meant s g.denoted h)) k

  suited : (types : List ParameterType) (gs : List Argument) → AreArguments s gs
      → OnGiven (λ xs. ArePassed 63 s xs types) (all_passed 63 types gs)
  suited [] [] h = refl
  suited [] (g ∷ gs) h = tt
  suited (t ∷ types) [] h = tt
  suited (t ∷ types) (g ∷ gs) h = before t types g (all_passed 63 types gs) h.0 (suited types gs h.1)

  or_wrong : (at : ℕ) (types : List ParameterType) (o : Option TypedArguments) → OnGiven (λ xs. ArePassed 63 s xs types) o
      → OnRead (λ xs. ArePassed 63 s xs types) (or_wrong_argument at o)
  or_wrong at types (Some xs) h = h
  or_wrong at types None h = tt

  pub arguments_fit : (p : NamedProcedure) (at : ℕ) (gs : List Argument) → AreArguments s gs
      → OnRead (λ xs. ArePassed 63 s xs p.parameters) (arguments_passed 63 p at gs)
  arguments_fit p at gs h =
      read_if (λ xs. ArePassed 63 s xs p.parameters) (nat_eq (length gs) (length p.parameters)) _ _
      (or_wrong at p.parameters (all_passed 63 p.parameters gs) (suited p.parameters gs h)) tt

  module _ (p : NamedProcedure) (callable : IsCallable s p) (xs : TypedArguments) (fit : ArePassed 63 s xs p.parameters) where
    -- it gives this
    pub gives : (o : Option Description) → p.returned ≡ o → IsCallee s.globals s.procedures s.blocks p.callee p.parameters o
    gives o e = subst (IsCallee s.globals s.procedures s.blocks p.callee p.parameters) e callable.there

    of_kind : (at : ℕ) (o : Option ExpressionType) → OnGiven (HasType s (Called p.callee xs)) o
        → OnRead (HasValue s) (result_of at p.callee xs o)
    of_kind at (Some kind) h = h
    of_kind at None h = tt

    by_returned : (at : ℕ) (o : Option Description) → p.returned ≡ o
        → OnRead (HasValue s) (result_of at p.callee xs (type_returned p.area o))
    by_returned at None e = tt
    by_returned at (Some d) e =
        of_kind at (type_of p.area d)
        (scalar_typed s p.area callable.area (Called p.callee xs) d (plain_stands 63 d (callable.plain d e))
        (λ t held. (p.parameters, d, gives (Some d) e, fit, held)))

    pub result_typed : (at : ℕ) → OnRead (HasValue s) (result_of at p.callee xs (type_returned p.area p.returned))
    result_typed at = by_returned at p.returned refl
