-- What expressions denote: parts of variables that are placed, and values of their types.
use Rattle.std.specs.Prelude.{◌≡◌, Bool, false, IsTrue, Option, Some, List, [], ◌∷◌, Result, Ok, Err, refl}
use Rattle.std.proofs.Common.{arith}
use Rattle.std.proofs.lemmas.Bool.{and_parts, leb-true}
use Rattle.pli_base.specs.declared.token.Fault.{Fault}
use Rattle.pli_map.specs.Description.{Description, FixedBinary, Character, Varying, Bit, Pointer, Offset, Area, Array, Structure}
use Rattle.pli_map.specs.ParameterTypes.{ParameterType, Stated, AnyString, AnyArray, ArrayOf, StructureOf}
use Rattle.pli_map.specs.declared.parameter.StringForm.{StringForm}
use Rattle.pli_map.specs.declared.parameter.StringForm.TheVariants as forms
use Rattle.pli_type_rules.specs.ExpressionTypes.{type_of, form_type}
use Rattle.pli_type_rules.specs.FunctionCalls.{Denoted, DenotesVariable, DenotesResult, DenotesEmpty, Meant, OneValue, WholeAggregate, meant_by, meant_as}
use Rattle.pli_type_rules.specs.FunctionCalls.{Argument}
use Rattle.pli_type_rules.specs.NamedUnits.{may_stand, may_be}
use Rattle.pli_type_rules.specs.References.{Referent}
use Rattle.pli_type_rules.specs.declared.beginning.Beginning.{Beginning}
use Rattle.pli_type_laws.proofs.Conversions.{OnGiven}
use Rattle.pli_type_laws.proofs.Operators.{HasValue}
use Rattle.pli_type_laws.specs.ExpressionTyping.{HasType}
use Rattle.pli_type_laws.specs.NameFacts.{IsAreaNamed}
use Rattle.pli_type_tree.specs.TypedTree.{TypedExpression, TypedReference, Whole, Part, ElementOf, Held}
use Rattle.pli_type_tree.specs.ValueTypes.{ValueType, longest, type_held, type_kept}
use Rattle.pli_type_tree.specs.WellTyped.{TypingContext, BeginsWhole, IsTyped, IsRooted, IsPlaced}

-- what was read, if there is no fault
abbrev pub OnRead : {A : Type 0} → (A → Type 0) → Result A Fault → Type 0
OnRead P (Ok x) = P x
OnRead P (Err f) = Unit {0}

-- where a reference is to a whole variable, that is a whole generation, and no `*` stands in its type
abbrev pub IsOfWhole : TypingContext → TypedReference → Type 0
IsOfWhole s (Whole root) = BeginsWhole s root × ((d : Description) × IsRooted 63 s root (Stated d))
IsOfWhole s (Part root offset d subscripts) = Unit {0}
IsOfWhole s (ElementOf root subscripts) = Unit {0}

-- a part is placed, and may be one; it is of whole generations, but where it is in a parameter; and the
-- area is there that its OFFSET names
abbrev pub IsReferent : TypingContext → Referent → Type 0
IsReferent s r =
    IsPlaced 63 s r.reference r.description × IsTrue (may_be 63 r.description)
    × (r.is_parameter ≡ false → IsOfWhole s r.reference) × IsAreaNamed 63 s r.area

abbrev pub IsMeant : TypingContext → Meant → Type 0
IsMeant s (OneValue v) = HasValue s v
IsMeant s (WholeAggregate r) = IsReferent s r

abbrev pub IsDenoted : TypingContext → Denoted → Type 0
IsDenoted s (DenotesVariable r) = IsReferent s r
IsDenoted s (DenotesResult v) = HasValue s v
IsDenoted s DenotesEmpty = Unit {0}

abbrev pub AreArguments : TypingContext → List Argument → Type 0
AreArguments s [] = Unit {0}
AreArguments s (g ∷ gs) = IsDenoted s g.denoted × AreArguments s gs

module _ (s : TypingContext) where
  -- what has the type that a plain scalar holds
  abbrev IsOfType : TypedExpression → Description → Type 0
  IsOfType e d = (t : ValueType) → type_held d ≡ Some t → IsTyped 63 s e t

  pub scalar_typed : (area : Option Beginning) → IsAreaNamed 63 s area → (e : TypedExpression) (d : Description)
      → IsTrue (may_stand 63 d) → IsOfType e d → OnGiven (HasType s e) (type_of area d)
  scalar_typed area there e (FixedBinary p) plain h =
      (p, h _ refl, (omega arith, leb-true p 63 plain, leb-true p 63 plain))
  scalar_typed area there e (Character k) plain h = (k, k, h _ refl, leb-true k 32767 ((and_parts _ _ plain).1))
  scalar_typed area there e (Varying k) plain h = (0, k, h _ refl, leb-true k 32767 ((and_parts _ _ plain).1))
  scalar_typed area there e (Bit k) plain h = (k, k, h _ refl, leb-true k 32767 ((and_parts _ _ plain).1))
  scalar_typed area there e Pointer plain h = h _ refl
  scalar_typed area there e Offset plain h = (h _ refl, there)
  scalar_typed area there e (Area k) plain h = tt
  scalar_typed area there e (Array bounds element) plain h = tt
  scalar_typed area there e (Structure _) plain h = tt

  -- what has the type that a scalar keeps, whatever its length
  abbrev IsKept : TypedExpression → ParameterType → Type 0
  IsKept e type = (t : ValueType) → type_kept type ≡ Some t → IsTyped 63 s e t

  string_typed : (e : TypedExpression) (form : StringForm) → IsKept e (AnyString form) → HasType s e (form_type form)
  string_typed e forms.Character h = (0, longest, h _ refl, omega arith)
  string_typed e forms.Varying h = (0, longest, h _ refl, omega arith)
  string_typed e forms.Bit h = (0, longest, h _ refl, omega arith)

  held_as : (r : TypedReference) (type : ParameterType) → IsPlaced 63 s r type → IsKept (Held r) type
  held_as r type placed t e = (type, placed, e)

  -- what a variable holds
  abbrev as_referent : TypedReference → ParameterType → Bool → Option Beginning → Referent
  as_referent r type passed area = record { reference = r; description = type; is_parameter = passed; area = area }

  held_typed : (r : TypedReference) (type : ParameterType) (passed : Bool) (area : Option Beginning)
      → IsReferent s (as_referent r type passed area) → IsMeant s (meant_by (as_referent r type passed area))
  held_typed r (Stated (FixedBinary p)) passed area h =
      scalar_typed area h.3 (Held r) (FixedBinary p) h.1 (held_as r (Stated (FixedBinary p)) h.0)
  held_typed r (Stated (Character k)) passed area h =
      scalar_typed area h.3 (Held r) (Character k) h.1 (held_as r (Stated (Character k)) h.0)
  held_typed r (Stated (Varying k)) passed area h =
      scalar_typed area h.3 (Held r) (Varying k) h.1 (held_as r (Stated (Varying k)) h.0)
  held_typed r (Stated (Bit k)) passed area h =
      scalar_typed area h.3 (Held r) (Bit k) h.1 (held_as r (Stated (Bit k)) h.0)
  held_typed r (Stated Pointer) passed area h = scalar_typed area h.3 (Held r) Pointer h.1 (held_as r (Stated Pointer) h.0)
  held_typed r (Stated Offset) passed area h = scalar_typed area h.3 (Held r) Offset h.1 (held_as r (Stated Offset) h.0)
  held_typed r (Stated (Area k)) passed area h = tt
  held_typed r (Stated (Array bounds element)) passed area h = h
  held_typed r (Stated (Structure _)) passed area h = h
  held_typed r (AnyString form) passed area h = string_typed (Held r) form (held_as r (AnyString form) h.0)
  held_typed r (AnyArray dimensions element) passed area h = h
  held_typed r (ArrayOf bounds element) passed area h = h
  held_typed r (StructureOf _) passed area h = h

  pub denoted_meant : (d : Denoted) → IsDenoted s d → IsMeant s (meant_as d)
  denoted_meant (DenotesVariable r) h = held_typed r.reference r.description r.is_parameter r.area h
  denoted_meant (DenotesResult v) h = h
  denoted_meant DenotesEmpty h = tt
