-- What names are to mean, for what is typed of them to be within the limits.
use Rattle.std.specs.Prelude.{◌≡◌, ℕ, ◌≤◌, ◌<◌, Option, Some, None, List, [], ◌∷◌, length}
use Rattle.std.specs.List.{AllByRecursion}
use Rattle.pli_map.specs.Description.{Description, Pointer, Offset}
use Rattle.pli_map.specs.ParameterTypes.{ParameterType, Stated, stated}
use Rattle.pli_type_rules.specs.Beginnings.{whole_at}
use Rattle.pli_type_rules.specs.ExpressionTypes.{TypedValue}
use Rattle.pli_type_rules.specs.FunctionCalls.{Denoted, DenotesVariable, DenotesResult, DenotesEmpty, Meant, OneValue, WholeAggregate, Argument}
use Rattle.pli_type_rules.specs.Names.{LocatorVariable, OfPointer, OfOffset, NamedStorage, Begins, IsBased, NamedVariable, NamedProcedure, NamedAs, AVariable, AProcedure}
use Rattle.pli_type_rules.specs.References.{StridedPart, part_on, whole_part, with_subscripts, Referent, LocatorBefore, NotLocated, LocatedBy, LocatedWrongly, locator_at}
use Rattle.pli_type_rules.specs.Typing.{Segment, OfVariable, OfFunction, OfEmpty, OfNoVariable}
use Rattle.pli_type_rules.specs.declared.beginning.Beginning.{Beginning}
use Rattle.pli_type_rules.specs.declared.expression_type.ExpressionType.{ExpressionType}
use Rattle.pli_type_rules.specs.declared.expression_type.ExpressionType.TheVariants as types
use Rattle.pli_type_tree.specs.TypedTree.{TypedReference, TypedUnit}
use Rattle.pli_deck_laws.specs.Limits.{parameter_limit, word_limit, IfThere, IsDescription, IsParameterType, IsStride}
use Rattle.pli_deck_laws.specs.WellFormed.{IsRoot, IsCallee, IsExpression, IsReference}

-- a part of a variable
pub record IsPart (q : StridedPart) : Type 0 where
  pub offset : q.offset < word_limit
  pub described : IsDescription q.description
  pub strides : AllByRecursion IsStride q.strides

module _ (t : TypedUnit) where
  -- an area that a declaration names begins where there is something
  abbrev pub IsAreaNamed : Option Beginning → Type 0
  IsAreaNamed area = IfThere (λ b. IsReference t (whole_at b)) area

  -- so does a variable that leads to BASED ones, and the area that it names
  abbrev pub IsLocatorVariable : LocatorVariable → Type 0
  IsLocatorVariable (OfPointer reference) = IsReference t reference
  IsLocatorVariable (OfOffset reference area) = IsReference t reference × IsReference t (whole_at area)

  abbrev pub IsImplied : Option LocatorVariable → Type 0
  IsImplied locator = IfThere IsLocatorVariable locator

  pub locator_fits : (r : TypedReference) (type : ParameterType) (area : Option Beginning) → IsReference t r → IsAreaNamed area
      → IsImplied (locator_at r type area)
  locator_fits r (Stated Pointer) None h k = h
  locator_fits r (Stated Pointer) (Some area) h k = h
  locator_fits r (Stated Offset) (Some area) h k = (h, k)
  locator_fits r type area h k = tt

  -- storage begins where there is something; or a locator that BASED names does
  abbrev pub IsStorage : NamedStorage → Type 0
  IsStorage (Begins root is_parameter) = IsRoot t root
  IsStorage (IsBased block number implied) = IsImplied implied

  -- what stands in front of an arrow is within the limits
  abbrev pub IsLocator : LocatorBefore → Type 0
  IsLocator NotLocated = Unit {0}
  IsLocator (LocatedBy e) = IsExpression t e
  IsLocator LocatedWrongly = Unit {0}

  -- it has storage, each of its parts is within the limits, and so is the area that its OFFSET names
  pub record IsVariable (v : NamedVariable) : Type 0 where
    pub storage : IsStorage v.storage
    pub whole : IsParameterType v.whole
    pub area : IsAreaNamed v.area
    pub parts : (d : Description) (p q : StridedPart) (given : ℕ) → stated v.whole ≡ Some d → part_on (whole_part d) v.path ≡ Some p
        → with_subscripts given p ≡ Some q → IsPart q

  -- it is there, has few parameters, and so is the area that its RETURNS names
  pub record IsProcedureNamed (p : NamedProcedure) : Type 0 where
    pub callee : IsCallee t p.callee
    pub few : length p.parameters ≤ parameter_limit
    pub described : AllByRecursion IsParameterType p.parameters
    pub area : IsAreaNamed p.area

  abbrev pub IsMeaning : NamedAs → Type 0
  IsMeaning (AVariable v) = IsVariable v
  IsMeaning (AProcedure p) = IsProcedureNamed p
  IsMeaning other = Unit {0}

  -- what is typed of them
  abbrev pub IsKind : ExpressionType → Type 0
  IsKind (types.Offset area) = IsAreaNamed area
  IsKind kind = Unit {0}

  abbrev pub IsValue : TypedValue → Type 0
  IsValue v = IsExpression t v.expression × IsKind v.kind

  pub record IsReferent (r : Referent) : Type 0 where
    pub reference : IsReference t r.reference
    pub described : IsParameterType r.description
    pub area : IsAreaNamed r.area

  abbrev pub IsMeant : Meant → Type 0
  IsMeant (OneValue v) = IsValue v
  IsMeant (WholeAggregate r) = IsReferent r

  abbrev pub IsDenoted : Denoted → Type 0
  IsDenoted (DenotesVariable r) = IsReferent r
  IsDenoted (DenotesResult v) = IsValue v
  IsDenoted DenotesEmpty = Unit {0}

  abbrev pub AreArgumentsGiven : List Argument → Type 0
  AreArgumentsGiven [] = Unit {0}
  AreArgumentsGiven (g ∷ gs) = IsDenoted g.denoted × AreArgumentsGiven gs

  abbrev pub IsSegment : Segment → Type 0
  IsSegment (OfVariable locator at v xs) = IsVariable v × AllByRecursion (IsExpression t) xs × IsLocator locator
  IsSegment (OfFunction v) = IsValue v
  IsSegment OfEmpty = Unit {0}
  IsSegment (OfNoVariable at) = Unit {0}
