-- Expressions and references are within the limits: by induction on the source tree.
use Rattle.std.specs.Prelude.{◌≡◌, ℕ, suc, ◌≤◌, nat_eq, nat_le, Bool, true, false, ◌&&◌, Option, Some, None, option_map, option_and_then}
use Rattle.std.specs.Prelude.{List, [], ◌∷◌, length, Result, refl, if◌then◌else◌}
use Rattle.std.specs.List.{AllByRecursion}
use Rattle.std.proofs.Common.{arith, subst, ap, sym}
use Rattle.pli_base.specs.Syntax.{Expression, Referred, Constant, Parenthesized, Prefix, Infix, Reference, Named}
use Rattle.pli_base.specs.Syntax.{JoinedParts, Alone, Joined, Arguments, Absent, Given, Expressions, Empty, Listed}
use Rattle.pli_base.specs.declared.code.Code.TheVariants.{WrongOperandType}
use Rattle.pli_base.specs.declared.token.Fault.{Fault}
use Rattle.pli_base.specs.declared.syntax.Joining.TheVariants.{Member, Located}
use Rattle.pli_gen_emit.specs.TreeTranslation.{argument_count}
use Rattle.pli_map.specs.Description as described
use Rattle.pli_map.specs.Description.{Description}
use Rattle.pli_map.specs.ParameterTypes.{ParameterType, Stated, AnyString, AnyArray, ArrayOf, StructureOf, stated, agrees, is_aggregate_type}
use Rattle.pli_map.specs.Sizes.{size_of}
use Rattle.pli_type_rules.specs.Beginnings.{area_meant, whole_at}
use Rattle.pli_type_rules.specs.ExpressionTypes.{TypedValue, precision_of, prefix_value, infix_value, all_operands, converted}
use Rattle.pli_declare.specs.declared.built_in.BuiltInFunction.{BuiltInFunction}
use Rattle.pli_declare.specs.declared.built_in.BuiltInFunction.TheVariants as functions
use Rattle.pli_type_rules.specs.FunctionCalls.{Denoted, DenotesVariable, DenotesResult, DenotesEmpty, Meant, OneValue, WholeAggregate, meant_as, Argument}
use Rattle.pli_type_rules.specs.FunctionCalls.{roles_of, function_called}
use Rattle.pli_type_rules.specs.Names.{LocatorVariable, OfPointer, OfOffset, NamedAs, AVariable, AFunction, AProcedure, NamedStorage, Begins, IsBased, NamedVariable, NamedProcedure, Naming}
use Rattle.pli_type_rules.specs.ProcedureCalls.{place_of, passed_place, passed_value, handed, passed, all_passed}
use Rattle.pli_type_rules.specs.ProcedureCalls.{arguments_passed, result_of}
use Rattle.pli_type_rules.specs.References.{Role, AsValue, AsArgument, AsLocator, wants_scalar, variable_meant, whole_meant, StridedPart, part_on, part_of, whole_part, with_subscripts, subscripts_at, reference_to, open_part, open_reference, open_referent, open_settled, Referent, permitted, settled}
use Rattle.pli_type_rules.specs.References.{LocatorBefore, NotLocated, LocatedBy, LocatedWrongly, locator_at, located_by, pointer_of, root_by, passed_root, referent_from}
use Rattle.pli_type_rules.specs.Typing.{first_token, how_many, or_fault, one_value, roles_or_none}
use Rattle.pli_type_rules.specs.Typing.{subscript_value, Segment, OfVariable, OfFunction, OfEmpty, OfNoVariable, is_call, with_more, ended, as_locator, named_alone, given_by, procedure_called}
use Rattle.pli_type_rules.specs.Typing.{as_value, denoted, meant, referred, joined, begun, subscripts_in, all_subscripts, all_arguments, value_of}
use Rattle.pli_type_rules.specs.TypingSteps.{passed_before, or_wrong_argument, type_returned, begins_somewhere}
use Rattle.pli_type_rules.specs.declared.beginning.Beginning.{Beginning}
use Rattle.pli_type_rules.specs.declared.expression_type.ExpressionType.{ExpressionType}
use Rattle.pli_type_tree.specs.Templates.{Template}
use Rattle.pli_type_tree.specs.TypedTree.{Root, Stride, TypedExpression, TypedReference, TypedArguments, TypedUnit}
use Rattle.pli_type_tree.specs.WellTyped.{is_area_type, operand_count}
use Rattle.pli_type_laws.proofs.Conversions.{OnGiven, given_if}
use Rattle.pli_type_laws.proofs.Denotations.{OnRead}
use Rattle.pli_type_laws.proofs.Expressions.{read_option}
use Rattle.pli_type_laws.proofs.References.{read_then, read_if}
use Rattle.pli_type_laws.proofs.InitialHeld.{all_after}
use Rattle.pli_type_bounds.proofs.Meanings.{IsPart, IsAreaNamed, IsLocatorVariable, IsImplied, locator_fits, IsStorage, IsLocator, IsVariable, IsProcedureNamed, IsMeaning, IsKind, IsValue, IsReferent, IsMeant, IsDenoted, AreArgumentsGiven, IsSegment}
use Rattle.pli_type_bounds.proofs.OperatorsFit.{given_made, constant_fits, operands_fit, prefix_fits, infix_fits, suited_to_fits, converted_fits, kinds_held, area_fits, denoted_fits, functions_fit}
use Rattle.pli_type_bounds.proofs.TypesFit.{stated_fits, open_part_fits}
use Rattle.pli_deck_laws.specs.Limits.{parameter_limit, IsDescription, IsMade, IsParameterType, IsStride}
use Rattle.pli_deck_laws.specs.WellFormed.{IsRoot, IsExpression, IsReference, AreSubscripts, AreArguments}

module _ (t : TypedUnit) where
  -- ---- references

  subscripts_fit : (ss : List Stride) (xs : List TypedExpression) → AllByRecursion IsStride ss → AllByRecursion (IsExpression t) xs
      → AreSubscripts t (subscripts_at ss xs)
  subscripts_fit (s ∷ ss) (x ∷ xs) h k = (h.0, k.0, subscripts_fit ss xs h.1 k.1)
  subscripts_fit [] xs h k = tt
  subscripts_fit (s ∷ ss) [] h k = tt

  reference_fits : (root : Root) (path : List ℕ) (q : StridedPart) (xs : List TypedExpression) → IsRoot t root → IsPart q
      → AllByRecursion (IsExpression t) xs → IsReference t (reference_to root path q xs)
  reference_fits root [] q [] r h k = r
  reference_fits root [] q (x ∷ xs) r h k = (r, h.offset, h.described, subscripts_fit q.strides (x ∷ xs) h.strides k)
  reference_fits root (i ∷ path) q xs r h k = (r, h.offset, h.described, subscripts_fit q.strides xs h.strides k)

  operands_counted : (xs : List TypedExpression) → operand_count (all_operands xs) ≡ length xs
  operands_counted [] = refl
  operands_counted (x ∷ xs) = ap suc (operands_counted xs)

  open_reference_fits : (root : Root) (xs : List TypedExpression) → IsRoot t root → length xs ≤ 8 → AllByRecursion (IsExpression t) xs
      → IsReference t (open_reference root xs)
  open_reference_fits root [] h few k = h
  open_reference_fits root (x ∷ xs) h few k = (h, omega (arith, few, operands_counted (x ∷ xs)), operands_fit t (x ∷ xs) k)

  -- what a variable gives that leads to BASED ones
  pointer_given : (locator : LocatorVariable) → IsLocatorVariable t locator → IsExpression t (pointer_of locator)
  pointer_given (OfPointer reference) h = h
  pointer_given (OfOffset reference area) h = (h.1, h.0)

  located_fits : (o : Option LocatorVariable) → IsImplied t o → IsLocator t (located_by o)
  located_fits None h = tt
  located_fits (Some locator) h = pointer_given locator h

  -- where a reference begins
  root_fits : (storage : NamedStorage) (whole : Description) (locator : LocatorBefore) → IsStorage t storage → IsDescription whole
      → IsLocator t locator → OnGiven (IsRoot t) (root_by storage whole locator)
  root_fits (Begins root is_parameter) whole NotLocated h good k = h
  root_fits (Begins root is_parameter) whole (LocatedBy e) h good k = tt
  root_fits (Begins root is_parameter) whole LocatedWrongly h good k = tt
  root_fits (IsBased block number None) whole NotLocated h good k = tt
  root_fits (IsBased block number (Some implied)) whole NotLocated h good k = (pointer_given implied h, good)
  root_fits (IsBased block number None) whole (LocatedBy e) h good k = (k, good)
  root_fits (IsBased block number (Some implied)) whole (LocatedBy e) h good k = (k, good)
  root_fits (IsBased block number None) whole LocatedWrongly h good k = tt
  root_fits (IsBased block number (Some implied)) whole LocatedWrongly h good k = tt

  -- where a reference begins to a parameter in which a `*` stands
  passed_root_fits : (storage : NamedStorage) (locator : LocatorBefore) → IsStorage t storage → OnGiven (IsRoot t) (passed_root storage locator)
  passed_root_fits (Begins root is_parameter) NotLocated h = h
  passed_root_fits (Begins root is_parameter) (LocatedBy e) h = tt
  passed_root_fits (Begins root is_parameter) LocatedWrongly h = tt
  passed_root_fits (IsBased block number implied) locator h = tt

  somewhere : (at : ℕ) (o : Option Referent) → OnGiven (IsReferent t) o → OnRead (IsReferent t) (begins_somewhere at o)
  somewhere at (Some r) h = h
  somewhere at None h = tt

  allowed : (role : Role) (at : ℕ) (type : ParameterType) (o : Option Referent) → OnGiven (IsReferent t) o
      → OnRead (IsReferent t) (permitted role at type o)
  allowed role at type o h = read_if (IsReferent t) (wants_scalar role && is_aggregate_type type) _ _ tt (somewhere at o h)

  module _ (role : Role) (locator : LocatorBefore) (located : IsLocator t locator) (at : ℕ) (v : NamedVariable) (known : IsVariable t v)
      (xs : List TypedExpression) (given : AllByRecursion (IsExpression t) xs) where
    with_root : (q : StridedPart) → IsPart q → (o : Option Root) → OnGiven (IsRoot t) o
        → OnGiven (IsReferent t) (option_map (referent_from v xs q) o)
    with_root q part None h = tt
    with_root q part (Some root) h = record {
      reference = reference_fits root v.path q xs h part given;
      described = part.described;
      area = known.area;
    }

    module _ (d : Description) (whole : stated v.whole ≡ Some d) where
      with_part : (p : StridedPart) → part_on (whole_part d) v.path ≡ Some p → (o : Option StridedPart) → with_subscripts (length xs) p ≡ o
          → OnRead (IsReferent t) (settled role locator at v d xs o)
      with_part p is None e = tt
      with_part p is (Some q) e =
          allowed role at (Stated q.description) (option_map (referent_from v xs q) (root_by v.storage d locator))
          (with_root q (known.parts d p q (length xs) whole is e) (root_by v.storage d locator)
          (root_fits v.storage d locator known.storage (stated_fits v.whole d known.whole whole) located))

      in_variable : (o : Option StridedPart) → part_on (whole_part d) v.path ≡ o
          → OnRead (IsReferent t) (settled role locator at v d xs (option_and_then (with_subscripts (length xs)) o))
      in_variable None is = tt
      in_variable (Some p) is = with_part p is (with_subscripts (length xs) p) refl

    -- a parameter in which a `*` stands, or an element of it
    with_open_root : (type : ParameterType) → IsParameterType type → length xs ≤ 8 → (o : Option Root) → OnGiven (IsRoot t) o
        → OnGiven (IsReferent t) (option_map (open_referent v xs type) o)
    with_open_root type good few None h = tt
    with_open_root type good few (Some root) h =
        record { reference = open_reference_fits root xs h few given; described = good; area = known.area }

    in_open : (o : Option ParameterType) → open_part v.whole (length xs) ≡ o → OnRead (IsReferent t) (open_settled role locator at v xs o)
    in_open None e = tt
    in_open (Some type) e =
        let good = open_part_fits v.whole (length xs) type known.whole e in
        allowed role at type (option_map (open_referent v xs type) (passed_root v.storage locator))
        (with_open_root type good.0 good.1 (passed_root v.storage locator) (passed_root_fits v.storage locator known.storage))

    in_whole : (o : Option Description) → stated v.whole ≡ o → OnRead (IsReferent t) (whole_meant role locator at v xs o)
    in_whole (Some d) is =
        in_variable d is (part_of v) (sym (ap (option_and_then (λ (e : Description). part_on (whole_part e) v.path)) is))
    in_whole None is = in_open (open_part v.whole (length xs)) refl

    variable_fits : OnRead (IsReferent t) (variable_meant role locator at v xs)
    variable_fits = in_whole (stated v.whole) refl

  -- ---- calls

  bytes_small : (b c : Bool) → (if b then 2 else if c then 4 else 8) ≤ 1000000
  bytes_small true c = omega arith
  bytes_small false true = omega arith
  bytes_small false false = omega arith

  -- what is converted is a scalar, and small
  small : (d : Description) (v : TypedValue) (e : TypedExpression) → IsDescription d → converted 63 None d v ≡ Some e → size_of d ≤ 1000000
  small (described.FixedBinary p) v e h k = bytes_small (nat_le p 15) (nat_le p 31)
  small (described.Character n) v e h k = omega (arith, h)
  small (described.Varying n) v e h k = omega (arith, h)
  small (described.Bit n) v e h k = omega (arith, h)
  small described.Pointer v e h k = omega arith
  small described.Offset v e h k = omega arith
  small d v e h k = absurd (cc)

  -- a place that is handed over: that of a whole area, or any
  whole_fits : (o : Option Beginning) → IsAreaNamed t o → OnGiven (IsReference t) (option_map whole_at o)
  whole_fits (Some b) h = h
  whole_fits None h = tt

  place_chosen : (b : Bool) (o q : Option TypedReference) → OnGiven (IsReference t) o → OnGiven (IsReference t) q
      → OnGiven (IsReference t) (if b then o else q)
  place_chosen true o q h k = h
  place_chosen false o q h k = k

  place_of_fits : (r : TypedReference) (type : ParameterType) → IsReference t r → OnGiven (IsReference t) (place_of r type)
  place_of_fits r type h =
      place_chosen (is_area_type type) (option_map whole_at (area_meant r type)) (Some r) (whole_fits (area_meant r type) (area_fits t r type h)) h

  place_fits : (type : ParameterType) (a : Denoted) → IsDenoted t a → OnGiven (IsReference t) (passed_place type a)
  place_fits type (DenotesVariable r) h =
      given_if (IsReference t) (agrees type r.description) (place_of r.reference r.description) (place_of_fits r.reference r.description h.reference)
  place_fits type (DenotesResult v) h = tt
  place_fits type DenotesEmpty h = tt

  -- a value that is handed over for a parameter of a type
  abbrev IsHanded : ParameterType → TypedExpression → Type 0
  IsHanded (Stated d) e = IsMade d × IsExpression t e
  IsHanded type e = IsExpression t e

  dummy_of : (d : Description) (v : TypedValue) (o : Option TypedExpression) → IsDescription d → converted 63 None d v ≡ o → OnGiven (IsExpression t) o
      → OnGiven (IsHanded (Stated d)) o
  dummy_of d v (Some e) good is h = ((good, small d v e good is), h)
  dummy_of d v None good is h = tt

  value_fits : (type : ParameterType) (m : Meant) → IsParameterType type → IsMeant t m → OnGiven (IsHanded type) (passed_value 63 type m)
  value_fits (Stated d) (OneValue v) good h = dummy_of d v (converted 63 None d v) good refl (converted_fits t None tt d v good h)
  value_fits (Stated d) (WholeAggregate r) good h = tt
  value_fits (AnyString form) (OneValue v) good h = suited_to_fits t form v.expression v.kind h.0
  value_fits (AnyString form) (WholeAggregate r) good h = tt
  value_fits (AnyArray dimensions element) m good h = tt
  value_fits (ArrayOf bounds element) m good h = tt
  value_fits (StructureOf types) m good h = tt

  abbrev pub Pass : List ParameterType → TypedArguments → Type 0
  Pass ts xs = AreArguments t xs × (argument_count xs ≡ length ts)

  handed_fits : (type : ParameterType) (ts : List ParameterType) (e : TypedExpression) (more : TypedArguments) → IsHanded type e → Pass ts more
      → OnGiven (Pass (type ∷ ts)) (handed type e more)
  handed_fits (Stated d) ts e more b h = ((b.0, b.1, h.0), ap suc h.1)
  handed_fits (AnyString form) ts e more b h = ((b, h.0), ap suc h.1)
  handed_fits type ts e more b h = tt

  one_passed : (type : ParameterType) (ts : List ParameterType) (place : Option TypedReference) (value : Option TypedExpression)
      (more : TypedArguments) → OnGiven (IsReference t) place → OnGiven (IsHanded type) value → Pass ts more
      → OnGiven (Pass (type ∷ ts)) (passed type place value more)
  one_passed type ts (Some r) value more a b h = ((a, h.0), ap suc h.1)
  one_passed type ts None (Some e) more a b h = handed_fits type ts e more b h
  one_passed type ts None None more a b h = tt

  before : (type : ParameterType) (ts : List ParameterType) (g : Argument) (more : Option TypedArguments) → IsParameterType type → IsDenoted t g.denoted
      → OnGiven (Pass ts) more → OnGiven (Pass (type ∷ ts)) (passed_before 63 type g more)
  before type ts g None good h k = tt
  before type ts g (Some more) good h k =
      one_passed type ts (passed_place type g.denoted) (passed_value 63 type (meant_as g.denoted)) more (place_fits type g.denoted h)
      (value_fits type (meant_as g.denoted) good (denoted_fits t g.denoted h)) k

  all_pass : (ts : List ParameterType) (gs : List Argument) → AllByRecursion IsParameterType ts → AreArgumentsGiven t gs
      → OnGiven (Pass ts) (all_passed 63 ts gs)
  all_pass [] [] good h = (tt, refl)
  all_pass [] (g ∷ gs) good h = tt
  all_pass (type ∷ ts) [] good h = tt
  all_pass (type ∷ ts) (g ∷ gs) good h = before type ts g (all_passed 63 ts gs) good.0 h.0 (all_pass ts gs good.1 h.1)

  or_wrong : (at : ℕ) (ds : List ParameterType) (o : Option TypedArguments) → OnGiven (Pass ds) o → OnRead (Pass ds) (or_wrong_argument at o)
  or_wrong at ds (Some xs) h = h
  or_wrong at ds None h = tt

  pub arguments_fit : (p : NamedProcedure) → IsProcedureNamed t p → (at : ℕ) (gs : List Argument) → AreArgumentsGiven t gs
      → OnRead (Pass p.parameters) (arguments_passed 63 p at gs)
  arguments_fit p known at gs h =
      read_if (Pass p.parameters) (nat_eq (length gs) (length p.parameters)) _ _
      (or_wrong at p.parameters (all_passed 63 p.parameters gs) (all_pass p.parameters gs known.described h)) tt

  result_fits : (p : NamedProcedure) → IsProcedureNamed t p → (xs : TypedArguments) → Pass p.parameters xs → (at : ℕ) (o : Option ExpressionType)
      → OnGiven (IsKind t) o → OnRead (IsValue t) (result_of at p.callee xs o)
  result_fits p known xs h at None k = tt
  result_fits p known xs h at (Some kind) k = ((known.callee, subst (λ n. n ≤ parameter_limit) (sym h.1) known.few, h.0), k)

  -- ---- segments

  one_meant : (at : ℕ) (m : Meant) → IsMeant t m → OnRead (IsValue t) (one_value at m)
  one_meant at (OneValue v) h = h
  one_meant at (WholeAggregate r) h = tt

  more_segment : (g : Segment) (ys : List TypedExpression) → IsSegment t g → AllByRecursion (IsExpression t) ys → IsSegment t (with_more g ys)
  more_segment (OfVariable locator at v xs) ys h k = (h.0, all_after (IsExpression t) xs ys h.1 k, h.2)
  more_segment (OfFunction v) ys h k = h
  more_segment OfEmpty ys h k = tt
  more_segment (OfNoVariable at) ys h k = tt

  -- what stands in front of an arrow; NULL and EMPTY without parentheses; and what a function gives
  before_arrow : (d : Denoted) → IsDenoted t d → IsLocator t (as_locator d)
  before_arrow (DenotesVariable r) h =
      located_fits (locator_at r.reference r.description r.area) (locator_fits t r.reference r.description r.area h.reference h.area)
  before_arrow (DenotesResult v) h = tt
  before_arrow DenotesEmpty h = tt

  alone_fits : (at : ℕ) (function : BuiltInFunction) → IsSegment t (named_alone at function)
  alone_fits at functions.Null = (refl, tt)
  alone_fits at functions.Empty = tt
  alone_fits at function = tt

  given_fits : (function : BuiltInFunction) (v : TypedValue) → IsValue t v → IsSegment t (given_by function v)
  given_fits functions.Empty v h = tt
  given_fits function v h = h

  ended_fits : (role : Role) (g : Segment) → IsSegment t g → OnRead (IsDenoted t) (ended role g)
  ended_fits role (OfVariable locator at v xs) h =
      read_then (IsReferent t) (IsDenoted t) (variable_meant role locator at v xs) _ (variable_fits role locator h.2 at v h.0 xs h.1) (λ r g. g)
  ended_fits role (OfFunction v) h = h
  ended_fits role OfEmpty h = tt
  ended_fits role (OfNoVariable at) h = tt

module _ (t : TypedUnit) (based : ℕ → List Template) (areas : ℕ → Option Beginning) (meaning : ℕ → NamedAs)
    (known : (at : ℕ) → IsMeaning t (meaning at)) where
  abbrev pub N : Naming
  N = record { greatest = 63; based = based; returned_area = areas; meaning = meaning }

  -- of which a result is
  returned_kind : (area : Option Beginning) → IsAreaNamed t area → (o : Option Description) → OnGiven (IsKind t) (type_returned area o)
  returned_kind area k None = tt
  returned_kind area k (Some d) = kinds_held t area k d

  procedure_fits : (p : NamedProcedure) → IsProcedureNamed t p → (at : ℕ) (gs : List Argument) → AreArgumentsGiven t gs
      → OnRead (IsSegment t) (procedure_called N p at gs)
  procedure_fits p k at gs h =
      let kind : Option ExpressionType = type_returned p.area p.returned in
      read_then (Pass t p.parameters) (IsSegment t) (arguments_passed 63 p at gs) _ (arguments_fit t p k at gs h)
      (λ xs fit. read_then (IsValue t) (IsSegment t) (result_of at p.callee xs kind) _
      (result_fits t p k xs fit at kind (returned_kind p.area k.area p.returned)) (λ v g. g))

  value_read : (at : ℕ) (r : Result Denoted Fault) → OnRead (IsDenoted t) r → OnRead (IsValue t) (as_value at r)
  value_read at r h =
      read_then (IsDenoted t) (IsValue t) r (λ d. one_value at (meant_as d)) h (λ d k. one_meant t at (meant_as d) (denoted_fits t d k))

  mutual
    pub denoted_all : (role : Role) (e : Expression) → OnRead (IsDenoted t) (denoted N role e)
    denoted_all role (Referred reference) = referred_fits role reference
    denoted_all role (Constant at value) = constant_fits t value
    denoted_all role (Parenthesized at inner) =
        read_then (IsValue t) (IsDenoted t) (as_value (first_token inner) (denoted N AsValue inner)) _
        (value_read (first_token inner) (denoted N AsValue inner) (denoted_all AsValue inner)) (λ v h. h)
    denoted_all role (Prefix operator at operand) =
        read_then (IsValue t) (IsDenoted t) (as_value (first_token operand) (denoted N AsValue operand)) _
        (value_read (first_token operand) (denoted N AsValue operand) (denoted_all AsValue operand))
        (λ v h. read_then (IsValue t) (IsDenoted t) (or_fault WrongOperandType at (prefix_value 63 operator v)) _
        (read_option (IsValue t) WrongOperandType at (prefix_value 63 operator v) (prefix_fits t operator v h)) (λ u g. g))
    denoted_all role (Infix operator at left right) =
        read_then (IsValue t) (IsDenoted t) (as_value (first_token left) (denoted N AsValue left)) _
        (value_read (first_token left) (denoted N AsValue left) (denoted_all AsValue left))
        (λ v h. read_then (IsValue t) (IsDenoted t) (as_value (first_token right) (denoted N AsValue right)) _
        (value_read (first_token right) (denoted N AsValue right) (denoted_all AsValue right))
        (λ w k. read_then (IsValue t) (IsDenoted t) (or_fault WrongOperandType at (infix_value 63 operator v w)) _
        (read_option (IsValue t) WrongOperandType at (infix_value 63 operator v w) (infix_fits t operator v w h k)) (λ u g. g)))

    pub referred_fits : (role : Role) (r : Reference) → OnRead (IsDenoted t) (referred N role r)
    referred_fits role (Named name arguments more) =
        read_then (IsSegment t) (IsDenoted t) (begun N (meaning name.at) (is_call role false more) NotLocated name.at arguments) _
        (begun_fits (meaning name.at) (known name.at) (is_call role false more) NotLocated tt name.at arguments)
        (λ g h. joined_fits role g h more)

    joined_fits : (role : Role) (g : Segment) → IsSegment t g → (more : JoinedParts)
        → OnRead (IsDenoted t) (joined N role g more)
    joined_fits role g h Alone = ended_fits t role g h
    joined_fits role g h (Joined Member name arguments more) =
        read_then (AllByRecursion (IsExpression t)) (IsDenoted t) (subscripts_in N arguments) _ (subscripts_all arguments)
        (λ xs k. joined_fits role (with_more g xs) (more_segment t g xs h k) more)
    joined_fits role g h (Joined Located name arguments more) =
        read_then (IsDenoted t) (IsDenoted t) (ended AsLocator g) _ (ended_fits t AsLocator g h)
        (λ locator k. read_then (IsSegment t) (IsDenoted t)
        (begun N (meaning name.at) (is_call role true more) (as_locator locator) name.at arguments) _
        (begun_fits (meaning name.at) (known name.at) (is_call role true more) (as_locator locator) (before_arrow t locator k) name.at arguments)
        (λ s u. joined_fits role s u more))

    begun_fits : (a : NamedAs) → IsMeaning t a → (call : Bool) (locator : LocatorBefore) → IsLocator t locator → (at : ℕ) (arguments : Arguments)
        → OnRead (IsSegment t) (begun N a call locator at arguments)
    begun_fits (AVariable v) k call locator located at (Given list) =
        read_then (AllByRecursion (IsExpression t)) (IsSegment t) (all_subscripts N list) _ (indices_fit list) (λ xs h. (k, h, located))
    begun_fits (AVariable v) k call locator located at Absent = (k, tt, located)
    begun_fits (AFunction function) k true locator located at Absent = alone_fits t at function
    begun_fits (AFunction function) k true locator located at (Given list) =
        read_then (AreArgumentsGiven t) (IsSegment t) (all_arguments N (roles_or_none (roles_of function (how_many list))) list) _
        (list_fits (roles_or_none (roles_of function (how_many list))) list)
        (λ gs h. read_then (IsValue t) (IsSegment t) (function_called 63 function at (roles_of function (how_many list)) gs) _
        (functions_fit t function at (roles_of function (how_many list)) gs h) (λ v g. given_fits t function v g))
    begun_fits (AProcedure p) k true locator located at (Given list) =
        read_then (AreArgumentsGiven t) (IsSegment t) (all_arguments N [] list) _ (list_fits [] list)
        (λ gs h. procedure_fits p k at gs h)
    begun_fits a k call locator located at (Given list) =
        read_then (AreArgumentsGiven t) (IsSegment t) (all_arguments N [] list) _ (list_fits [] list) (λ gs h. tt)
    begun_fits a k call locator located at Absent = tt

    subscripts_all : (arguments : Arguments)
        → OnRead (AllByRecursion (IsExpression t)) (subscripts_in N arguments)
    subscripts_all Absent = tt
    subscripts_all (Given list) = indices_fit list

    indices_fit : (list : Expressions) → OnRead (AllByRecursion (IsExpression t)) (all_subscripts N list)
    indices_fit Empty = tt
    indices_fit (Listed first more) =
        read_then (IsValue t) (AllByRecursion (IsExpression t)) (as_value (first_token first) (denoted N AsValue first)) _
        (value_read (first_token first) (denoted N AsValue first) (denoted_all AsValue first))
        (λ v h. read_then (IsExpression t) (AllByRecursion (IsExpression t)) (subscript_value 63 (first_token first) v) _
        (read_option (IsExpression t) WrongOperandType (first_token first) (option_map (λ p. v.expression) (precision_of 63 v.kind))
        (given_made (IsExpression t) (λ p. v.expression) (precision_of 63 v.kind) (λ p. h.0)))
        (λ x k. read_then (AllByRecursion (IsExpression t)) (AllByRecursion (IsExpression t)) (all_subscripts N more) _ (indices_fit more)
        (λ xs j. (k, j))))

    pub list_fits : (roles : List Role) (list : Expressions) → OnRead (AreArgumentsGiven t) (all_arguments N roles list)
    list_fits [] Empty = tt
    list_fits (role ∷ roles) Empty = tt
    list_fits [] (Listed first more) =
        read_then (IsDenoted t) (AreArgumentsGiven t) (denoted N AsArgument first) _ (denoted_all AsArgument first)
        (λ m h. read_then (AreArgumentsGiven t) (AreArgumentsGiven t) (all_arguments N [] more) _ (list_fits [] more) (λ gs k. (h, k)))
    list_fits (role ∷ roles) (Listed first more) =
        read_then (IsDenoted t) (AreArgumentsGiven t) (denoted N role first) _ (denoted_all role first)
        (λ m h. read_then (AreArgumentsGiven t) (AreArgumentsGiven t) (all_arguments N roles more) _ (list_fits roles more)
        (λ gs k. (h, k)))

  pub meant_fits : (role : Role) (e : Expression) → OnRead (IsMeant t) (meant N role e)
  meant_fits role e =
      read_then (IsDenoted t) (IsMeant t) (denoted N role e) _ (denoted_all role e) (denoted_fits t)

  pub value_of_fits : (e : Expression) → OnRead (IsValue t) (value_of N e)
  value_of_fits e = value_read (first_token e) (denoted N AsValue e) (denoted_all AsValue e)
