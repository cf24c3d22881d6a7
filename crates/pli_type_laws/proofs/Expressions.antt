-- Expressions and references give what their types say: by induction on the source tree.
use Rattle.std.specs.Prelude.{ℕ, Bool, true, false, Option, Some, None, option_map, List, [], ◌∷◌, Result, refl}
use Rattle.pli_base.specs.Syntax.{Expression, Referred, Constant, Parenthesized, Prefix, Infix, Reference, Named}
use Rattle.pli_base.specs.Syntax.{JoinedParts, Alone, Joined, Arguments, Absent, Given, Expressions, Empty, Listed}
use Rattle.pli_base.specs.declared.code.Code.{Code}
use Rattle.pli_base.specs.declared.code.Code.TheVariants.{WrongOperandType}
use Rattle.pli_base.specs.declared.token.Fault.{Fault}
use Rattle.pli_base.specs.declared.syntax.Joining.TheVariants.{Member, Located}
use Rattle.pli_type_rules.specs.ExpressionTypes.{TypedValue, precision_of, prefix_value, infix_value}
use Rattle.pli_declare.specs.declared.built_in.BuiltInFunction.{BuiltInFunction}
use Rattle.pli_declare.specs.declared.built_in.BuiltInFunction.TheVariants as functions
use Rattle.pli_type_rules.specs.FunctionCalls.{Denoted, DenotesVariable, DenotesResult, DenotesEmpty, Meant, OneValue, WholeAggregate, meant_as, Argument}
use Rattle.pli_type_rules.specs.FunctionCalls.{roles_of, function_called}
use Rattle.pli_type_rules.specs.Names.{NamedAs, AVariable, AFunction, AProcedure, NamedProcedure, Naming}
use Rattle.pli_type_rules.specs.ProcedureCalls.{arguments_passed, result_of}
use Rattle.pli_type_rules.specs.References.{Role, AsValue, AsArgument, AsLocator, LocatorBefore, NotLocated, locator_at, variable_meant}
use Rattle.pli_type_rules.specs.Typing.{first_token, how_many, or_fault, one_value, roles_or_none}
use Rattle.pli_type_rules.specs.Typing.{subscript_value, Segment, OfVariable, OfFunction, OfEmpty, OfNoVariable, is_call, with_more, ended, as_locator, named_alone, given_by, procedure_called}
use Rattle.pli_type_rules.specs.Typing.{as_value, denoted, meant, referred, joined, begun, subscripts_in, all_subscripts, all_arguments, value_of}
use Rattle.pli_type_rules.specs.TypingSteps.{type_returned}
use Rattle.pli_type_rules.specs.declared.beginning.Beginning.{Beginning}
use Rattle.pli_type_laws.proofs.Calls.{IsCallable, arguments_fit, result_typed}
use Rattle.pli_type_laws.proofs.Conversions.{OnGiven}
use Rattle.pli_type_laws.proofs.Constants.{constant_typed}
use Rattle.pli_type_laws.proofs.Denotations.{OnRead, IsReferent, IsMeant, IsDenoted, AreArguments, denoted_meant}
use Rattle.pli_type_laws.proofs.Functions.{calls_have_type}
use Rattle.pli_type_laws.proofs.Operators.{HasValue, has_precision, prefix_has_type, infix_has_type}
use Rattle.pli_type_laws.proofs.References.{read_then, IsKnown, IsLocator, located_typed, locator_kept, AreIndices, more_indices, variable_typed}
use Rattle.pli_type_laws.specs.ExpressionTyping.{IsNumber}
use Rattle.pli_type_tree.specs.Templates.{Template}
use Rattle.pli_type_tree.specs.TypedTree.{TypedExpression}
use Rattle.pli_type_tree.specs.ValueTypes.{Numbers}
use Rattle.pli_type_tree.specs.WellTyped.{TypingContext, IsTyped, ArePassed}
use Rattle.pli_value.specs.declared.locator.Locator.TheVariants as locators

-- what a name means is known
abbrev pub IsMeaning : TypingContext → NamedAs → Type 0
IsMeaning s (AVariable v) = IsKnown s v
IsMeaning s (AProcedure p) = IsCallable s p
IsMeaning s other = Unit {0}

abbrev pub IsSegment : TypingContext → Segment → Type 0
IsSegment s (OfVariable locator at v xs) = IsKnown s v × AreIndices s xs × IsLocator s locator
IsSegment s (OfFunction v) = HasValue s v
IsSegment s OfEmpty = Unit {0}
IsSegment s (OfNoVariable at) = Unit {0}

pub read_option : {A : Type 0} (P : A → Type 0) (code : Code) (at : ℕ) (o : Option A) → OnGiven P o
    → OnRead P (or_fault code at o)
read_option P code at (Some x) h = h
read_option P code at None h = tt

module _ (s : TypingContext) where
  one_meant : (at : ℕ) (m : Meant) → IsMeant s m → OnRead (HasValue s) (one_value at m)
  one_meant at (OneValue v) h = h
  one_meant at (WholeAggregate r) h = tt

  subscript_typed : (at : ℕ) (v : TypedValue) (o : Option ℕ) → OnGiven (IsNumber s v.expression) o
      → OnRead (λ x. (p : ℕ) × IsTyped 63 s x (Numbers p))
      (or_fault WrongOperandType at (option_map (λ p. v.expression) o))
  subscript_typed at v (Some P) h = (h.0, h.1)
  subscript_typed at v None h = tt

  more_segment : (g : Segment) (ys : List TypedExpression) → IsSegment s g → AreIndices s ys
      → IsSegment s (with_more g ys)
  more_segment (OfVariable locator at v xs) ys h k = (h.0, more_indices s xs ys h.1 k, h.2)
  more_segment (OfFunction v) ys h k = h
  more_segment OfEmpty ys h k = tt
  more_segment (OfNoVariable at) ys h k = tt

  -- what stands in front of an arrow
  locator_typed : (d : Denoted) → IsDenoted s d → IsLocator s (as_locator d)
  locator_typed (DenotesVariable r) h =
      located_typed s (locator_at r.reference r.description r.area) (locator_kept s r.reference r.description r.area h.0 h.3)
  locator_typed (DenotesResult v) h = tt
  locator_typed DenotesEmpty h = tt

  -- NULL and EMPTY without parentheses
  alone_typed : (at : ℕ) (function : BuiltInFunction) → IsSegment s (named_alone at function)
  alone_typed at functions.Null = (locators.Null, refl, refl)
  alone_typed at functions.Empty = tt
  alone_typed at function = tt

  -- what a function gives
  given_typed : (function : BuiltInFunction) (v : TypedValue) → HasValue s v → IsSegment s (given_by function v)
  given_typed functions.Empty v h = tt
  given_typed function v h = h

  ended_typed : (role : Role) (g : Segment) → IsSegment s g → OnRead (IsDenoted s) (ended role g)
  ended_typed role (OfVariable locator at v xs) h =
      read_then (IsReferent s) (IsDenoted s) (variable_meant role locator at v xs) _
      (variable_typed s role locator h.2 at v h.0 xs h.1) (λ r g. g)
  ended_typed role (OfFunction v) h = h
  ended_typed role OfEmpty h = tt
  ended_typed role (OfNoVariable at) h = tt

module _ (based : ℕ → List Template) (areas : ℕ → Option Beginning) (meaning : ℕ → NamedAs) (s : TypingContext)
    (known : (at : ℕ) → IsMeaning s (meaning at)) where
  abbrev pub N : Naming
  N = record { greatest = 63; based = based; returned_area = areas; meaning = meaning }

  procedure_typed : (p : NamedProcedure) → IsCallable s p → (at : ℕ) (gs : List Argument) → AreArguments s gs
      → OnRead (IsSegment s) (procedure_called N p at gs)
  procedure_typed p callable at gs h =
      read_then (λ xs. ArePassed 63 s xs p.parameters) (IsSegment s) (arguments_passed 63 p at gs) _
      (arguments_fit s p at gs h)
      (λ xs fit. read_then (HasValue s) (IsSegment s) (result_of at p.callee xs (type_returned p.area p.returned)) _
      (result_typed s p callable xs fit at) (λ v k. k))

  pub value_read : (at : ℕ) (r : Result Denoted Fault) → OnRead (IsDenoted s) r → OnRead (HasValue s) (as_value at r)
  value_read at r h =
      read_then (IsDenoted s) (HasValue s) r (λ d. one_value at (meant_as d)) h
      (λ d k. one_meant s at (meant_as d) (denoted_meant s d k))

  mutual
    pub denoted_typed : (role : Role) (e : Expression)
        → OnRead (IsDenoted s) (denoted N role e)
    denoted_typed role (Referred reference) = referred_typed role reference
    denoted_typed role (Constant at value) = constant_typed s value
    denoted_typed role (Parenthesized at inner) =
        read_then (HasValue s) (IsDenoted s) (as_value (first_token inner) (denoted N AsValue inner)) _
        (value_read (first_token inner) (denoted N AsValue inner) (denoted_typed AsValue inner)) (λ v h. h)
    denoted_typed role (Prefix operator at operand) =
        read_then (HasValue s) (IsDenoted s) (as_value (first_token operand) (denoted N AsValue operand)) _
        (value_read (first_token operand) (denoted N AsValue operand) (denoted_typed AsValue operand))
        (λ v h. read_then (HasValue s) (IsDenoted s) (or_fault WrongOperandType at (prefix_value 63 operator v)) _
        (read_option (HasValue s) WrongOperandType at (prefix_value 63 operator v) (prefix_has_type s operator v h))
        (λ u g. g))
    denoted_typed role (Infix operator at left right) =
        read_then (HasValue s) (IsDenoted s) (as_value (first_token left) (denoted N AsValue left)) _
        (value_read (first_token left) (denoted N AsValue left) (denoted_typed AsValue left))
        (λ v h. read_then (HasValue s) (IsDenoted s) (as_value (first_token right) (denoted N AsValue right)) _
        (value_read (first_token right) (denoted N AsValue right) (denoted_typed AsValue right))
        (λ w k. read_then (HasValue s) (IsDenoted s) (or_fault WrongOperandType at (infix_value 63 operator v w)) _
        (read_option (HasValue s) WrongOperandType at (infix_value 63 operator v w)
        (infix_has_type s operator v w h k)) (λ u g. g)))

    pub referred_typed : (role : Role) (r : Reference)
        → OnRead (IsDenoted s) (referred N role r)
    referred_typed role (Named name arguments more) =
        read_then (IsSegment s) (IsDenoted s)
        (begun N (meaning name.at) (is_call role false more) NotLocated name.at arguments) _
        (begun_typed (meaning name.at) (known name.at) (is_call role false more) NotLocated tt name.at arguments)
        (λ g h. joined_typed role g h more)

    joined_typed : (role : Role) (g : Segment) → IsSegment s g → (more : JoinedParts)
        → OnRead (IsDenoted s) (joined N role g more)
    joined_typed role g h Alone = ended_typed s role g h
    joined_typed role g h (Joined Member name arguments more) =
        read_then (AreIndices s) (IsDenoted s) (subscripts_in N arguments) _ (subscripts_typed arguments)
        (λ xs k. joined_typed role (with_more g xs) (more_segment s g xs h k) more)
    joined_typed role g h (Joined Located name arguments more) =
        read_then (IsDenoted s) (IsDenoted s) (ended AsLocator g) _ (ended_typed s AsLocator g h)
        (λ locator k. read_then (IsSegment s) (IsDenoted s)
        (begun N (meaning name.at) (is_call role true more) (as_locator locator) name.at arguments) _
        (begun_typed (meaning name.at) (known name.at) (is_call role true more) (as_locator locator) (locator_typed s locator k) name.at arguments)
        (λ t u. joined_typed role t u more))

    begun_typed : (a : NamedAs) → IsMeaning s a → (call : Bool) (locator : LocatorBefore) → IsLocator s locator → (at : ℕ) (arguments : Arguments)
        → OnRead (IsSegment s) (begun N a call locator at arguments)
    begun_typed (AVariable v) k call locator located at (Given list) =
        read_then (AreIndices s) (IsSegment s) (all_subscripts N list) _ (indices_typed list) (λ xs h. (k, h, located))
    begun_typed (AVariable v) k call locator located at Absent = (k, tt, located)
    begun_typed (AFunction function) k true locator located at Absent = alone_typed s at function
    begun_typed (AFunction function) k true locator located at (Given list) =
        read_then (AreArguments s) (IsSegment s)
        (all_arguments N (roles_or_none (roles_of function (how_many list))) list) _
        (list_typed (roles_or_none (roles_of function (how_many list))) list)
        (λ gs h. read_then (HasValue s) (IsSegment s)
        (function_called 63 function at (roles_of function (how_many list)) gs) _
        (calls_have_type s function at (roles_of function (how_many list)) gs h) (λ v g. given_typed s function v g))
    begun_typed (AProcedure p) k true locator located at (Given list) =
        read_then (AreArguments s) (IsSegment s) (all_arguments N [] list) _ (list_typed [] list)
        (λ gs h. procedure_typed p k at gs h)
    begun_typed a k call locator located at (Given list) =
        read_then (AreArguments s) (IsSegment s) (all_arguments N [] list) _ (list_typed [] list) (λ gs h. tt)
    begun_typed a k call locator located at Absent = tt

    subscripts_typed : (arguments : Arguments)
        → OnRead (AreIndices s) (subscripts_in N arguments)
    subscripts_typed Absent = tt
    subscripts_typed (Given list) = indices_typed list

    indices_typed : (list : Expressions) → OnRead (AreIndices s) (all_subscripts N list)
    indices_typed Empty = tt
    indices_typed (Listed first more) =
        read_then (HasValue s) (AreIndices s) (as_value (first_token first) (denoted N AsValue first)) _
        (value_read (first_token first) (denoted N AsValue first) (denoted_typed AsValue first))
        (λ v h. read_then (λ x. (p : ℕ) × IsTyped 63 s x (Numbers p)) (AreIndices s)
        (subscript_value 63 (first_token first) v) _
        (subscript_typed s (first_token first) v (precision_of 63 v.kind) (has_precision s v.expression v.kind h))
        (λ x k. read_then (AreIndices s) (AreIndices s) (all_subscripts N more) _ (indices_typed more)
        (λ xs j. (k, j))))

    pub list_typed : (roles : List Role) (list : Expressions)
        → OnRead (AreArguments s) (all_arguments N roles list)
    list_typed [] Empty = tt
    list_typed (role ∷ roles) Empty = tt
    list_typed [] (Listed first more) =
        read_then (IsDenoted s) (AreArguments s) (denoted N AsArgument first) _ (denoted_typed AsArgument first)
        (λ m h. read_then (AreArguments s) (AreArguments s) (all_arguments N [] more) _
        (list_typed [] more) (λ gs k. (h, k)))
    list_typed (role ∷ roles) (Listed first more) =
        read_then (IsDenoted s) (AreArguments s) (denoted N role first) _ (denoted_typed role first)
        (λ m h. read_then (AreArguments s) (AreArguments s) (all_arguments N roles more) _
        (list_typed roles more) (λ gs k. (h, k)))

  pub meant_typed : (role : Role) (e : Expression) → OnRead (IsMeant s) (meant N role e)
  meant_typed role e =
      read_then (IsDenoted s) (IsMeant s) (denoted N role e) _ (denoted_typed role e) (denoted_meant s)

  pub value_typed : (e : Expression) → OnRead (HasValue s) (value_of N e)
  value_typed e = value_read (first_token e) (denoted N AsValue e) (denoted_typed AsValue e)
