-- Typed expressions: an expression of the source tree gives a typed one with its type, or the first fault of
-- types in the order of evaluation: operands from left to right, then their operator; arguments, then the
-- called name; in a reference its locator, then each subscript, then the reference itself (own).
use Rattle.std.specs.Prelude.{ℕ, Bool, true, false, nat_eq, Option, Some, None, option_and_then, option_map}
use Rattle.std.specs.Prelude.{List, [], ◌∷◌, drop, get_or, length, Result, Ok, if◌then◌else◌}
use Rattle.std.specs.Option.{unwrap_or, option_or}
use Rattle.pli_base.specs.Results.{◌>>=◌}
use Rattle.pli_base.specs.Reading.{at_fault}
use Rattle.pli_base.specs.Syntax.{Expression, Referred, Constant, Parenthesized, Prefix, Infix, Reference}
use Rattle.pli_base.specs.Syntax.{Named}
use Rattle.pli_base.specs.Syntax.{JoinedParts, Alone, Joined, Arguments, Absent, Given, Expressions, Empty}
use Rattle.pli_base.specs.Syntax.{Listed}
use Rattle.pli_base.specs.declared.code.Code.{Code}
use Rattle.pli_base.specs.declared.code.Code.TheVariants.{NotAVariable, AggregateNotAllowedHere}
use Rattle.pli_base.specs.declared.code.Code.TheVariants.{WrongOperandType, WrongNumberOfArguments}
use Rattle.pli_base.specs.declared.code.Code.TheVariants.{WrongArgument, WrongBuiltInArgument}
use Rattle.pli_base.specs.declared.code.Code.TheVariants.{NotCallableHere}
use Rattle.pli_base.specs.declared.syntax.Joining.TheVariants.{Member, Located}
use Rattle.pli_base.specs.declared.token.Fault.{Fault}
use Rattle.pli_map.specs.ParameterTypes.{ParameterType}
use Rattle.pli_type_rules.specs.ExpressionTypes.{TypedValue, type_of}
use Rattle.pli_type_rules.specs.Faults.{or_fault}
use Rattle.pli_type_rules.specs.FunctionCalls.{Argument, Denoted, DenotesVariable, DenotesResult}
use Rattle.pli_type_rules.specs.FunctionCalls.{DenotesEmpty}
use Rattle.pli_type_rules.specs.Names.{NamedProcedure, NamedAs, AVariable, AFunction, AProcedure}
use Rattle.pli_type_rules.specs.ProcedureCalls.{handed, place_of}
use Rattle.pli_type_rules.specs.References.{Role, AsValue, AsArgument, AsLocator, LocatorBefore, NotLocated}
use Rattle.pli_type_rules.specs.Typing.{Segment, OfVariable, OfFunction, OfEmpty, OfNoVariable, argument}
use Rattle.pli_type_rules.specs.Typing.{as_locator, first_token}
use Rattle.pli_type_rules.specs.Typing.{given_by, how_many, is_call, with_more}
use Rattle.pli_type_tree.specs.TypedTree.{ByPlace, Called, NoArgument, TypedArguments, TypedExpression}
use Rattle.pli_type_unit.specs.BuiltIns.{of_arguments, of_values, referent_in, roles_asked, value_in}
use Rattle.pli_type_unit.specs.Contexts.{Context, meaning_in}
use Rattle.pli_type_unit.specs.Passing.{agrees}
use Rattle.pli_type_unit.specs.Values.{constant, converted, digits_of, infix_value, prefix_value}
use Rattle.pli_type_unit.specs.Variables.{variable_meant}

-- calls of procedures

-- a variable that agrees with the parameter is handed over itself, a whole area as one
abbrev pub by_place : ParameterType → Denoted → TypedArguments → Option TypedArguments
by_place type denoted more =
    option_and_then (λ r. option_map (λ place. ByPlace place more)
    (if agrees type r.description then place_of r.reference r.description else None)) (referent_in denoted)

-- any other value is converted to it, and a dummy argument holds it; a pointer does not become an offset for
-- an OFFSET; a string for one of any length is not fitted
abbrev pub by_value : ParameterType → Denoted → TypedArguments → Option TypedArguments
by_value type denoted more =
    option_and_then (λ v. option_and_then (λ e. handed type e more) (converted None type v))
    (value_in denoted)

-- as many arguments as parameters, where each suits its parameter
abbrev pub all_passed : (parameters : List ParameterType) → List Argument → Option TypedArguments
all_passed [] [] = Some NoArgument
all_passed (t ∷ ts) (a ∷ others) =
    option_and_then (λ more. option_or (by_place t a.denoted more) (by_value t a.denoted more))
    (all_passed ts others)
all_passed parameters arguments = None

-- T6 at the called name where their number is wrong, T7 there where one does not suit
abbrev pub arguments_passed : NamedProcedure → (at : ℕ) → List Argument → Result TypedArguments Fault
arguments_passed p at arguments =
    if nat_eq (length arguments) (length p.parameters)
    then or_fault WrongArgument at (all_passed p.parameters arguments)
    else at_fault WrongNumberOfArguments at

-- a call of a function with its arguments: T6, T7 or T8 at its name, in this order; the last where it gives
-- nothing, or an aggregate
abbrev pub procedure_called : NamedProcedure → (at : ℕ) → List Argument → Result Segment Fault
procedure_called p at arguments = do
  passed ← arguments_passed p at arguments
  kind ← or_fault NotCallableHere at (option_and_then (type_of p.area) p.returned)
  Ok (OfFunction (record { expression = Called p.callee passed; kind = kind }))

-- references

-- where a segment ends: T1 where a variable must stand
abbrev pub ended : Role → Segment → Result Denoted Fault
ended role (OfVariable locator at v xs) =
    variable_meant role locator at v xs >>= λ r. Ok (DenotesVariable r)
ended role (OfFunction value) = Ok (DenotesResult value)
ended role OfEmpty = Ok DenotesEmpty
ended role (OfNoVariable at) = at_fault NotAVariable at

-- one value is wanted; an aggregate in its place is T2
abbrev pub as_value : (at : ℕ) → Result Denoted Fault → Result TypedValue Fault
as_value at d = d >>= λ d. or_fault AggregateNotAllowedHere at (value_in d)

-- a subscript is a number, else T4 at its first token
abbrev pub subscript_value : (at : ℕ) → TypedValue → Result TypedExpression Fault
subscript_value at v = or_fault WrongOperandType at (option_map (λ p. v.expression) (digits_of v))

abbrev mutual
  -- an expression in its role; parentheses and operators leave a value
  pub denoted : Context → Role → Expression → Result Denoted Fault
  denoted c role (Referred reference) = referred c role reference
  denoted c role (Constant at value) = Ok (DenotesResult (constant value))
  denoted c role (Parenthesized at inner) = do
    v ← as_value (first_token inner) (denoted c AsValue inner)
    Ok (DenotesResult v)
  denoted c role (Prefix operator at operand) = do
    v ← as_value (first_token operand) (denoted c AsValue operand)
    u ← or_fault WrongOperandType at (prefix_value operator v)
    Ok (DenotesResult u)
  denoted c role (Infix operator at left right) = do
    v ← as_value (first_token left) (denoted c AsValue left)
    w ← as_value (first_token right) (denoted c AsValue right)
    u ← or_fault WrongOperandType at (infix_value operator v w)
    Ok (DenotesResult u)

  -- a reference in its role: that of its last part, all before an arrow being a locator
  pub referred : Context → Role → Reference → Result Denoted Fault
  referred c role (Named name arguments more) = do
    s ← begun c (meaning_in c name.at) (is_call role false more) NotLocated name.at arguments
    joined c role s more

  -- with what is joined to a segment
  pub joined : Context → Role → Segment → JoinedParts → Result Denoted Fault
  joined c role s Alone = ended role s
  joined c role s (Joined Member name arguments more) = do
    xs ← subscripts_in c arguments
    joined c role (with_more s xs) more
  joined c role s (Joined Located name arguments more) = do
    l ← ended AsLocator s
    t ← begun c (meaning_in c name.at) (is_call role true more) (as_locator l) name.at arguments
    joined c role t more

  -- a segment by what its first name means, with the parentheses after that: subscripts of a variable, else
  -- arguments
  pub begun : Context → NamedAs → (call : Bool) → LocatorBefore → (at : ℕ) → Arguments → Result Segment Fault
  begun c (AVariable v) call locator at (Given list) = do
    xs ← all_subscripts c list
    Ok (OfVariable locator at v xs)
  begun c (AVariable v) call locator at Absent = Ok (OfVariable locator at v [])
  begun c (AFunction function) true locator at Absent =
      Ok (unwrap_or (option_map (given_by function) (of_values function [])) (OfNoVariable at))
  begun c (AFunction function) true locator at (Given list) = do
    gs ← all_arguments c (unwrap_or (roles_asked function (how_many list)) []) list
    roles ← or_fault WrongNumberOfArguments at (roles_asked function (how_many list))
    v ← or_fault WrongBuiltInArgument at (of_arguments function gs)
    Ok (given_by function v)
  begun c (AProcedure p) true locator at (Given list) = do
    gs ← all_arguments c [] list
    procedure_called p at gs
  begun c other call locator at (Given list) = do
    gs ← all_arguments c [] list
    Ok (OfNoVariable at)
  begun c other call locator at Absent = Ok (OfNoVariable at)

  -- the subscripts after a name, if parentheses stand there
  pub subscripts_in : Context → Arguments → Result (List TypedExpression) Fault
  subscripts_in c Absent = Ok []
  subscripts_in c (Given list) = all_subscripts c list

  -- subscripts from left to right
  pub all_subscripts : Context → Expressions → Result (List TypedExpression) Fault
  all_subscripts c Empty = Ok []
  all_subscripts c (Listed first more) = do
    v ← as_value (first_token first) (denoted c AsValue first)
    x ← subscript_value (first_token first) v
    xs ← all_subscripts c more
    Ok (x ∷ xs)

  -- arguments from left to right, in their roles; those without a role may be whole aggregates
  pub all_arguments : Context → List Role → Expressions → Result (List Argument) Fault
  all_arguments c roles Empty = Ok []
  all_arguments c roles (Listed first more) = do
    d ← denoted c (get_or roles 0 AsArgument) first
    gs ← all_arguments c (drop 1 roles) more
    Ok (argument first d ∷ gs)

-- one value of an expression
abbrev pub value_of : Context → Expression → Result TypedValue Fault
value_of c e = as_value (first_token e) (denoted c AsValue e)

-- the value of an expression as this makes something of it, or this fault at its first token
abbrev pub suited : {A : Type 0} → Context → Code → (TypedValue → Option A) → Expression → Result A Fault
suited c code make e = do
  v ← value_of c e
  or_fault code (first_token e) (make v)
