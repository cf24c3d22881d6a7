-- Typed expressions: an expression of the source tree gives a typed one with its type, or the first fault of
-- types in the order of evaluation: operands from left to right, then their operator; arguments, then the
-- called name; in a reference its locator, then each subscript, then the reference itself (own).
use Rattle.std.specs.Prelude.{ℕ, ◌+◌, Bool, true, false, Option, Some, None, option_and_then}
use Rattle.std.specs.Prelude.{List, [], ◌∷◌, ◌++◌, Result, Ok}
use Rattle.pli_base.specs.Results.{◌>>=◌}
use Rattle.pli_base.specs.Reading.{at_fault}
use Rattle.pli_base.specs.Syntax.{Expression, Referred, Constant, Parenthesized, Prefix, Infix, Reference}
use Rattle.pli_base.specs.Syntax.{Named}
use Rattle.pli_base.specs.Syntax.{JoinedParts, Alone, Joined, Arguments, Absent, Given, Expressions, Empty}
use Rattle.pli_base.specs.Syntax.{Listed}
use Rattle.pli_base.specs.declared.code.Code.TheVariants.{NotAVariable, AggregateNotAllowedHere}
use Rattle.pli_base.specs.declared.code.Code.TheVariants.{WrongOperandType}
use Rattle.pli_base.specs.declared.syntax.Joining.TheVariants.{Member, Located}
use Rattle.pli_base.specs.declared.token.Fault.{Fault}
use Rattle.pli_type_rules.specs.ExpressionTypes.{TypedValue, constant, type_of, as_number}
use Rattle.pli_type_rules.specs.ExpressionTypes.{prefix_value, infix_value, null_value}
pub use Rattle.pli_type_rules.specs.Faults.{or_fault}
use Rattle.pli_type_rules.specs.FunctionCalls.{Denoted, DenotesVariable, DenotesResult, DenotesEmpty}
use Rattle.pli_type_rules.specs.FunctionCalls.{Meant, OneValue}
use Rattle.pli_type_rules.specs.FunctionCalls.{WholeAggregate, meant_as, Argument, number_written, roles_of}
use Rattle.pli_type_rules.specs.FunctionCalls.{function_called}
use Rattle.pli_type_rules.specs.Names.{NamedVariable, NamedProcedure, NamedAs, AVariable, AFunction}
use Rattle.pli_type_rules.specs.Names.{AProcedure}
use Rattle.pli_type_rules.specs.Names.{Naming}
use Rattle.pli_type_rules.specs.ProcedureCalls.{arguments_passed, result_of}
use Rattle.pli_type_rules.specs.References.{Role, AsValue, AsArgument, AsLocator, variable_meant}
use Rattle.pli_type_rules.specs.References.{LocatorBefore}
use Rattle.pli_type_rules.specs.References.{NotLocated, LocatedWrongly, located_by, locator_at}
use Rattle.pli_declare.specs.declared.built_in.BuiltInFunction.{BuiltInFunction}
use Rattle.pli_declare.specs.declared.built_in.BuiltInFunction.TheVariants as functions
use Rattle.pli_type_tree.specs.TypedTree.{TypedExpression}

-- the first token of an expression: a parenthesis, a sign, a constant or a name
abbrev pub first_token : Expression → ℕ
first_token (Referred (Named name arguments more)) = name.at
first_token (Constant at value) = at
first_token (Parenthesized at inner) = at
first_token (Prefix operator at operand) = at
first_token (Infix operator at left right) = first_token left

-- the token of the last name that stands after an arrow among these parts; this token where none does
abbrev pub after_arrows : (at : ℕ) → JoinedParts → ℕ
after_arrows at Alone = at
after_arrows at (Joined Member name arguments more) = after_arrows at more
after_arrows at (Joined Located name arguments more) = after_arrows name.at more

-- the token at which faults of a reference itself stand: its first name after its last arrow
abbrev pub own_token : Reference → ℕ
own_token (Named name arguments more) = after_arrows name.at more

-- how many expressions a list has
abbrev pub how_many : Expressions → ℕ
how_many Empty = 0
how_many (Listed first more) = 1 + how_many more

-- one value; an aggregate in its place is T2
abbrev pub one_value : (at : ℕ) → Meant → Result TypedValue Fault
one_value at (OneValue v) = Ok v
one_value at (WholeAggregate r) = at_fault AggregateNotAllowedHere at

-- a subscript is a number, else T4 at its first token
abbrev pub subscript_value : (greatest : ℕ) → (at : ℕ) → TypedValue → Result TypedExpression Fault
subscript_value greatest at v =
    or_fault WrongOperandType at (as_number greatest v.expression v.kind)

-- what stands between arrows, so far: a name of a variable, with what stands in front of it, and the
-- subscripts after its names; what a function gives; EMPTY; or a name of something else
pub data Segment : Type 0 where
  OfVariable : (locator : LocatorBefore) (at : ℕ) (variable : NamedVariable)
      (subscripts : List TypedExpression) → Segment
  OfFunction : (value : TypedValue) → Segment
  OfEmpty : Segment
  OfNoVariable : (at : ℕ) → Segment

-- parentheses after a name that stands alone where a value is wanted are those of a call
abbrev pub is_call : Role → (located : Bool) → JoinedParts → Bool
is_call AsValue false Alone = true
is_call AsArgument false Alone = true
is_call role located more = false

-- further subscripts; those after what is no variable say nothing
abbrev pub with_more : Segment → List TypedExpression → Segment
with_more (OfVariable locator at v xs) ys = OfVariable locator at v (xs ++ ys)
with_more segment ys = segment

-- where a segment ends: T1 where a variable must stand
abbrev pub ended : Role → Segment → Result Denoted Fault
ended role (OfVariable locator at v xs) =
    variable_meant role locator at v xs >>= λ r. Ok (DenotesVariable r)
ended role (OfFunction value) = Ok (DenotesResult value)
ended role OfEmpty = Ok DenotesEmpty
ended role (OfNoVariable at) = at_fault NotAVariable at

-- what is denoted in front of an arrow
abbrev pub as_locator : Denoted → LocatorBefore
as_locator (DenotesVariable r) = located_by (locator_at r.reference r.description r.area)
as_locator denoted = LocatedWrongly

-- a built-in function's name without parentheses: NULL and EMPTY are values, any other is none
abbrev pub named_alone : (at : ℕ) → BuiltInFunction → Segment
named_alone at functions.Null = OfFunction null_value
named_alone at functions.Empty = OfEmpty
named_alone at function = OfNoVariable at

-- what a built-in function gives
abbrev pub given_by : BuiltInFunction → TypedValue → Segment
given_by functions.Empty v = OfEmpty
given_by function v = OfFunction v

-- a call of a function with its arguments: T6, T7 or T8 at its name, in this order; the last where it gives
-- nothing, or an aggregate
abbrev pub procedure_called : Naming → NamedProcedure → (at : ℕ) → List Argument → Result Segment Fault
procedure_called n p at gs = do
  passed ← arguments_passed n.greatest p at gs
  v ← result_of at p.callee passed (option_and_then (type_of p.area) p.returned)
  Ok (OfFunction v)

-- no roles where the number of arguments is wrong
abbrev pub roles_or_none : Option (List Role) → List Role
roles_or_none None = []
roles_or_none (Some roles) = roles

-- where one value is wanted
abbrev pub as_value : (at : ℕ) → Result Denoted Fault → Result TypedValue Fault
as_value at d = d >>= λ d. one_value at (meant_as d)

-- an argument
abbrev pub argument : Expression → Denoted → Argument
argument e d = record { denoted = d; written = number_written e }

abbrev mutual
  -- an expression in its role; parentheses and operators leave a value
  pub denoted : Naming → Role → Expression → Result Denoted Fault
  denoted n role (Referred reference) = referred n role reference
  denoted n role (Constant at value) = Ok (DenotesResult (constant n.greatest value))
  denoted n role (Parenthesized at inner) = do
    v ← as_value (first_token inner) (denoted n AsValue inner)
    Ok (DenotesResult v)
  denoted n role (Prefix operator at operand) = do
    v ← as_value (first_token operand) (denoted n AsValue operand)
    u ← or_fault WrongOperandType at (prefix_value n.greatest operator v)
    Ok (DenotesResult u)
  denoted n role (Infix operator at left right) = do
    v ← as_value (first_token left) (denoted n AsValue left)
    w ← as_value (first_token right) (denoted n AsValue right)
    u ← or_fault WrongOperandType at (infix_value n.greatest operator v w)
    Ok (DenotesResult u)

  -- a reference in its role: that of its last part, all before an arrow being a locator
  pub referred : Naming → Role → Reference → Result Denoted Fault
  referred n role (Named name arguments more) = do
    s ← begun n (n.meaning name.at) (is_call role false more) NotLocated name.at arguments
    joined n role s more

  -- with what is joined to a segment
  pub joined : Naming → Role → Segment → JoinedParts → Result Denoted Fault
  joined n role s Alone = ended role s
  joined n role s (Joined Member name arguments more) = do
    xs ← subscripts_in n arguments
    joined n role (with_more s xs) more
  joined n role s (Joined Located name arguments more) = do
    l ← ended AsLocator s
    t ← begun n (n.meaning name.at) (is_call role true more) (as_locator l) name.at arguments
    joined n role t more

  -- a segment by what its first name means, with the parentheses after that: subscripts of a variable, else
  -- arguments
  pub begun : Naming → NamedAs → (call : Bool) → LocatorBefore → (at : ℕ) → Arguments
      → Result Segment Fault
  begun n (AVariable v) call locator at (Given list) = do
    xs ← all_subscripts n list
    Ok (OfVariable locator at v xs)
  begun n (AVariable v) call locator at Absent = Ok (OfVariable locator at v [])
  begun n (AFunction function) true locator at Absent = Ok (named_alone at function)
  begun n (AFunction function) true locator at (Given list) = do
    gs ← all_arguments n (roles_or_none (roles_of function (how_many list))) list
    v ← function_called n.greatest function at (roles_of function (how_many list)) gs
    Ok (given_by function v)
  begun n (AProcedure p) true locator at (Given list) = do
    gs ← all_arguments n [] list
    procedure_called n p at gs
  begun n other call locator at (Given list) = do
    gs ← all_arguments n [] list
    Ok (OfNoVariable at)
  begun n other call locator at Absent = Ok (OfNoVariable at)

  -- the subscripts after a name, if parentheses stand there
  pub subscripts_in : Naming → Arguments → Result (List TypedExpression) Fault
  subscripts_in n Absent = Ok []
  subscripts_in n (Given list) = all_subscripts n list

  -- subscripts from left to right
  pub all_subscripts : Naming → Expressions → Result (List TypedExpression) Fault
  all_subscripts n Empty = Ok []
  all_subscripts n (Listed first more) = do
    v ← as_value (first_token first) (denoted n AsValue first)
    x ← subscript_value n.greatest (first_token first) v
    xs ← all_subscripts n more
    Ok (x ∷ xs)

  -- arguments from left to right, in their roles; those without a role may be whole aggregates
  pub all_arguments : Naming → List Role → Expressions → Result (List Argument) Fault
  all_arguments n roles Empty = Ok []
  all_arguments n [] (Listed first more) = do
    d ← denoted n AsArgument first
    gs ← all_arguments n [] more
    Ok (argument first d ∷ gs)
  all_arguments n (role ∷ roles) (Listed first more) = do
    d ← denoted n role first
    gs ← all_arguments n roles more
    Ok (argument first d ∷ gs)

-- what an expression is in its role
abbrev pub meant : Naming → Role → Expression → Result Meant Fault
meant n role e = denoted n role e >>= λ d. Ok (meant_as d)

-- one value of an expression
abbrev pub value_of : Naming → Expression → Result TypedValue Fault
value_of n e = as_value (first_token e) (denoted n AsValue e)
