-- Steps of typing, as contracts and proofs name them.
use Rattle.std.specs.Prelude.{ℕ, Option, Some, None, option_map, List, [], ◌∷◌, Result, Ok, Bool}
use Rattle.pli_base.specs.Results.{◌>>=◌}
use Rattle.pli_base.specs.Reading.{at_fault}
use Rattle.pli_base.specs.Statements.{Allocation}
use Rattle.pli_base.specs.Syntax.{Expression, Reference}
use Rattle.pli_base.specs.declared.code.Code.TheVariants.{LocatorMissingOrNotAllowed}
use Rattle.pli_base.specs.declared.code.Code.TheVariants.{WrongArgument, WrongBuiltInArgument}
use Rattle.pli_base.specs.declared.token.Fault.{Fault}
use Rattle.pli_map.specs.Description.{Description}
use Rattle.pli_map.specs.ParameterTypes.{ParameterType}
use Rattle.pli_operation.specs.declared.operation.Operation.TheVariants.{Negate}
use Rattle.pli_type_rules.specs.AllocationTyping.{in_turn, all_allocated, freed}
use Rattle.pli_type_rules.specs.ExpressionTypes.{TypedValue, precision_of, type_of, with_one}
use Rattle.pli_type_rules.specs.FunctionCalls.{Argument, meant_as}
use Rattle.pli_type_rules.specs.Names.{Naming}
use Rattle.pli_type_rules.specs.ProcedureCalls.{passed, passed_place, passed_value}
use Rattle.pli_type_rules.specs.References.{Referent}
use Rattle.pli_type_rules.specs.StatementTyping.{WithProcedures, condition, item, limit, made, of_own}
use Rattle.pli_type_rules.specs.StatementTyping.{together}
use Rattle.pli_type_rules.specs.declared.beginning.Beginning.{Beginning}
use Rattle.pli_type_rules.specs.declared.expression_type.ExpressionType.{ExpressionType}
use Rattle.pli_type_rules.specs.declared.expression_type.ExpressionType.TheVariants as types
use Rattle.pli_type_tree.specs.TypedTree as typed
use Rattle.pli_type_tree.specs.TypedTree.{Form, Operate, OtherWise, TypedArguments, TypedExpression}
use Rattle.pli_type_tree.specs.TypedTree.{TypedStatement}

-- expressions

-- a number is itself after `+`
abbrev pub with_plus : TypedValue → Option ℕ → Option TypedValue
with_plus v (Some p) = Some v
with_plus v None = None

-- after `-` it has its own type
abbrev pub with_minus : TypedValue → Option ℕ → Option TypedValue
with_minus v (Some p) = Some (record { expression = with_one (Operate Negate) v.expression; kind = v.kind })
with_minus v None = None

-- the value, if it is a number
abbrev pub number_of : (greatest : ℕ) → TypedValue → Option TypedExpression
number_of greatest v = option_map (λ p. v.expression) (precision_of greatest v.kind)

-- a string of bits
abbrev pub truth_of : TypedValue → Option TypedExpression
truth_of v = truth v.kind
  where
    truth : ExpressionType → Option TypedExpression
    truth types.Bits = Some v.expression
    truth other = None

-- FIXED BINARY of so many digits
abbrev pub number_type : (precision : ℕ) → ExpressionType
number_type precision = types.FixedBinary precision

-- the first, where there is a second too
abbrev pub with_number : Option ExpressionType → Option ℕ → Option ExpressionType
with_number kind None = None
with_number kind (Some p) = kind

-- T10 where a reference begins nowhere
abbrev pub begins_somewhere : (at : ℕ) → Option Referent → Result Referent Fault
begins_somewhere at None = at_fault LocatorMissingOrNotAllowed at
begins_somewhere at (Some r) = Ok r

-- T13 at the function's name where it does not take the arguments
abbrev pub or_bad_argument : (at : ℕ) → Option TypedValue → Result TypedValue Fault
or_bad_argument at None = at_fault WrongBuiltInArgument at
or_bad_argument at (Some v) = Ok v

-- T7 at the called name where one does not suit
abbrev pub or_wrong_argument : (at : ℕ) → Option TypedArguments → Result TypedArguments Fault
or_wrong_argument at None = at_fault WrongArgument at
or_wrong_argument at (Some arguments) = Ok arguments

-- an argument, and those after it
abbrev pub passed_before : (greatest : ℕ) → ParameterType → Argument → Option TypedArguments
    → Option TypedArguments
passed_before greatest type a None = None
passed_before greatest type a (Some more) =
    passed type (passed_place type a.denoted) (passed_value greatest type (meant_as a.denoted)) more

-- the type of what a procedure gives, whose RETURNS names this area if it gives an OFFSET
abbrev pub type_returned : (area : Option Beginning) → Option Description → Option ExpressionType
type_returned area None = None
type_returned area (Some d) = type_of area d

-- statements

-- items of PUT, one after the other
abbrev pub items : Naming → List Expression → Result (List TypedExpression) Fault
items n [] = Ok []
items n (e ∷ es) = do
  x ← item n e
  xs ← items n es
  Ok (x ∷ xs)

-- a jump to the label of a statement in the block so many static links outward, if it is found there
abbrev pub jump_to : (label : ℕ) → Option ℕ → Option Form
jump_to label None = None
jump_to label (Some outward) = Some (typed.Goto outward label)

-- ALLOCATE with its items, the first of whose temporaries is this one
abbrev pub allocate_typed : Naming → (temporary : ℕ) → List Allocation → Result Form Fault
allocate_typed n temporary list = all_allocated n temporary list >>= λ xs. Ok (typed.Allocate xs)

-- FREE with its items
abbrev pub free_typed : Naming → List Reference → Result Form Fault
free_typed n list = in_turn (freed n) list >>= λ xs. Ok (typed.Free xs)

-- TO or BY, which may be left out
abbrev pub possible_limit : Naming → Option Expression → Result (Option TypedExpression) Fault
possible_limit n None = Ok None
possible_limit n (Some e) = do
  x ← limit n e
  Ok (Some x)

-- WHILE, which may be left out
abbrev pub possible_condition : Naming → Option Expression → Result (Option TypedExpression) Fault
possible_condition n None = Ok None
possible_condition n (Some e) = do
  x ← condition n e
  Ok (Some x)

-- PUT with its items
abbrev pub put_form : (skip : Bool) → Result (List TypedExpression) Fault
    → Result (WithProcedures Form) (List Fault)
put_form skip typed_items = made (typed.Put skip) (of_own typed_items)

-- IF with its three parts
abbrev pub if_form : Result TypedExpression Fault → Result (WithProcedures TypedStatement) (List Fault)
    → Result (WithProcedures OtherWise) (List Fault) → Result (WithProcedures Form) (List Fault)
if_form tested consequence alternative =
    let parts : Result (WithProcedures (TypedStatement × OtherWise)) (List Fault) =
    together (λ s otherwise. (s, otherwise)) consequence alternative in
    together (λ x both. typed.If x both.0 both.1) (of_own tested) parts
