-- Calls of procedures: how arguments are handed over, and what a function gives (X3.74; the order of faults
-- is own).
use Rattle.std.specs.Prelude.{ℕ, nat_eq, Option, Some, None, option_map, List, [], ◌∷◌, length, Result, Ok}
use Rattle.std.specs.Prelude.{if◌then◌else◌, option_and_then}
use Rattle.pli_base.specs.Reading.{at_fault}
use Rattle.pli_base.specs.declared.code.Code.TheVariants.{WrongNumberOfArguments, WrongArgument}
use Rattle.pli_base.specs.declared.code.Code.TheVariants.{NotCallableHere}
use Rattle.pli_base.specs.declared.token.Fault.{Fault}
use Rattle.pli_map.specs.ParameterTypes.{ParameterType, Stated, AnyString, agrees}
use Rattle.pli_type_rules.specs.Beginnings.{area_meant, whole_at}
use Rattle.pli_type_rules.specs.ExpressionTypes.{TypedValue, converted, suited_to_form}
use Rattle.pli_type_rules.specs.Faults.{or_fault}
use Rattle.pli_type_rules.specs.FunctionCalls.{Denoted, DenotesVariable, Meant, OneValue}
use Rattle.pli_type_rules.specs.FunctionCalls.{meant_as, Argument}
use Rattle.pli_type_rules.specs.Names.{NamedProcedure}
use Rattle.pli_type_rules.specs.declared.expression_type.ExpressionType.{ExpressionType}
use Rattle.pli_type_tree.specs.TypedTree.{Callee, TypedExpression, Called, TypedReference}
use Rattle.pli_type_tree.specs.TypedTree.{TypedArguments, NoArgument, ByPlace, ByDummy, ByString}
use Rattle.pli_type_tree.specs.Extents.{is_area_type}

-- the place that a reference to what is of this type hands over: that of a whole area, where it is one
abbrev pub place_of : TypedReference → ParameterType → Option TypedReference
place_of reference type =
    if is_area_type type then option_map whole_at (area_meant reference type) else Some reference

-- a variable that agrees with the parameter is handed over itself
abbrev pub passed_place : ParameterType → Denoted → Option TypedReference
passed_place type (DenotesVariable r) =
    if agrees type r.description then place_of r.reference r.description else None
passed_place type denoted = None

-- any other value is converted to it, and a dummy argument holds it; a pointer does not become an offset for
-- an OFFSET; a string for one of any length is not fitted
abbrev pub passed_value : (greatest : ℕ) → ParameterType → Meant → Option TypedExpression
passed_value greatest (Stated d) (OneValue v) = converted greatest None d v
passed_value greatest (AnyString form) (OneValue v) = suited_to_form form v.expression v.kind
passed_value greatest type meant = None

-- a value is handed over for a parameter of this type
abbrev pub handed : ParameterType → TypedExpression → TypedArguments → Option TypedArguments
handed (Stated d) e more = Some (ByDummy d e more)
handed (AnyString form) e more = Some (ByString form e more)
handed type e more = None

-- an argument is handed over by its place, if it can be, or else by its value
abbrev pub passed : ParameterType → Option TypedReference → Option TypedExpression → TypedArguments
    → Option TypedArguments
passed type (Some place) value more = Some (ByPlace place more)
passed type None (Some e) more = handed type e more
passed type None None more = None

-- as many arguments as parameters, where each suits its parameter
abbrev pub all_passed : (greatest : ℕ) → (parameters : List ParameterType) → List Argument
    → Option TypedArguments
all_passed greatest [] [] = Some NoArgument
all_passed greatest (t ∷ ts) (a ∷ more) =
    option_and_then (passed t (passed_place t a.denoted) (passed_value greatest t (meant_as a.denoted)))
    (all_passed greatest ts more)
all_passed greatest parameters arguments = None

-- T6 at the called name where their number is wrong, T7 there where one does not suit
abbrev pub arguments_passed : (greatest : ℕ) → NamedProcedure → (at : ℕ) → List Argument
    → Result TypedArguments Fault
arguments_passed greatest p at arguments =
    if nat_eq (length arguments) (length p.parameters)
    then or_fault WrongArgument at (all_passed greatest p.parameters arguments)
    else at_fault WrongNumberOfArguments at

-- what a function gives; T8 at the called name of what is none
abbrev pub result_of : (at : ℕ) → Callee → TypedArguments → Option ExpressionType → Result TypedValue Fault
result_of at callee arguments None = at_fault NotCallableHere at
result_of at callee arguments (Some kind) = Ok (record { expression = Called callee arguments; kind = kind })
