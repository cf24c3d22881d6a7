-- A reference, segment by segment.
use Rattle.std.specs.Prelude.{ℕ, Bool, true, false, Result, Ok}
use Rattle.pli_base.specs.Results.{◌>>=◌}
use Rattle.pli_base.specs.Syntax.{JoinedParts, Alone, Joined, Arguments, Expressions}
use Rattle.pli_base.specs.declared.syntax.Identifier.{Identifier}
use Rattle.pli_base.specs.declared.syntax.Joining.{Joining}
use Rattle.pli_base.specs.declared.syntax.Joining.TheVariants.{Member, Located}
use Rattle.pli_base.specs.declared.token.Fault.{Fault}
use Rattle.pli_declare.specs.declared.built_in.BuiltInFunction.{BuiltInFunction}
use Rattle.pli_declare.specs.declared.built_in.BuiltInFunction.TheVariants as functions
use Rattle.pli_type_rules.specs.ExpressionTypes.{TypedValue}
use Rattle.pli_type_rules.specs.FunctionCalls.{roles_of, function_called}
use Rattle.pli_type_rules.specs.Names.{Naming, NamedAs, AFunction}
use Rattle.pli_type_rules.specs.References.{AsLocator}
use Rattle.pli_type_rules.specs.Typing.{Segment, subscripts_in, with_more, ended, begun, all_arguments}
use Rattle.pli_type_rules.specs.Typing.{roles_or_none, how_many, as_locator}

-- NULL
abbrev pub is_null_function : BuiltInFunction → Bool
is_null_function functions.Null = true
is_null_function function = false

-- EMPTY
abbrev pub is_empty_function : BuiltInFunction → Bool
is_empty_function functions.Empty = true
is_empty_function function = false

-- a name means such a built-in function
abbrev pub means_one : (is_such : BuiltInFunction → Bool) → NamedAs → Bool
means_one is_such (AFunction function) = is_such function
means_one is_such meant = false

-- the segment after a part that is joined to one
abbrev pub next_segment : Naming → Segment → Joining → Identifier → Arguments → Result Segment Fault
next_segment n s Member name arguments = subscripts_in n arguments >>= λ xs. Ok (with_more s xs)
next_segment n s Located name arguments =
    ended AsLocator s >>= λ l. begun n (n.meaning name.at) false (as_locator l) name.at arguments

-- the last one
abbrev pub last_segment : Naming → Segment → JoinedParts → Result Segment Fault
last_segment n s Alone = Ok s
last_segment n s (Joined joining name arguments more) =
    next_segment n s joining name arguments >>= λ t. last_segment n t more

-- what a function gives of arguments that are written
abbrev pub function_typed : Naming → BuiltInFunction → (at : ℕ) → Expressions → Result TypedValue Fault
function_typed n function at list =
    all_arguments n (roles_or_none (roles_of function (how_many list))) list
    >>= λ gs. function_called n.greatest function at (roles_of function (how_many list)) gs
