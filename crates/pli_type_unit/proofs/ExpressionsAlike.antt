-- Typed expressions, as the type checker finds them.
use Rattle.std.specs.Prelude.{◌≡◌, ℕ, nat_eq, Bool, true, false, Option, Some, None, option_map, option_and_then, refl, List, [], ◌∷◌, length, Result, Ok, if◌then◌else◌}
use Rattle.std.specs.Option.{unwrap_or, option_or}
use Rattle.std.proofs.Common.{ap, ◌∙◌}
use Rattle.std.proofs.Math.Path.{fun_ext}
use Rattle.pli_base.specs.Results.{◌>>=◌}
use Rattle.pli_base.specs.Reading.{at_fault}
use Rattle.pli_base.specs.Syntax.{Expression, Referred, Constant, Parenthesized, Prefix, Infix, Reference, Named}
use Rattle.pli_base.specs.Syntax.{JoinedParts, Alone, Joined, Arguments, Absent, Given, Expressions, Empty, Listed}
use Rattle.pli_base.specs.declared.code.Code.TheVariants.{WrongOperandType, WrongNumberOfArguments, NotCallableHere}
use Rattle.pli_base.specs.declared.code.Code.TheVariants.{WrongArgument, WrongBuiltInArgument}
use Rattle.pli_base.specs.declared.syntax.Joining.TheVariants.{Member, Located}
use Rattle.pli_base.specs.declared.token.Fault.{Fault}
use Rattle.pli_map.specs.ParameterTypes.{ParameterType, Stated, AnyString, AnyArray, ArrayOf, StructureOf}
use Rattle.pli_declare.specs.declared.built_in.BuiltInFunction.{BuiltInFunction}
use Rattle.pli_declare.specs.declared.built_in.BuiltInFunction.TheVariants as named
use Rattle.pli_type_rules.specs.ExpressionTypes.{type_of}
use Rattle.pli_type_rules.specs.declared.expression_type.ExpressionType.{ExpressionType}
use Rattle.pli_type_rules.specs.Faults.{or_fault}
use Rattle.pli_type_rules.specs.FunctionCalls as functions
use Rattle.pli_type_rules.specs.FunctionCalls.{Argument, Denoted, DenotesVariable, DenotesResult, DenotesEmpty, Meant, OneValue, WholeAggregate, meant_as}
use Rattle.pli_type_rules.specs.Names.{NamedProcedure, NamedAs, AVariable, AFunction, AProcedure, ALabel, Untyped}
use Rattle.pli_type_rules.specs.ProcedureCalls as calls
use Rattle.pli_type_rules.specs.ProcedureCalls.{handed}
use Rattle.pli_type_rules.specs.References.{Role, AsValue, AsArgument, AsLocator, LocatorBefore, NotLocated}
use Rattle.pli_type_rules.specs.Typing as old
use Rattle.pli_type_rules.specs.Typing.{Segment, OfVariable, OfFunction, OfEmpty, OfNoVariable, as_locator, first_token}
use Rattle.pli_type_rules.specs.Typing.{given_by, how_many, is_call, with_more}
use Rattle.pli_type_tree.specs.TypedTree.{ByPlace, Called, TypedArguments, TypedExpression, TypedReference}
use Rattle.pli_type_unit.specs.BuiltIns as built_in
use Rattle.pli_type_unit.specs.Contexts.{Context, meaning_in}
use Rattle.pli_type_unit.specs.Expressions as new
use Rattle.pli_type_unit.specs.Values as values
use Rattle.pli_type_unit.proofs.BuiltInsAlike.{value_alike, one_alike, roles_alike, arguments_alike}
use Rattle.pli_type_unit.proofs.NamedUnits.{naming}
use Rattle.pli_type_unit.proofs.PassingAlike.{agrees_alike}
use Rattle.pli_type_unit.proofs.ValuesAlike.{constant_alike, prefix_alike, infix_alike, converted_alike, placed_alike}
use Rattle.pli_type_unit.proofs.VariablesAlike.{variable_alike}

pub then_alike : {A B : Type 0} {x y : Result A Fault} {f g : A → Result B Fault} → x ≡ y → ((a : A) → f a ≡ g a) → (x >>= f) ≡ (y >>= g)
then_alike {A} {B} {x} {y} {f} {g} e h = ap (λ (r : Result A Fault). r >>= f) e ∙ ap (λ (k : A → Result B Fault). y >>= k) (fun_ext h)

-- calls of procedures

place_alike : (t : ParameterType) (d : Denoted) (more : TypedArguments) → new.by_place t d more ≡ option_map (λ place. ByPlace place more) (calls.passed_place t d)
place_alike t (DenotesVariable r) more =
    ap (λ b. option_map (λ place. ByPlace place more) (if b then calls.place_of r.reference r.description else None)) (agrees_alike t r.description)
place_alike t (DenotesResult value) more = refl
place_alike t DenotesEmpty more = refl

abbrev handing : ParameterType → TypedArguments → Option TypedExpression → Option TypedArguments
handing t more o = option_and_then (λ e. handed t e more) o

meant_alike : (t : ParameterType) (m : Meant) (more : TypedArguments)
    → option_and_then (λ v. handing t more (values.converted None t v)) (functions.value_in m) ≡ handing t more (calls.passed_value 63 t m)
meant_alike (Stated d) (OneValue v) more = ap (handing (Stated d) more) (converted_alike None d v)
meant_alike (AnyString form) (OneValue v) more = ap (handing (AnyString form) more) (placed_alike None form v)
meant_alike (AnyArray dimensions element) (OneValue v) more = refl
meant_alike (ArrayOf bounds element) (OneValue v) more = refl
meant_alike (StructureOf members) (OneValue v) more = refl
meant_alike (Stated d) (WholeAggregate r) more = refl
meant_alike (AnyString form) (WholeAggregate r) more = refl
meant_alike (AnyArray dimensions element) (WholeAggregate r) more = refl
meant_alike (ArrayOf bounds element) (WholeAggregate r) more = refl
meant_alike (StructureOf members) (WholeAggregate r) more = refl

handed_alike : (t : ParameterType) (d : Denoted) (more : TypedArguments) → new.by_value t d more ≡ handing t more (calls.passed_value 63 t (meant_as d))
handed_alike t d more = ap (option_and_then (λ v. handing t more (values.converted None t v))) (value_alike d) ∙ meant_alike t (meant_as d) more

either_alike : (t : ParameterType) (place : Option TypedReference) (value : Option TypedExpression) (more : TypedArguments)
    → option_or (option_map (λ place. ByPlace place more) place) (handing t more value) ≡ calls.passed t place value more
either_alike t (Some place) value more = refl
either_alike t None (Some e) more = refl
either_alike t None None more = refl

passed_alike : (t : ParameterType) (d : Denoted) (more : TypedArguments)
    → option_or (new.by_place t d more) (new.by_value t d more) ≡ calls.passed t (calls.passed_place t d) (calls.passed_value 63 t (meant_as d)) more
passed_alike t d more =
    ap (λ o. option_or o (new.by_value t d more)) (place_alike t d more)
    ∙ ap (option_or (option_map (λ place. ByPlace place more) (calls.passed_place t d))) (handed_alike t d more)
    ∙ either_alike t (calls.passed_place t d) (calls.passed_value 63 t (meant_as d)) more

all_alike : (ts : List ParameterType) (gs : List Argument) → new.all_passed ts gs ≡ calls.all_passed 63 ts gs
all_alike [] [] = refl
all_alike [] (a ∷ others) = refl
all_alike (t ∷ ts) [] = refl
all_alike (t ∷ ts) (a ∷ others) =
    ap (λ (f : TypedArguments → Option TypedArguments). option_and_then f (new.all_passed ts others)) (fun_ext (passed_alike t a.denoted))
    ∙ ap (option_and_then (calls.passed t (calls.passed_place t a.denoted) (calls.passed_value 63 t (meant_as a.denoted)))) (all_alike ts others)

pub passing_alike : (p : NamedProcedure) (at : ℕ) (gs : List Argument) → new.arguments_passed p at gs ≡ calls.arguments_passed 63 p at gs
passing_alike p at gs =
    ap (λ o. if nat_eq (length gs) (length p.parameters) then or_fault WrongArgument at o else at_fault {A = TypedArguments} WrongNumberOfArguments at)
    (all_alike p.parameters gs)

given_alike : (p : NamedProcedure) (at : ℕ) (passed : TypedArguments) (o : Option ExpressionType)
    → (or_fault NotCallableHere at o >>= λ kind. Ok (OfFunction (record { expression = Called p.callee passed; kind = kind })))
    ≡ calls.result_of at p.callee passed o >>= λ v. Ok (OfFunction v)
given_alike p at passed None = refl
given_alike p at passed (Some kind) = refl

-- references

ended_alike : (role : Role) (s : Segment) → new.ended role s ≡ old.ended role s
ended_alike role (OfVariable locator at v xs) = ap (λ r. r >>= λ r. Ok (DenotesVariable r)) (variable_alike role locator at v xs)
ended_alike role (OfFunction value) = refl
ended_alike role OfEmpty = refl
ended_alike role (OfNoVariable at) = refl

value_found : (at : ℕ) {x y : Result Denoted Fault} → x ≡ y → new.as_value at x ≡ old.as_value at y
value_found at e = then_alike e (one_alike at)

no_roles : (o : Option (List Role)) → unwrap_or o [] ≡ old.roles_or_none o
no_roles None = refl
no_roles (Some roles) = refl

function_alike : (f : BuiltInFunction) (at : ℕ) (gs : List Argument) (o : Option (List Role))
    → (or_fault WrongNumberOfArguments at o >>= λ roles. or_fault WrongBuiltInArgument at (built_in.of_arguments f gs) >>= λ v. Ok (given_by f v))
    ≡ functions.function_called 63 f at o gs >>= λ v. Ok (given_by f v)
function_alike f at gs None = refl
function_alike f at gs (Some roles) = ap (λ o. or_fault WrongBuiltInArgument at o >>= λ v. Ok (given_by f v)) (arguments_alike f gs)

alone_alike : (f : BuiltInFunction) (at : ℕ) → unwrap_or (option_map (given_by f) (built_in.of_values f [])) (OfNoVariable at) ≡ old.named_alone at f
alone_alike named.Abs at = refl
alone_alike named.Sign at = refl
alone_alike named.Length at = refl
alone_alike named.Max at = refl
alone_alike named.Min at = refl
alone_alike named.Mod at = refl
alone_alike named.Index at = refl
alone_alike named.Substring at = refl
alone_alike named.Divide at = refl
alone_alike named.LowBound at = refl
alone_alike named.HighBound at = refl
alone_alike named.Allocation at = refl
alone_alike named.Address at = refl
alone_alike named.Null at = refl
alone_alike named.Empty at = refl
alone_alike named.Pointer at = refl
alone_alike named.Offset at = refl

module _ (c : Context) where
  mutual
    pub denoted_alike : (role : Role) (e : Expression) → new.denoted c role e ≡ old.denoted (naming c) role e
    denoted_alike role (Referred reference) = referred_alike role reference
    denoted_alike role (Constant at value) = ap (λ v. Ok (DenotesResult v)) (constant_alike value)
    denoted_alike role (Parenthesized at inner) = then_alike (value_found (first_token inner) (denoted_alike AsValue inner)) (λ v. refl)
    denoted_alike role (Prefix operator at operand) =
        then_alike (value_found (first_token operand) (denoted_alike AsValue operand))
        (λ v. ap (λ o. or_fault WrongOperandType at o >>= λ u. Ok (DenotesResult u)) (prefix_alike operator v))
    denoted_alike role (Infix operator at left right) =
        then_alike (value_found (first_token left) (denoted_alike AsValue left))
        (λ v. then_alike (value_found (first_token right) (denoted_alike AsValue right))
        (λ w. ap (λ o. or_fault WrongOperandType at o >>= λ u. Ok (DenotesResult u)) (infix_alike operator v w)))

    pub referred_alike : (role : Role) (r : Reference) → new.referred c role r ≡ old.referred (naming c) role r
    referred_alike role (Named name arguments more) =
        then_alike (begun_alike (meaning_in c name.at) (is_call role false more) NotLocated name.at arguments) (λ s. joined_alike role s more)

    joined_alike : (role : Role) (s : Segment) (more : JoinedParts) → new.joined c role s more ≡ old.joined (naming c) role s more
    joined_alike role s Alone = ended_alike role s
    joined_alike role s (Joined Member name arguments more) = then_alike (subscripts_alike arguments) (λ xs. joined_alike role (with_more s xs) more)
    joined_alike role s (Joined Located name arguments more) =
        then_alike (ended_alike AsLocator s)
        (λ l. then_alike (begun_alike (meaning_in c name.at) (is_call role true more) (as_locator l) name.at arguments) (λ t. joined_alike role t more))

    begun_alike : (m : NamedAs) (call : Bool) (locator : LocatorBefore) (at : ℕ) (arguments : Arguments)
        → new.begun c m call locator at arguments ≡ old.begun (naming c) m call locator at arguments
    begun_alike (AVariable v) call locator at (Given list) = then_alike (all_subscripts_alike list) (λ xs. refl)
    begun_alike (AVariable v) call locator at Absent = refl
    begun_alike (AFunction f) true locator at Absent = ap Ok (alone_alike f at)
    begun_alike (AFunction f) true locator at (Given list) =
        then_alike
        (all_arguments_alike (unwrap_or (built_in.roles_asked f (how_many list)) []) list
        ∙ ap (λ roles. old.all_arguments (naming c) roles list)
        (ap (λ o. unwrap_or o []) (roles_alike f (how_many list)) ∙ no_roles (functions.roles_of f (how_many list))))
        (λ gs. ap (λ o. or_fault WrongNumberOfArguments at o >>= λ (roles : List Role). or_fault WrongBuiltInArgument at (built_in.of_arguments f gs) >>= λ v. Ok (given_by f v)) (roles_alike f (how_many list))
        ∙ function_alike f at gs (functions.roles_of f (how_many list)))
    begun_alike (AFunction f) false locator at (Given list) = then_alike (all_arguments_alike [] list) (λ gs. refl)
    begun_alike (AFunction f) false locator at Absent = refl
    begun_alike (AProcedure p) true locator at (Given list) =
        then_alike (all_arguments_alike [] list)
        (λ gs. then_alike (passing_alike p at gs) (λ passed. given_alike p at passed (option_and_then (type_of p.area) p.returned)))
    begun_alike (AProcedure p) true locator at Absent = refl
    begun_alike (AProcedure p) false locator at (Given list) = then_alike (all_arguments_alike [] list) (λ gs. refl)
    begun_alike (AProcedure p) false locator at Absent = refl
    begun_alike (ALabel statement) call locator at (Given list) = then_alike (all_arguments_alike [] list) (λ gs. refl)
    begun_alike (ALabel statement) call locator at Absent = refl
    begun_alike Untyped call locator at (Given list) = then_alike (all_arguments_alike [] list) (λ gs. refl)
    begun_alike Untyped call locator at Absent = refl

    subscripts_alike : (arguments : Arguments) → new.subscripts_in c arguments ≡ old.subscripts_in (naming c) arguments
    subscripts_alike Absent = refl
    subscripts_alike (Given list) = all_subscripts_alike list

    all_subscripts_alike : (list : Expressions) → new.all_subscripts c list ≡ old.all_subscripts (naming c) list
    all_subscripts_alike Empty = refl
    all_subscripts_alike (Listed first more) =
        then_alike (value_found (first_token first) (denoted_alike AsValue first))
        (λ v. then_alike refl (λ x. then_alike (all_subscripts_alike more) (λ xs. refl)))

    pub all_arguments_alike : (roles : List Role) (list : Expressions) → new.all_arguments c roles list ≡ old.all_arguments (naming c) roles list
    all_arguments_alike roles Empty = refl
    all_arguments_alike [] (Listed first more) =
        then_alike (denoted_alike AsArgument first) (λ d. then_alike (all_arguments_alike [] more) (λ gs. refl))
    all_arguments_alike (role ∷ roles) (Listed first more) =
        then_alike (denoted_alike role first) (λ d. then_alike (all_arguments_alike roles more) (λ gs. refl))

  pub found_alike : (e : Expression) → new.value_of c e ≡ old.value_of (naming c) e
  found_alike e = value_found (first_token e) (denoted_alike AsValue e)
