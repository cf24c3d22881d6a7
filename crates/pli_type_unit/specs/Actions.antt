-- What statements do that have none in them: each gives what it is typed as, or its first fault of types. A group
-- and an IF have their conditions here, and what controls a group.
use Rattle.std.specs.Prelude.{ℕ, ◌+◌, Bool, not, ◌&&◌, Option, Some, None, is_none}
use Rattle.std.specs.Prelude.{option_map, option_and_then, List, [], ◌∷◌, slice_get, Result, Ok}
use Rattle.std.specs.Prelude.{if◌then◌else◌}
use Rattle.pli_base.specs.Results.{◌>>=◌}
use Rattle.pli_base.specs.Reading.{at_fault}
use Rattle.pli_base.specs.Statements as tree
use Rattle.pli_base.specs.Statements.{Range}
use Rattle.pli_base.specs.Statements.{Allocation}
use Rattle.pli_base.specs.Syntax.{Expression, Reference, Arguments, Absent, Given}
use Rattle.pli_base.specs.declared.code.Code.TheVariants.{NotAVariable, CannotAssign, NotCallableHere}
use Rattle.pli_base.specs.declared.code.Code.TheVariants.{WrongOperandType, WrongReturn}
use Rattle.pli_base.specs.declared.code.Code.TheVariants.{BadControlVariable, CannotAllocateOrFree}
use Rattle.pli_base.specs.declared.syntax.Identifier.{Identifier}
use Rattle.pli_base.specs.declared.token.Fault.{Fault}
use Rattle.pli_map.specs.ParameterTypes.{ParameterType, Stated, AnyString, is_aggregate_type}
use Rattle.pli_type_rules.specs.AllocationTyping.{if_written, kept_for, locator_set, placed_in, released}
use Rattle.pli_type_rules.specs.Beginnings.{area_meant}
use Rattle.pli_type_rules.specs.ExpressionTypes.{TypedValue, only_bits, unconverted}
use Rattle.pli_type_rules.specs.Faults.{or_fault}
use Rattle.pli_type_rules.specs.FunctionCalls.{Argument, Denoted}
use Rattle.pli_type_rules.specs.Names.{AVariable, AProcedure, NamedAs, NamedProcedure}
use Rattle.pli_type_rules.specs.Names.{NamedStorage}
use Rattle.pli_type_rules.specs.Names.{Begins, IsBased}
use Rattle.pli_type_rules.specs.References.{AsArgument, AsLocator, AsTarget, AsValue, Referent, Role}
use Rattle.pli_type_rules.specs.StatementTyping.{are_alike, area_put, has_locator, suits_range}
use Rattle.pli_type_rules.specs.StatementTyping.{without_subscripts}
use Rattle.pli_type_rules.specs.Typing.{first_token, own_token}
use Rattle.pli_type_rules.specs.declared.beginning.Beginning.{Beginning}
use Rattle.pli_type_tree.specs.Extents.{is_area_type}
use Rattle.pli_type_tree.specs.TypedTree as typed
use Rattle.pli_type_tree.specs.TypedTree.{AllocatedItem, AllocatesControlled, Form, FreedItem, Iteration}
use Rattle.pli_type_tree.specs.TypedTree.{NewestOf}
use Rattle.pli_type_tree.specs.TypedTree.{TypedExpression}
use Rattle.pli_type_tree.specs.TypedTree.{TypedRange}
use Rattle.pli_type_unit.specs.BuiltIns.{referent_in}
use Rattle.pli_type_unit.specs.Contexts.{Context, meaning_in}
use Rattle.pli_type_unit.specs.Expressions.{all_arguments, arguments_passed, denoted, referred, suited}
use Rattle.pli_type_unit.specs.Expressions.{value_of}
use Rattle.pli_type_unit.specs.Values.{conversion, converted, digits_of}
use Rattle.pli_type_unit.specs.UnitNames.{area_named, is_based, returns_at, templates_in}

-- the variable or the part of one that a reference is; T1 at its first name after its last arrow where it is
-- none
abbrev pub variable_at : Context → Role → Reference → Result Referent Fault
variable_at c role reference = do
  d ← referred c role reference
  or_fault NotAVariable (own_token reference) (referent_in d)

-- assignments

-- an aggregate is assigned to one of equal description: types, bounds and structure agree, and are known
abbrev pub aggregate_put : (target : Referent) → Denoted → Option Form
aggregate_put target d =
    option_and_then (λ source.
    if are_alike target.description source.description
    then Some (typed.AssignAggregate target.reference source.reference) else None) (referent_in d)

-- a value that suits a scalar is assigned to it; a string of any length is fitted at its place
abbrev pub value_put : (target : Referent) → TypedValue → Option Form
value_put target v = option_map (put target.description) (converted target.area target.description v)
  where
    put : ParameterType → TypedExpression → Form
    put (AnyString form) x = typed.AssignString target.reference x
    put type x = typed.Assign target.reference x

-- what puts an expression into a variable, if it suits that, by what the variable is: to one value an
-- aggregate is T2
abbrev pub form_put : Context → (target : Referent) → Expression → Result (Option Form) Fault
form_put c r e =
    if is_aggregate_type r.description then (denoted c AsArgument e >>= λ d. Ok (aggregate_put r d))
    else if is_area_type r.description
    then (denoted c AsValue e >>= λ d. Ok (area_put (area_meant r.reference r.description) d))
    else (value_of c e >>= λ v. Ok (value_put r v))

-- the target, which is T1 at the statement's first token where it is no variable; then the expression; then
-- T5 at `=` where this does not suit that
abbrev pub assignment : Context → (at : ℕ) → Reference → (equals : ℕ) → Expression → Result Form Fault
assignment c at target equals e = do
  d ← referred c AsTarget target
  r ← or_fault NotAVariable at (referent_in d)
  form ← form_put c r e
  or_fault CannotAssign equals form

-- conditions, ranges and items

-- a condition is a string of bits, else T4 at its first token
abbrev pub condition : Context → Expression → Result TypedExpression Fault
condition c = suited c WrongOperandType (λ v. only_bits v.expression v.kind)

-- TO and BY take a number, else T4 at its first token
abbrev pub limit : Context → Expression → Result TypedExpression Fault
limit c = suited c WrongOperandType (λ v. option_map (λ p. v.expression) (digits_of v))

-- TO and BY in the order in which they stand; what REPEAT says is looked at after the variable
abbrev pub limits : Context → Option Range → Result TypedRange Fault
limits c (Some (tree.To to by)) = do
  x ← limit c to
  y ← if_written (limit c) by
  Ok (typed.ToBy x y)
limits c (Some (tree.By by to)) = do
  x ← limit c by
  y ← if_written (limit c) to
  Ok (typed.ByTo x y)
limits c other = Ok typed.Once

-- REPEAT gives the control variable this
abbrev pub repeated : ParameterType → TypedExpression → TypedRange
repeated (AnyString form) x = typed.RepeatedString x
repeated type x = typed.Repeated x

-- and with REPEAT, if it stands: T5 at its expression where that does not suit the variable
abbrev pub with_repeat : Context → (control : Referent) → TypedRange → Option Range → Result TypedRange Fault
with_repeat c r range (Some (tree.Repeat next)) =
    suited c CannotAssign (λ v. option_map (repeated r.description) (converted r.area r.description v)) next
with_repeat c r range other = Ok range

-- a variable may control a group: one without subscripts, that no locator and no area is, and a number where
-- TO or BY stands
abbrev pub may_control : Reference → TypedRange → Referent → Bool
may_control variable range r =
    without_subscripts r.reference && not (has_locator variable) && not (is_area_type r.description)
    && suits_range r.description range

-- `v = a ..`: the faults of a, of TO and BY, of v, T12 at v, T5 at `=`, those of WHILE, those of REPEAT
abbrev pub iteration : Context → (temporary : ℕ) → Reference → (equals : ℕ) → (first : Expression)
    → Option Range → (condition : Option Expression) → Result Iteration Fault
iteration c temporary variable equals first range tested = do
  v ← value_of c first
  kept ← limits c range
  r ← variable_at c AsLocator variable
  suits ← if may_control variable kept r then Ok r else at_fault BadControlVariable (own_token variable)
  convert ← or_fault CannotAssign equals (conversion r.area r.description v.kind)
  x ← if_written (condition c) tested
  turns ← with_repeat c r kept range
  Ok (record {
    control = r.reference;
    conversion = convert;
    start = unconverted r.description v;
    range = turns;
    condition = x;
    temporary = temporary;
  })

-- storage

-- what a variable in this storage takes in ALLOCATE, by the members on the way to it, where these references
-- stand in IN and in SET: one that is CONTROLLED neither
abbrev pub taken_in : Context → (temporary : ℕ) → NamedStorage → (path : List ℕ)
    → (area target : Option Referent) → Option AllocatedItem
taken_in c temporary (Begins (NewestOf number) is_parameter) [] None None = Some (AllocatesControlled number)
taken_in c temporary (IsBased block number implied) [] area target =
    option_and_then (λ t. option_and_then (placed_in area t temporary) (locator_set target implied))
    (slice_get (templates_in c.unit is_based block) number)
taken_in c temporary storage path area target = None

-- what a name in ALLOCATE takes
abbrev pub taken : Context → (temporary : ℕ) → NamedAs → (area target : Option Referent) → Option AllocatedItem
taken c temporary (AVariable v) area target = taken_in c temporary v.storage v.path area target
taken c temporary meant area target = None

-- an item of ALLOCATE: the faults of IN, then those of SET, whatever their order in the text; then T11 at the
-- name of what can't be allocated
abbrev pub allocated : Context → (temporary : ℕ) → Allocation → Result AllocatedItem Fault
allocated c temporary a = do
  area ← if_written (variable_at c AsLocator) a.area
  target ← if_written (variable_at c AsLocator) a.target
  or_fault CannotAllocateOrFree a.name.at (taken c temporary (meaning_in c a.name.at) area target)

-- items one after the other, up to the first fault, the next temporary being this one
abbrev pub all_allocated : Context → (temporary : ℕ) → List Allocation → Result (List AllocatedItem) Fault
all_allocated c temporary [] = Ok []
all_allocated c temporary (a ∷ others) = do
  x ← allocated c temporary a
  xs ← all_allocated c (temporary + kept_for x) others
  Ok (x ∷ xs)

-- an item of FREE: the faults of its reference, then T11 where that can't be freed, at its first name after
-- its last arrow
abbrev pub freed : Context → Reference → Result FreedItem Fault
freed c reference = do
  r ← variable_at c AsTarget reference
  or_fault CannotAllocateOrFree (own_token reference) (released r.reference)

-- calls and returns

-- what CALL has in parentheses
abbrev pub arguments_typed : Context → Arguments → Result (List Argument) Fault
arguments_typed c Absent = Ok []
arguments_typed c (Given list) = all_arguments c [] list

-- the procedure that a name means
abbrev pub procedure_in : NamedAs → Option NamedProcedure
procedure_in (AProcedure p) = Some p
procedure_in meant = None

-- CALL: the faults of its arguments, then T6, T7 or T8 at the name, in this order: T8 where it is no
-- procedure, or a function
abbrev pub call_typed : Context → (name : Identifier) → Arguments → Result Form Fault
call_typed c name arguments = do
  gs ← arguments_typed c arguments
  p ← or_fault NotCallableHere name.at (procedure_in (meaning_in c name.at))
  passed ← arguments_passed p name.at gs
  if is_none p.returned then Ok (typed.Call p.callee passed) else at_fault NotCallableHere name.at

-- the area that OFFSET in the RETURNS of the procedure here names
abbrev pub area_here : Context → Option Beginning
area_here c =
    option_and_then (λ block. area_named c.unit c.blocks (returns_at c.unit block).1) (slice_get c.blocks c.begins)

-- RETURN: T9 with a value where the procedure is no function, and without one in a function; T5 at the value
-- where it does not suit
abbrev pub return_typed : Context → (at : ℕ) → Option Expression → Result Form Fault
return_typed c at None =
    if is_none c.value then Ok (typed.Return c.begins) else at_fault WrongReturn at
return_typed c at (Some e) = do
  v ← value_of c e
  d ← or_fault WrongReturn at c.value
  x ← or_fault CannotAssign (first_token e) (converted (area_here c) (Stated d) v)
  Ok (typed.ReturnValue c.begins x)
