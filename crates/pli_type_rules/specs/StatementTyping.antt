-- Typed statements: a statement gives a typed one, or its first fault of types and those of the statements in
-- it. An IF and a DO have a fault of their own, and so has each statement in them (own). An ON-unit is typed
-- as a procedure without parameters and value, whose list is its statement.
use Rattle.std.specs.Prelude.{ℕ, suc, ◌+◌, nat_eq, Bool, true, false, not, ◌&&◌, Option, Some, None}
use Rattle.std.specs.Prelude.{is_none, option_map, option_and_then}
use Rattle.std.specs.Prelude.{List, [], ◌∷◌, ◌++◌, length, map, slice_get, Result, Ok, Err, if◌then◌else◌}
use Rattle.std.specs.List.{list_any}
use Rattle.pli_base.specs.Results.{◌>>=◌}
use Rattle.pli_base.specs.Reading.{at_fault}
use Rattle.pli_base.specs.Statements as tree
use Rattle.pli_base.specs.Statements.{Range, Statement, Numbered, Body, Assign, Declare, Statements}
use Rattle.pli_base.specs.Statements.{Before, Ended, Alternative}
use Rattle.pli_base.specs.Syntax.{Expression, Reference, Named, JoinedParts, Alone, Joined}
use Rattle.pli_base.specs.Syntax.{Arguments, Absent, Given}
use Rattle.pli_base.specs.declared.syntax.Joining.TheVariants.{Member, Located}
use Rattle.pli_base.specs.declared.code.Code.TheVariants.{NotAVariable, CannotAssign, NotCallableHere}
use Rattle.pli_base.specs.declared.code.Code.TheVariants.{CannotPrint, WrongOperandType, WrongReturn}
use Rattle.pli_base.specs.declared.code.Code.TheVariants.{BadControlVariable, BadGoto}
use Rattle.pli_base.specs.declared.syntax.Identifier.{Identifier}
use Rattle.pli_base.specs.declared.token.Fault.{Fault}
use Rattle.pli_map.specs.Description.{Description, FixedBinary}
use Rattle.pli_map.specs.ParameterTypes.{ParameterType, Stated, AnyString, is_aggregate_type}
use Rattle.pli_map.specs.Same.{same}
use Rattle.pli_map.specs.Scalars.{is_area}
use Rattle.pli_map.specs.declared.parameter.StringForm.{StringForm}
use Rattle.pli_type_rules.specs.AllocationTyping.{in_turn, all_allocated, freed, if_written}
use Rattle.pli_type_rules.specs.Beginnings.{area_meant, whole_at}
use Rattle.pli_type_rules.specs.ExpressionTypes.{TypedValue, conversion_to, converted, printed, as_number}
use Rattle.pli_type_rules.specs.ExpressionTypes.{suited_to_form, unconverted, only_bits}
use Rattle.pli_type_rules.specs.Faults.{or_fault}
use Rattle.pli_type_rules.specs.FunctionCalls.{Denoted, DenotesVariable, DenotesEmpty, area_of}
use Rattle.pli_type_rules.specs.FunctionCalls.{Meant, OneValue, WholeAggregate, Argument}
use Rattle.pli_type_rules.specs.Names.{NamedAs, AProcedure, ALabel, Naming, NamedUnit}
use Rattle.pli_type_rules.specs.ProcedureCalls.{arguments_passed}
use Rattle.pli_type_rules.specs.References.{AsArgument, AsLocator, AsTarget, AsValue, Referent}
use Rattle.pli_type_rules.specs.Temporaries.{Next, next_after, temporaries_among, limits_kept}
use Rattle.pli_type_rules.specs.Typing.{first_token, own_token, meant, denoted, referred, value_of}
use Rattle.pli_type_rules.specs.Typing.{all_arguments}
use Rattle.pli_type_tree.specs.TypedTree as typed
use Rattle.pli_type_tree.specs.TypedTree.{Callee, TypedExpression, TypedReference, Whole, Part}
use Rattle.pli_type_tree.specs.TypedTree.{NoSubscript, BlockHead, TypedRange, Iteration, Form}
use Rattle.pli_type_tree.specs.TypedTree.{TypedArguments, TypedStatement, TypedStatements, NoStatement}
use Rattle.pli_type_tree.specs.TypedTree.{StatementThen, OtherWise, NoElse, Else, TypedProcedure}
use Rattle.pli_type_tree.specs.Extents.{is_area_type}
use Rattle.pli_type_rules.specs.declared.beginning.Beginning.{Beginning}
use Rattle.pli_type_rules.specs.declared.expression_type.ExpressionType.TheVariants as types

-- assignments

-- two types are the same, and no `*` stands in them
abbrev pub are_alike : (one other : ParameterType) → Bool
are_alike (Stated d) (Stated e) = same d e
are_alike one other = false

-- an aggregate is assigned to one of equal description: types, bounds and structure agree, and are known
abbrev pub aggregate_assigned : (equals : ℕ) → (target : Referent) → Meant → Result Form Fault
aggregate_assigned equals target (OneValue v) = at_fault CannotAssign equals
aggregate_assigned equals target (WholeAggregate source) =
    if are_alike target.description source.description
    then Ok (typed.AssignAggregate target.reference source.reference)
    else at_fault CannotAssign equals

-- to a scalar one value is assigned, an aggregate being T2 there; T5 at `=` where the value does not suit
abbrev pub scalar_assigned : Naming → (equals : ℕ) → (target : Referent) → Description → Expression
    → Result Form Fault
scalar_assigned n equals target d e = do
  v ← value_of n e
  x ← or_fault CannotAssign equals (converted n.greatest target.area d v)
  Ok (typed.Assign target.reference x)

-- to a string of any length too: it is fitted to its place
abbrev pub string_assigned : Naming → (equals : ℕ) → (target : Referent) → StringForm → Expression
    → Result Form Fault
string_assigned n equals target form e = do
  v ← value_of n e
  x ← or_fault CannotAssign equals (suited_to_form form v.expression v.kind)
  Ok (typed.AssignString target.reference x)

-- to an area another one is assigned, or EMPTY, but nothing in parentheses
abbrev pub area_put : (target : Option Beginning) → Denoted → Option Form
area_put None d = None
area_put (Some target) DenotesEmpty = Some (typed.EmptyArea (whole_at target))
area_put (Some target) d =
    option_map (λ source. typed.AssignArea (whole_at target) (whole_at source)) (area_of d)

-- the same: an aggregate is T2 there, and anything else T5 at `=`
abbrev pub area_assigned : Naming → (equals : ℕ) → (target : Option Beginning) → Expression
    → Result Form Fault
area_assigned n equals target e = do
  d ← denoted n AsValue e
  or_fault CannotAssign equals (area_put target d)

-- to what is no aggregate, by what it is
abbrev pub one_assigned : Naming → (equals : ℕ) → (target : Referent) → ParameterType → Expression
    → Result Form Fault
one_assigned n equals target (Stated d) e =
    if is_area d then area_assigned n equals (area_meant target.reference (Stated d)) e
    else scalar_assigned n equals target d e
one_assigned n equals target (AnyString form) e = string_assigned n equals target form e
one_assigned n equals target type e = at_fault CannotAssign equals

-- by what the target is
abbrev pub variable_assigned : Naming → (equals : ℕ) → (target : Referent) → Expression → Result Form Fault
variable_assigned n equals target e =
    if is_aggregate_type target.description then (meant n AsArgument e >>= aggregate_assigned equals target)
    else one_assigned n equals target target.description e

-- by what the target denotes; a function's result is none
abbrev pub assigned : Naming → (at equals : ℕ) → Denoted → Expression → Result Form Fault
assigned n at equals (DenotesVariable target) e = variable_assigned n equals target e
assigned n at equals denoted e = at_fault NotAVariable at

-- the target, then the expression, then `=`
abbrev pub assignment : Naming → (at : ℕ) → Reference → (equals : ℕ) → Expression → Result Form Fault
assignment n at target equals e = do
  d ← referred n AsTarget target
  assigned n at equals d e

-- conditions and items

-- a condition is a string of bits, else T4 at its first token
abbrev pub condition : Naming → Expression → Result TypedExpression Fault
condition n e = do
  v ← value_of n e
  or_fault WrongOperandType (first_token e) (only_bits v.expression v.kind)

-- an item of PUT, which is T14 at its first token where it can't be printed
abbrev pub item : Naming → Expression → Result TypedExpression Fault
item n e = do
  v ← value_of n e
  or_fault CannotPrint (first_token e) (printed v)

-- where statements stand

-- a block around: its number; the labels of its lists in which the statement stands; and those among them
-- that last while the block runs, of its own list and of none of its groups
pub record Enclosing : Type 0 where
  pub number : ℕ
  pub labels : List ℕ
  pub lasting : List ℕ

-- where a statement stands: the blocks around, the innermost first; how many of them are BEGIN blocks of its
-- procedure; and what its procedure gives, if it is a function
pub record Surroundings : Type 0 where
  pub blocks : List Enclosing
  pub begins : ℕ
  pub value : Option Description

-- what names mean there
abbrev pub naming_at : NamedUnit → Surroundings → Naming
naming_at u s = u.naming (map (λ b. b.number) s.blocks)

-- the number of the block there
abbrev pub block_at : Surroundings → ℕ
block_at s = innermost s.blocks
  where
    innermost : List Enclosing → ℕ
    innermost [] = 0
    innermost (b ∷ bs) = b.number

-- a DECLARE and a procedure leave nothing among the statements
abbrev pub leaves_nothing : Body → Bool
leaves_nothing (Declare declared) = true
leaves_nothing (tree.Procedure heading statements end) = true
leaves_nothing body = false

-- the label of a statement is its number, if it has one; that of a DECLARE or a procedure is none here
abbrev pub label_of : Statement → List ℕ
label_of (Numbered number None at body) = []
label_of (Numbered number (Some label) at body) = if leaves_nothing body then [] else number ∷ []

-- the labels of a list
abbrev pub labels_of : Statements → List ℕ
labels_of Ended = []
labels_of (Before first more) = label_of first ++ labels_of more

-- the innermost block knows these labels too
abbrev pub with_labels : List ℕ → List Enclosing → List Enclosing
with_labels labels [] = []
with_labels labels (b ∷ bs) =
    record { number = b.number; labels = labels ++ b.labels; lasting = b.lasting } ∷ bs

-- in a group: the labels of its list are known too
abbrev pub in_group : Statements → Surroundings → Surroundings
in_group statements s = record s { blocks = with_labels (labels_of statements) s.blocks }

-- a block of this number, whose list this is
abbrev pub enclosing : (number : ℕ) → Statements → Enclosing
enclosing number statements =
    record { number = number; labels = labels_of statements; lasting = labels_of statements }

-- in a BEGIN block of this number
abbrev pub in_begin : (number : ℕ) → Statements → Surroundings → Surroundings
in_begin number statements s =
    record s { blocks = enclosing number statements ∷ s.blocks; begins = suc s.begins }

-- in a procedure whose block has this number
abbrev pub in_procedure : (number : ℕ) → (value : Option Description) → Statements → Surroundings
    → Surroundings
in_procedure number value statements s = record {
  blocks = enclosing number statements ∷ s.blocks;
  begins = 0;
  value = value;
}

-- of the innermost block the labels that last are known alone
abbrev pub lasting_alone : List Enclosing → List Enclosing
lasting_alone [] = []
lasting_alone (b ∷ bs) = record { number = b.number; labels = b.lasting; lasting = b.lasting } ∷ bs

-- the list of an ON-unit is its statement
abbrev pub only : Statement → Statements
only unit = Before unit Ended

-- in an ON-unit whose block has this number; it may run while no group of the block around does (own)
abbrev pub in_on_unit : (number : ℕ) → (unit : Statement) → Surroundings → Surroundings
in_on_unit number unit s = record {
  blocks = enclosing number (only unit) ∷ lasting_alone s.blocks;
  begins = 0;
  value = None;
}

-- jumps, calls and returns

-- how many static links outward the label of a statement is
abbrev pub label_found : List Enclosing → (label : ℕ) → Option ℕ
label_found [] label = None
label_found (b ∷ bs) label =
    if list_any (nat_eq label) b.labels then Some 0 else option_map suc (label_found bs label)

-- a GOTO leads to a label of a list that it stands in, in the block so many static links outward; any other
-- leads nowhere
abbrev pub jump : Surroundings → NamedAs → Option Form
jump s (ALabel statement) = option_map (λ outward. typed.Goto outward statement) (label_found s.blocks statement)
jump s other = None

-- GOTO: A11 at the label where it leads nowhere. Resolution tells this fault of each text already, so no unit
-- that is typed has it
abbrev pub goto_typed : Naming → Surroundings → (label : Identifier) → Result Form Fault
goto_typed n s label = or_fault BadGoto label.at (jump s (n.meaning label.at))

-- what CALL has in parentheses
abbrev pub arguments_typed : Naming → Arguments → Result (List Argument) Fault
arguments_typed n Absent = Ok []
arguments_typed n (Given list) = all_arguments n [] list

-- a call of what is no function; else T8 at the name
abbrev pub no_function : (at : ℕ) → Callee → Option Description → TypedArguments → Result Form Fault
no_function at callee None arguments = Ok (typed.Call callee arguments)
no_function at callee (Some d) arguments = at_fault NotCallableHere at

-- a call of a procedure; T8 at the name of what is none
abbrev pub call_of : (greatest : ℕ) → (at : ℕ) → NamedAs → List Argument → Result Form Fault
call_of greatest at (AProcedure p) gs =
    arguments_passed greatest p at gs >>= no_function at p.callee p.returned
call_of greatest at other gs = at_fault NotCallableHere at

-- CALL: the faults of its arguments, then T6, T7 or T8 at the name, in this order
abbrev pub call_typed : Naming → (name : Identifier) → Arguments → Result Form Fault
call_typed n name arguments = do
  gs ← arguments_typed n arguments
  call_of n.greatest name.at (n.meaning name.at) gs

-- the area that OFFSET in the RETURNS of the procedure here names
abbrev pub area_here : Naming → Surroundings → Option Beginning
area_here n s = option_and_then (λ (b : Enclosing). n.returned_area b.number) (slice_get s.blocks s.begins)

-- RETURN with a value: T9 at RETURN where the procedure is no function, T5 at the value where it does not
-- suit
abbrev pub returned_value : (greatest : ℕ) → (area : Option Beginning) → (at first begins : ℕ)
    → Option Description → TypedValue → Result Form Fault
returned_value greatest area at first begins None v = at_fault WrongReturn at
returned_value greatest area at first begins (Some d) v = do
  x ← or_fault CannotAssign first (converted greatest area d v)
  Ok (typed.ReturnValue begins x)

-- RETURN; without a value it is T9 in a function
abbrev pub return_typed : Naming → Surroundings → (at : ℕ) → Option Expression → Result Form Fault
return_typed n s at None =
    if is_none s.value then Ok (typed.Return s.begins) else at_fault WrongReturn at
return_typed n s at (Some e) = do
  v ← value_of n e
  returned_value n.greatest (area_here n s) at (first_token e) s.begins s.value v

-- groups with a control variable

-- TO and BY take a number, else T4 at its first token
abbrev pub limit : Naming → Expression → Result TypedExpression Fault
limit n e = do
  v ← value_of n e
  or_fault WrongOperandType (first_token e) (as_number n.greatest v.expression v.kind)

-- TO and BY in the order in which they stand; what REPEAT says is looked at after the variable
abbrev pub limits : Naming → Option Range → Result TypedRange Fault
limits n (Some (tree.To to by)) = do
  x ← limit n to
  y ← if_written (limit n) by
  Ok (typed.ToBy x y)
limits n (Some (tree.By by to)) = do
  x ← limit n by
  y ← if_written (limit n) to
  Ok (typed.ByTo x y)
limits n other = Ok typed.Once

-- the variable has no subscripts
abbrev pub without_subscripts : TypedReference → Bool
without_subscripts (Whole root) = true
without_subscripts (Part root offset d NoSubscript) = true
without_subscripts reference = false

-- an arrow stands among these parts
abbrev pub has_arrow : JoinedParts → Bool
has_arrow Alone = false
has_arrow (Joined Member name arguments more) = has_arrow more
has_arrow (Joined Located name arguments more) = true

-- a locator stands in front of a name of the reference
abbrev pub has_locator : Reference → Bool
has_locator (Named name arguments more) = has_arrow more

-- the variable is a number where TO or BY stands
abbrev pub suits_range : ParameterType → TypedRange → Bool
suits_range type typed.Once = true
suits_range (Stated (FixedBinary p)) range = true
suits_range type range = false

-- T12 at the variable where it may not control a group
abbrev pub suited_control : (at : ℕ) → Referent → Bool → Result Referent Fault
suited_control at r true = Ok r
suited_control at r false = at_fault BadControlVariable at

-- the variable that controls a group: T1 where it is none, T12 where it may not, as after a locator, or as
-- an area
abbrev pub controls : (at : ℕ) → (is_located : Bool) → TypedRange → Denoted → Result Referent Fault
controls at is_located range (DenotesVariable r) =
    if without_subscripts r.reference && not is_located && not (is_area_type r.description)
    then suited_control at r (suits_range r.description range)
    else at_fault BadControlVariable at
controls at is_located range denoted = at_fault NotAVariable at

-- what REPEAT gives a variable of this type, whose declaration names this area if it is an OFFSET, where it
-- suits that
abbrev pub turned : (greatest : ℕ) → (area : Option Beginning) → TypedValue → ParameterType
    → Option TypedRange
turned greatest area v (Stated d) = option_map typed.Repeated (converted greatest area d v)
turned greatest area v (AnyString form) =
    option_map typed.RepeatedString (suited_to_form form v.expression v.kind)
turned greatest area v type = None

-- what REPEAT says: T5 at its expression where that does not suit the variable
abbrev pub next_value : Naming → (control : Referent) → Expression → Result TypedRange Fault
next_value n r e = do
  v ← value_of n e
  or_fault CannotAssign (first_token e) (turned n.greatest r.area v r.description)

-- and with REPEAT, if it stands
abbrev pub with_repeat : Naming → (control : Referent) → TypedRange → Option Range → Result TypedRange Fault
with_repeat n r range (Some (tree.Repeat next)) = next_value n r next
with_repeat n r range other = Ok range

-- `v = a ..`: the faults of a, of TO and BY, of v, T12, T5 at `=`, those of WHILE, those of REPEAT
abbrev pub iteration : Naming → (temporary : ℕ) → Reference → (equals : ℕ) → (first : Expression)
    → Option Range → (condition : Option Expression) → Result Iteration Fault
iteration n temporary variable equals first range tested = do
  v ← value_of n first
  kept ← limits n range
  d ← referred n AsLocator variable
  r ← controls (own_token variable) (has_locator variable) kept d
  convert ← or_fault CannotAssign equals (conversion_to n.greatest r.area r.description v.kind)
  x ← if_written (condition n) tested
  turns ← with_repeat n r kept range
  Ok (record {
    control = r.reference;
    conversion = convert;
    start = unconverted r.description v;
    range = turns;
    condition = x;
    temporary = temporary;
  })

-- statements

-- a part of a unit, with the procedures in it, in the order in which they end
pub record WithProcedures (A : Type 0) : Type 0 where
  pub part : A
  pub procedures : List TypedProcedure

-- a part without procedures in it
abbrev pub alone : {A : Type 0} → A → WithProcedures A
alone x = record { part = x; procedures = [] }

-- with the one fault that a statement has, as a list
abbrev pub of_own : {A : Type 0} → Result A Fault → Result (WithProcedures A) (List Fault)
of_own (Ok x) = Ok (alone x)
of_own (Err f) = Err (f ∷ [])

-- two parts together, or the faults of both
abbrev pub together : {A B C : Type 0} → (A → B → C) → Result (WithProcedures A) (List Fault)
    → Result (WithProcedures B) (List Fault) → Result (WithProcedures C) (List Fault)
together make (Ok x) (Ok y) =
    Ok (record { part = make x.part y.part; procedures = x.procedures ++ y.procedures })
together make (Ok x) (Err gs) = Err gs
together make (Err fs) (Ok y) = Err fs
together make (Err fs) (Err gs) = Err (fs ++ gs)

-- one part as it becomes another
abbrev pub made : {A B : Type 0} → (A → B) → Result (WithProcedures A) (List Fault)
    → Result (WithProcedures B) (List Fault)
made make (Ok x) = Ok (record { part = make x.part; procedures = x.procedures })
made make (Err fs) = Err fs

-- an IF's consequence and its ELSE
abbrev pub both_ways : Result (WithProcedures TypedStatement) (List Fault)
    → Result (WithProcedures OtherWise) (List Fault)
    → Result (WithProcedures (TypedStatement × OtherWise)) (List Fault)
both_ways consequence alternative = together (λ s otherwise. (s, otherwise)) consequence alternative

-- what an activation of a block begins with
abbrev pub head_of : NamedUnit → (number statement : ℕ) → Statements → BlockHead
head_of u number statement statements = record {
  number = number;
  statement = statement;
  variables = u.automatic number;
  temporaries = temporaries_among u.is_based statements;
}

-- the END of a function must not be reached
abbrev pub function_end : Option Description → (end : ℕ) → Option ℕ
function_end None end = None
function_end (Some d) end = Some end

-- a procedure with its typed statements
abbrev pub procedure_of : NamedUnit → (parent : Option ℕ) → (number statement end : ℕ) → Statements
    → TypedStatements → TypedProcedure
procedure_of u parent number statement end statements list = record {
  is_on_unit = false;
  head = head_of u number statement statements;
  parent = parent;
  parameters = length (u.parameters number);
  function_end = function_end (u.returned number) end;
  statements = list;
}

-- an ON-unit with its typed statement as a list
abbrev pub on_unit_of : NamedUnit → (parent : Option ℕ) → (number statement : ℕ) → (unit : Statement)
    → TypedStatements → TypedProcedure
on_unit_of u parent number statement unit list =
    record (procedure_of u parent number statement 0 (only unit) list) {
      is_on_unit = true;
      parameters = 0;
      function_end = None;
    }

-- a procedure or an ON-unit stands after those in it, and leaves this form in its place
abbrev pub as_procedure : Form → (TypedStatements → TypedProcedure)
    → Result (WithProcedures TypedStatements) (List Fault) → Result (WithProcedures Form) (List Fault)
as_procedure form make (Ok x) = Ok (record { part = form; procedures = x.procedures ++ make x.part ∷ [] })
as_procedure form make (Err fs) = Err fs

-- a statement before others, unless it leaves nothing
abbrev pub put_before : (nothing : Bool) → TypedStatement → TypedStatements → TypedStatements
put_before true first more = more
put_before false first more = StatementThen first more

-- a statement leaves nothing among the statements
abbrev pub says_nothing : Statement → Bool
says_nothing (Numbered number label at body) = leaves_nothing body

-- a statement before others, with the procedures and the faults of both
abbrev pub listed : Statement → Result (WithProcedures TypedStatement) (List Fault)
    → Result (WithProcedures TypedStatements) (List Fault)
    → Result (WithProcedures TypedStatements) (List Fault)
listed statement first more = together (put_before (says_nothing statement)) first more

-- inside the block that begins next
abbrev pub inside : Next → Next
inside x = record { block = suc x.block; temporary = 0 }

-- in a group with a control variable, whose own temporaries come first
abbrev pub after_limits : Option Range → Next → Next
after_limits range x = record { block = x.block; temporary = x.temporary + suc (limits_kept range) }

-- a statement, with the procedures in it
abbrev mutual
  pub statement_typed : NamedUnit → Surroundings → Next → Statement
      → Result (WithProcedures TypedStatement) (List Fault)
  statement_typed u s x (Numbered number label at body) =
      made (typed.Statement number) (body_typed u s x number at body)

  -- what a statement is, by its number and its first token
  pub body_typed : NamedUnit → Surroundings → Next → (number at : ℕ) → Body
      → Result (WithProcedures Form) (List Fault)
  body_typed u s x number at tree.Null = Ok (alone typed.Null)
  body_typed u s x number at (Assign target equals value) =
      of_own (assignment (naming_at u s) at target equals value)
  body_typed u s x number at (Declare declared) = Ok (alone typed.Null)
  body_typed u s x number at (tree.Procedure heading statements end) =
      as_procedure typed.Null
      (procedure_of u (Some (block_at s)) x.block number end statements)
      (statements_typed u (in_procedure x.block (u.returned x.block) statements s) (inside x) statements)
  body_typed u s x number at (tree.Begin statements end) =
      made (typed.Begin (head_of u x.block number statements))
      (statements_typed u (in_begin x.block statements s) (inside x) statements)
  body_typed u s x number at (tree.Do None statements end) =
      made typed.Group (statements_typed u (in_group statements s) x statements)
  body_typed u s x number at (tree.Do (Some (tree.While tested)) statements end) =
      together typed.While (of_own (condition (naming_at u s) tested))
      (statements_typed u (in_group statements s) x statements)
  body_typed u s x number at (tree.Do (Some (tree.Iterate variable equals first range tested)) statements
      end) =
      together typed.Iterate
      (of_own (iteration (naming_at u s) x.temporary variable equals first range tested))
      (statements_typed u (in_group statements s) (after_limits range x) statements)
  body_typed u s x number at (tree.If tested consequence alternative) =
      together (λ x both. typed.If x both.0 both.1) (of_own (condition (naming_at u s) tested))
      (both_ways (statement_typed u s x consequence)
      (alternative_typed u s (next_after u.is_based x consequence) alternative))
  body_typed u s x number at tree.Stop = Ok (alone typed.Stop)
  body_typed u s x number at (tree.Allocate list) =
      of_own (all_allocated (naming_at u s) x.temporary list >>= λ xs. Ok (typed.Allocate xs))
  body_typed u s x number at (tree.Free list) =
      of_own (in_turn (freed (naming_at u s)) list >>= λ xs. Ok (typed.Free xs))
  body_typed u s x number at (tree.Call name arguments) =
      of_own (call_typed (naming_at u s) name arguments)
  body_typed u s x number at (tree.Goto label) = of_own (goto_typed (naming_at u s) s label)
  body_typed u s x number at (tree.Return value) = of_own (return_typed (naming_at u s) s at value)
  body_typed u s x number at (tree.Put skip printed_items) =
      made (typed.Put skip) (of_own (in_turn (item (naming_at u s)) printed_items))
  body_typed u s x number at (tree.On c unit) =
      as_procedure (typed.On c x.block) (on_unit_of u (Some (block_at s)) x.block number unit)
      (listed unit (statement_typed u (in_on_unit x.block unit s) (inside x) unit) (Ok (alone NoStatement)))
  body_typed u s x number at (tree.Revert c) = Ok (alone (typed.Revert c))
  body_typed u s x number at (tree.Signal c) = Ok (alone (typed.Signal c))

  -- an ELSE
  pub alternative_typed : NamedUnit → Surroundings → Next → Alternative
      → Result (WithProcedures OtherWise) (List Fault)
  alternative_typed u s x tree.NoElse = Ok (alone NoElse)
  alternative_typed u s x (tree.Else statement) = made Else (statement_typed u s x statement)

  -- the statements of a list
  pub statements_typed : NamedUnit → Surroundings → Next → Statements
      → Result (WithProcedures TypedStatements) (List Fault)
  statements_typed u s x Ended = Ok (alone NoStatement)
  statements_typed u s x (Before first more) =
      listed first (statement_typed u s x first)
      (statements_typed u s (next_after u.is_based x first) more)
