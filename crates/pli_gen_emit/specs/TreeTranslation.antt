-- Translation: the code of each form of typed tree (own). A jump names the place of an instruction, counted
-- from 0 in its unit, so the code of a statement depends on the place at which it begins. A GOTO first names
-- its label's statement; where that begins is known when all code of the unit is.
use Rattle.std.specs.Prelude.{ℕ, suc, ◌+◌, nat_eq, Bool, true, false, Option, Some, None, List, [], ◌∷◌, ◌++◌}
use Rattle.std.specs.Prelude.{map, if◌then◌else◌}
use Rattle.pli_run.specs.declared.ending.RunError.TheVariants.{NoReturnedValue}
use Rattle.pli_program.specs.Program.{Instruction}
use Rattle.pli_program.specs.declared.instruction.Instruction.TheVariants.{Step, Line, Jump, JumpUnless}
use Rattle.pli_program.specs.declared.instruction.Instruction.TheVariants.{Local, Field, Subscript, Constant}
use Rattle.pli_program.specs.declared.instruction.Instruction.TheVariants.{Load, Store, Copy, MakeDummy}
use Rattle.pli_program.specs.declared.instruction.Instruction.TheVariants.{Operate, Skip, Raise, SubscriptIn}
use Rattle.pli_program.specs.declared.instruction.Instruction.TheVariants.{BoundOf, MakeStringDummy}
use Rattle.pli_program.specs.declared.instruction.Instruction.TheVariants.{FitToPlace}
use Rattle.pli_program.specs.Program.{Block, GlobalCode, UnitCode}
use Rattle.pli_program.specs.Program as programs
use Rattle.pli_program.specs.declared.instruction.Instruction.TheVariants as op
use Rattle.pli_program.specs.Templates.{dummy}
use Rattle.pli_operation.specs.declared.operation.Operation.TheVariants.{Add, Within}
use Rattle.pli_type_tree.specs.Iterations.{kept_by, limit_number, step_number, is_iterated}
use Rattle.pli_type_tree.specs.Templates.{variable_of}
use Rattle.pli_type_tree.specs.TypedTree.{Root, InSlot, OfProgram, NewestOf, Located, TypedExpression}
use Rattle.pli_type_tree.specs.TypedTree.{Literal, Held, Calculated, Called, Generations, Address, AsPointer}
use Rattle.pli_type_tree.specs.TypedTree.{AsOffset, Bounded, TypedReference, Whole, Part, ElementOf, Operands}
use Rattle.pli_type_tree.specs.TypedTree.{NoOperand}
use Rattle.pli_type_tree.specs.TypedTree.{OperandThen, Subscripts, NoSubscript, SubscriptThen, TypedArguments}
use Rattle.pli_type_tree.specs.TypedTree.{NoArgument, ByPlace, ByDummy, ByString, Conversion, ByOperations}
use Rattle.pli_type_tree.specs.TypedTree.{ToPlace, AssignString, RepeatedString}
use Rattle.pli_type_tree.specs.TypedTree.{AsPointerIn, AsOffsetIn, TypedStatement, Statement}
use Rattle.pli_type_tree.specs.TypedTree.{Form, Null, Assign, AssignAggregate, AssignArea, EmptyArea, Put, If}
use Rattle.pli_type_tree.specs.TypedTree.{Begin, Group, While, Iterate, TypedRange, Once, ToBy, ByTo}
use Rattle.pli_type_tree.specs.TypedTree.{Repeated, Iteration, Call, Goto, Return, ReturnValue, Stop, On}
use Rattle.pli_type_tree.specs.TypedTree.{Revert, Signal}
use Rattle.pli_type_tree.specs.TypedTree.{Allocate, Free, OtherWise, NoElse, Else}
use Rattle.pli_type_tree.specs.TypedTree.{AllocatedItem, AllocatesControlled, AllocatesBased, AllocatesInArea}
use Rattle.pli_type_tree.specs.TypedTree.{FreedItem, FreesControlled, FreesBased}
use Rattle.pli_type_tree.specs.TypedTree.{TypedStatements, NoStatement, StatementThen}
use Rattle.pli_type_tree.specs.TypedTree.{Callee, OfBlock, OfEntry, Global, OwnVariable, ExternalVariable}
use Rattle.pli_type_tree.specs.TypedTree.{EntryPoint, TypedUnit, TypedOperation}
use Rattle.pli_type_tree.specs.TypedTree as tree
pub use Rattle.pli_gen_emit.specs.BlockTrees.{BlockTree, argument_count, begin_block, procedure_block}
pub use Rattle.pli_gen_emit.specs.BlockTrees.{blocks_in, blocks_of_form, blocks_of_else, blocks_among}
pub use Rattle.pli_gen_emit.specs.BlockTrees.{blocks_of_procedure, has_number, by_number, blocks_of}

-- references and expressions

-- the instruction of a call
abbrev pub call_instruction : Callee → (arguments : ℕ) → Instruction
call_instruction (OfBlock block) arguments = op.Call block arguments
call_instruction (OfEntry number) arguments = op.CallExternal number arguments

-- an operation's
abbrev pub operation_code : TypedOperation → Instruction
operation_code (tree.Fit description) = op.Fit description
operation_code (tree.Operate operation) = Operate operation

abbrev mutual
  -- the value of an expression: a constant; a variable's place and what it holds; the operands and the
  -- operation; the arguments and the call; the count of generations; a variable's place and the pointer to
  -- it; a locator's value, the place of an area, and the conversion; an array's place and the bound
  pub value_code : TypedExpression → List Instruction
  value_code (Literal value) = Constant value ∷ []
  value_code (Held variable) = place_code variable ++ Load ∷ []
  value_code (Calculated operation operands) = operands_code operands ++ operation_code operation ∷ []
  value_code (Called callee arguments) =
      arguments_code arguments ++ call_instruction callee (argument_count arguments) ∷ []
  value_code (Generations number) = op.CountGenerations number ∷ []
  value_code (Address variable) = place_code variable ++ op.AddressOf ∷ []
  value_code (AsPointer area offset) = value_code offset ++ place_code area ++ op.ToPointer ∷ []
  value_code (AsOffset area pointer) = value_code pointer ++ place_code area ++ op.ToOffset ∷ []
  value_code (Bounded which dimension variable) = place_code variable ++ BoundOf which dimension ∷ []

  -- the place at which a reference begins; the global of a CONTROLLED variable is the place of its newest
  -- generation; a locator's value leads to that of a BASED one
  pub root_code : Root → List Instruction
  root_code (InSlot outward slot) = Local outward slot ∷ []
  root_code (OfProgram number) = op.Global number ∷ []
  root_code (NewestOf number) = op.Global number ∷ []
  root_code (Located locator description) = value_code locator ++ op.Based description ∷ []

  -- a place: the variable's; for a part of one its field, and then its subscripts; for an element of an array
  -- that has the bounds of an argument its subscripts alone
  pub place_code : TypedReference → List Instruction
  place_code (Whole root) = root_code root
  place_code (Part root offset description subscripts) =
      root_code root ++ Field offset description ∷ subscripts_code subscripts
  place_code (ElementOf root subscripts) = root_code root ++ dimensions_code 1 subscripts

  -- the values of operands, from left to right
  pub operands_code : Operands → List Instruction
  operands_code NoOperand = []
  operands_code (OperandThen first more) = value_code first ++ operands_code more

  -- the value of each subscript, and what it does to the place
  pub subscripts_code : Subscripts → List Instruction
  subscripts_code NoSubscript = []
  subscripts_code (SubscriptThen stride value more) =
      value_code value ++ Subscript stride.low stride.high stride.multiplier ∷ subscripts_code more

  -- the same by the dimensions from this one on
  pub dimensions_code : (dimension : ℕ) → Operands → List Instruction
  dimensions_code k NoOperand = []
  dimensions_code k (OperandThen value more) =
      value_code value ++ SubscriptIn k ∷ dimensions_code (suc k) more

  -- a place, or a value and its dummy argument
  pub arguments_code : TypedArguments → List Instruction
  arguments_code NoArgument = []
  arguments_code (ByPlace variable more) = place_code variable ++ arguments_code more
  arguments_code (ByDummy description value more) =
      value_code value ++ MakeDummy (dummy description) ∷ arguments_code more
  arguments_code (ByString form value more) =
      value_code value ++ MakeStringDummy form ∷ arguments_code more

-- the code of a call, with its arguments
abbrev pub call_code : Callee → TypedArguments → List Instruction
call_code callee arguments =
    arguments_code arguments ++ call_instruction callee (argument_count arguments) ∷ []

-- SKIP
abbrev pub skip_code : Bool → List Instruction
skip_code true = Skip ∷ []
skip_code false = []

-- items that are printed
abbrev pub items_code : List TypedExpression → List Instruction
items_code [] = []
items_code (e ∷ es) = value_code e ++ op.Put ∷ items_code es

-- one operation after the other
abbrev pub operations_code : List TypedOperation → List Instruction
operations_code [] = []
operations_code (operation ∷ more) = operation_code operation ∷ operations_code more

-- a value becomes that of a variable that gets it, whose place is below it: by operations, by the place of an
-- area, or by operations and the length of the string at the place
abbrev pub conversion_code : Conversion → List Instruction
conversion_code (ByOperations operations) = operations_code operations
conversion_code (AsPointerIn area) = place_code area ++ op.ToPointer ∷ []
conversion_code (AsOffsetIn area) = place_code area ++ op.ToOffset ∷ []
conversion_code (ToPlace operations) = operations_code operations ++ FitToPlace ∷ []

-- the place after code that begins at a place
abbrev pub place_after : List Instruction → ℕ → ℕ
place_after [] p = p
place_after (i ∷ is) p = place_after is (suc p)

-- an item of ALLOCATE; the pointer to a BASED variable's generation or block is kept till its target's place
-- is there. A block of an area is made after the area's place, and leads to where the item begins
abbrev pub allocation_code : AllocatedItem → (at : ℕ) → List Instruction
allocation_code (AllocatesControlled number) p = op.AllocateControlled number ∷ []
allocation_code (AllocatesBased template temporary target) p =
    op.AllocateBased template ∷ op.SetTemporary temporary
    ∷ place_code target ++ op.TakeTemporary temporary ∷ Store ∷ []
allocation_code (AllocatesInArea area template temporary target conversion) p =
    place_code area
    ++ (op.AllocateInArea template p ∷ op.SetTemporary temporary
    ∷ (place_code target ++ (op.TakeTemporary temporary ∷ (conversion_code conversion ++ Store ∷ []))))

-- its items, one after the other
abbrev pub allocations_code : List AllocatedItem → (at : ℕ) → List Instruction
allocations_code [] p = []
allocations_code (item ∷ items) p =
    let code = allocation_code item p in code ++ allocations_code items (place_after code p)

-- an item of FREE
abbrev pub freeing_code : FreedItem → List Instruction
freeing_code (FreesControlled number) = op.FreeControlled number ∷ []
freeing_code (FreesBased locator description) = value_code locator ++ op.FreeBased description ∷ []

-- its items, one after the other
abbrev pub freeings_code : List FreedItem → List Instruction
freeings_code [] = []
freeings_code (item ∷ items) = freeing_code item ++ freeings_code items

-- statements

-- a test, a jump past the part that is executed where it holds, and that part
abbrev pub one_way : (test : List Instruction) (part : ℕ → List Instruction) → ℕ → List Instruction
one_way test part p =
    let q = suc (place_after test p) in
    let code = part q in
    test ++ JumpUnless (place_after code q) ∷ code

-- and with an ELSE part after it, past which a jump leads
abbrev pub two_ways : (test : List Instruction) (part other : ℕ → List Instruction) → ℕ → List Instruction
two_ways test part other p =
    let q = suc (place_after test p) in
    let code = part q in
    let r = suc (place_after code q) in
    let otherwise = other r in
    test ++ JumpUnless r ∷ code ++ Jump (place_after otherwise r) ∷ otherwise

-- turns of a loop: its statement, the test, a jump out of it, a step, the list, and the jump back
abbrev pub turns_code : (number : ℕ) (test : List Instruction) (list : ℕ → List Instruction) → ℕ
    → List Instruction
turns_code number test list p =
    let q = suc (suc (place_after test (suc p))) in
    let code = list q in
    Line number ∷ test ++ JumpUnless (suc (place_after code q)) ∷ Step number ∷ code ++ Jump p ∷ []

-- iterations

-- values, each kept in the next temporary
abbrev pub keeps_code : (temporary : ℕ) → List TypedExpression → List Instruction
keeps_code temporary [] = []
keeps_code temporary (e ∷ es) = value_code e ++ op.SetTemporary temporary ∷ keeps_code (suc temporary) es

-- the control variable gets a value, converted to it
abbrev pub sets_code : Iteration → (value : List Instruction) → List Instruction
sets_code i value = place_code i.control ++ (value ++ (conversion_code i.conversion ++ Store ∷ []))

-- what is done before the first turn: the start, TO and BY are kept, and the variable gets the start
abbrev pub start_code : Iteration → List Instruction
start_code i =
    keeps_code i.temporary (i.start ∷ kept_by i.range) ++ sets_code i (op.TakeTemporary i.temporary ∷ [])

-- the variable is tested against the limit with the step, if there is a limit
abbrev pub test_against : Iteration → (limit : Option ℕ) → (step : ℕ) → Option (List Instruction)
test_against i None step = None
test_against i (Some limit) step =
    Some
    (place_code i.control
    ++ Load ∷ op.TakeTemporary (i.temporary + limit) ∷ op.TakeTemporary (i.temporary + step)
    ∷ Operate Within ∷ [])

-- the test against the limit of the range, if it has one
abbrev pub limit_test : Iteration → Option (List Instruction)
limit_test i = test_against i (limit_number i.range) (step_number i.range)

-- the test of WHILE, if it stands
abbrev pub while_test : Option TypedExpression → Option (List Instruction)
while_test None = None
while_test (Some e) = Some (value_code e)

-- a test, if there is one, and a jump to a place unless it holds
abbrev pub guarded : (test : Option (List Instruction)) → (target : ℕ) → List Instruction
guarded None target = []
guarded (Some test) target = test ++ JumpUnless target ∷ []

-- the tests before a turn: the limit, then WHILE
abbrev pub tests_code : Iteration → (target : ℕ) → List Instruction
tests_code i target = guarded (limit_test i) target ++ guarded (while_test i.condition) target

-- the control variable gets a step more
abbrev pub counted_code : Iteration → (step : ℕ) → List Instruction
counted_code i step =
    sets_code i
    (place_code i.control ++ Load ∷ op.TakeTemporary (i.temporary + step) ∷ Operate Add ∷ [])

-- what comes between two turns: the variable gets a step more, or the value of REPEAT, which is converted
abbrev pub advances_code : TypedRange → Iteration → List Instruction
advances_code Once i = []
advances_code (ToBy to by) i = counted_code i 2
advances_code (ByTo by to) i = counted_code i 1
advances_code (Repeated next) i = place_code i.control ++ (value_code next ++ Store ∷ [])
advances_code (RepeatedString next) i = place_code i.control ++ (value_code next ++ (FitToPlace ∷ Store ∷ []))

-- and the jump back to the tests; nothing of it where there is one turn
abbrev pub back_code : (iterated : Bool) (number : ℕ) (between : List Instruction) (turn : ℕ)
    → List Instruction
back_code true number between turn = Line number ∷ between ++ Jump turn ∷ []
back_code false number between turn = []

-- where the tests of an iteration stand
abbrev pub turn_place : Iteration → (at : ℕ) → ℕ
turn_place i p = place_after (start_code i) p

-- where the list of an iteration stands
abbrev pub list_place : Iteration → (at : ℕ) → ℕ
list_place i p = suc (place_after (tests_code i 0) (turn_place i p))

-- the start, the tests, a step, the list, what comes between two turns, and the jump back
abbrev pub iterate_code : (number : ℕ) → Iteration → (list : ℕ → List Instruction) → ℕ → List Instruction
iterate_code number i list p =
    let q = list_place i p in
    let code = list q in
    let back = back_code (is_iterated i.range) number (advances_code i.range i) (turn_place i p) in
    start_code i ++ tests_code i (place_after back (place_after code q)) ++ Step number ∷ (code ++ back)

abbrev mutual
  -- a statement begins with its step
  pub statement_code : TypedStatement → (at : ℕ) → List Instruction
  statement_code (Statement number form) p = Step number ∷ form_code number form (suc p)

  -- the code of a form, of the statement of a number, after its step
  pub form_code : (number : ℕ) → Form → (at : ℕ) → List Instruction
  form_code number Null p = []
  form_code number (Assign target value) p = place_code target ++ value_code value ++ Store ∷ []
  form_code number (AssignString target value) p =
      place_code target ++ value_code value ++ (FitToPlace ∷ Store ∷ [])
  form_code number (AssignAggregate target source) p = place_code target ++ place_code source ++ Copy ∷ []
  form_code number (AssignArea target source) p =
      place_code target ++ place_code source ++ op.AssignArea ∷ []
  form_code number (EmptyArea target) p = place_code target ++ op.EmptyArea ∷ []
  form_code number (Put skip items) p = skip_code skip ++ items_code items
  form_code number (If condition consequence alternative) p =
      if_code (value_code condition) (statement_code consequence) alternative p
  form_code number (Begin head statements) p = op.Begin head.number ∷ []
  form_code number (Group statements) p = list_code statements p
  form_code number (While condition statements) p =
      turns_code number (value_code condition) (list_code statements) p
  form_code number (Iterate iteration statements) p = iterate_code number iteration (list_code statements) p
  form_code number (Call callee arguments) p = call_code callee arguments
  form_code number (Goto outward label) p = op.Goto outward label ∷ []
  form_code number (Return outward) p = op.Return outward ∷ []
  form_code number (ReturnValue outward value) p = value_code value ++ op.ReturnValue outward ∷ []
  form_code number Stop p = op.Stop ∷ []
  form_code number (On condition block) p = op.On condition block ∷ []
  form_code number (Revert condition) p = op.Revert condition ∷ []
  form_code number (Signal condition) p = op.Signal condition ∷ []
  form_code number (Allocate items) p = allocations_code items p
  form_code number (Free items) p = freeings_code items

  -- the test of an IF and its parts
  pub if_code : (test : List Instruction) (part : ℕ → List Instruction) → OtherWise → (at : ℕ)
      → List Instruction
  if_code test part NoElse p = one_way test part p
  if_code test part (Else statement) p = two_ways test part (statement_code statement) p

  -- the code of statements, one after the other
  pub list_code : TypedStatements → (at : ℕ) → List Instruction
  list_code NoStatement p = []
  list_code (StatementThen first more) p =
      let code = statement_code first p in code ++ list_code more (place_after code p)

-- where statements begin: the number of each statement and its place, in the order of the code; those of a
-- BEGIN block stand where the block's code does

abbrev mutual
  -- the places of a statement and of those inside it
  pub places_in : TypedStatement → (at : ℕ) → List (ℕ × ℕ)
  places_in (Statement number form) p = (number, p) ∷ places_in_form form (suc p)

  -- the places of those inside a form
  pub places_in_form : Form → (at : ℕ) → List (ℕ × ℕ)
  places_in_form (If condition consequence alternative) p =
      let q = suc (place_after (value_code condition) p) in
      places_in consequence q
      ++ places_in_else alternative (suc (place_after (statement_code consequence q) q))
  places_in_form (Group statements) p = places_among statements p
  places_in_form (While condition statements) p =
      places_among statements (suc (suc (place_after (value_code condition) (suc p))))
  places_in_form (Iterate iteration statements) p = places_among statements (list_place iteration p)
  places_in_form form p = []

  -- the places of those in an ELSE
  pub places_in_else : OtherWise → (at : ℕ) → List (ℕ × ℕ)
  places_in_else NoElse p = []
  places_in_else (Else statement) p = places_in statement p

  -- the places of the statements of a list, and of those inside them
  pub places_among : TypedStatements → (at : ℕ) → List (ℕ × ℕ)
  places_among NoStatement p = []
  places_among (StatementThen first more) p =
      places_in first p ++ places_among more (place_after (statement_code first p) p)

-- the place of a statement
abbrev pub statement_place : List (ℕ × ℕ) → (number : ℕ) → ℕ
statement_place [] number = 0
statement_place ((s, p) ∷ more) number = if nat_eq s number then p else statement_place more number

-- blocks

-- what stands at a block's end: the return; that of a function must not be reached
abbrev pub end_code : (function_end : Option ℕ) → List Instruction
end_code None = op.Return 0 ∷ []
end_code (Some number) = Line number ∷ Raise NoReturnedValue ∷ []

-- the code of a block, with its end
abbrev pub block_code : BlockTree → (at : ℕ) → List Instruction
block_code b p = list_code b.statements p ++ end_code b.function_end

-- the code of blocks, one after the other
abbrev pub blocks_code : List BlockTree → (at : ℕ) → List Instruction
blocks_code [] p = []
blocks_code (b ∷ bs) p = let code = block_code b p in code ++ blocks_code bs (place_after code p)

-- the places of their statements
abbrev pub places_of : List BlockTree → (at : ℕ) → List (ℕ × ℕ)
places_of [] p = []
places_of (b ∷ bs) p = places_among b.statements p ++ places_of bs (place_after (block_code b p) p)

-- a block with its first instruction
abbrev pub block_at : BlockTree → (entry : ℕ) → Block
block_at b p = record {
  kind = b.kind;
  parent = b.parent;
  parameters = b.parameters;
  variables = map variable_of b.head.variables;
  temporaries = b.head.temporaries;
  entry = p;
  statement = b.head.statement;
}

-- blocks, each with its first instruction, their code standing one after the other
abbrev pub blocks_at : List BlockTree → (at : ℕ) → List Block
blocks_at [] p = []
blocks_at (b ∷ bs) p = block_at b p ∷ blocks_at bs (place_after (block_code b p) p)

-- units

-- a GOTO leads to the place where its label's statement begins
abbrev pub with_target : List (ℕ × ℕ) → Instruction → Instruction
with_target places (op.Goto outward label) = op.Goto outward (statement_place places label)
with_target places i = i

-- the instructions of a unit
abbrev pub instructions_of : List BlockTree → List Instruction
instructions_of bs = map (with_target (places_of bs 0)) (blocks_code bs 0)

-- the globals of a unit; each external one takes the next link: the number of an external variable in the
-- program, or that of an entry's unit
abbrev pub globals_code : List Global → (links : List ℕ) → List GlobalCode
globals_code [] links = []
globals_code (OwnVariable kind t ∷ gs) links =
    programs.OwnVariable kind (variable_of t) ∷ globals_code gs links
globals_code (ExternalVariable name kind t ∷ gs) [] = globals_code gs []
globals_code (ExternalVariable name kind t ∷ gs) (link ∷ links) =
    programs.ExternalVariable link kind (variable_of t) ∷ globals_code gs links
globals_code (EntryPoint name signature ∷ gs) [] = globals_code gs []
globals_code (EntryPoint name signature ∷ gs) (link ∷ links) =
    programs.EntryPoint link ∷ globals_code gs links

-- the code of a unit with the links of its globals
abbrev pub unit_code : TypedUnit → (links : List ℕ) → UnitCode
unit_code u links =
    let bs = blocks_of u in
    record {
      name = u.name;
      globals = globals_code u.globals links;
      blocks = blocks_at bs 0;
      instructions = map Some (instructions_of bs);
    }
