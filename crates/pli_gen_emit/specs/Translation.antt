-- Translation: the code of each form of typed tree (own), as items: an instruction that leads somewhere says
-- how many instructions it passes, or the statement to whose label it leads.
use Rattle.std.specs.Prelude.{ℕ, suc, ◌+◌, Bool, true, false, Option, Some, None, option_map}
use Rattle.std.specs.Prelude.{List, [], ◌∷◌, ◌++◌, map, if◌then◌else◌}
use Rattle.std.specs.List.{flat_map}
use Rattle.pli_run.specs.declared.ending.RunError.TheVariants.{NoReturnedValue}
use Rattle.pli_operation.specs.declared.operation.Operation.TheVariants.{Add, Within}
use Rattle.pli_type_tree.specs.Iterations.{kept_by, limit_number, step_number, is_iterated}
use Rattle.pli_type_tree.specs.TypedTree.{Root, InSlot, OfProgram, NewestOf, Located, TypedExpression}
use Rattle.pli_type_tree.specs.TypedTree.{Literal, Held, Calculated, Called, Generations, Address, AsPointer}
use Rattle.pli_type_tree.specs.TypedTree.{AsOffset, Bounded, TypedReference, Whole, Part, ElementOf, Operands}
use Rattle.pli_type_tree.specs.TypedTree.{NoOperand}
use Rattle.pli_type_tree.specs.TypedTree.{OperandThen, Subscripts, NoSubscript, SubscriptThen, TypedArguments}
use Rattle.pli_type_tree.specs.TypedTree.{NoArgument, ByPlace, ByDummy, ByString, Conversion, ByOperations}
use Rattle.pli_type_tree.specs.TypedTree.{ToPlace, AssignString, RepeatedString}
use Rattle.pli_type_tree.specs.TypedTree.{AsPointerIn, AsOffsetIn, TypedStatement, Statement}
use Rattle.pli_type_tree.specs.TypedTree.{Form, Null, Assign, AssignAggregate, AssignArea, EmptyArea, Put, If}
use Rattle.pli_type_tree.specs.TypedTree.{Begin, Group, While, Iterate, TypedRange, Once, ToBy, ByTo}
use Rattle.pli_type_tree.specs.TypedTree.{Repeated, Iteration, Call, Goto, Return, ReturnValue, Stop, On}
use Rattle.pli_type_tree.specs.TypedTree.{Revert, Signal}
use Rattle.pli_type_tree.specs.TypedTree.{Allocate, Free, OtherWise, NoElse, Else}
use Rattle.pli_type_tree.specs.TypedTree.{AllocatedItem, AllocatesControlled, AllocatesBased, AllocatesInArea}
use Rattle.pli_type_tree.specs.TypedTree.{FreedItem, FreesControlled, FreesBased}
use Rattle.pli_type_tree.specs.TypedTree.{TypedStatements, NoStatement, StatementThen}
use Rattle.pli_type_tree.specs.TypedTree.{Callee, OfBlock, OfEntry, TypedOperation}
use Rattle.pli_type_tree.specs.TypedTree as tree
use Rattle.pli_program.specs.Templates.{dummy}
use Rattle.pli_program.specs.declared.instruction.Instruction.TheVariants as op
use Rattle.pli_gen_emit.specs.BlockTrees.{BlockTree, argument_count}
use Rattle.pli_gen_emit.specs.Items.{Item, Label, Make, OfDescription, OfTemplate, OfValue, Ahead, Back}
use Rattle.pli_gen_emit.specs.Items.{Labelled, plain, naming, leading, size}

-- the instruction of a call
abbrev pub call_item : Callee → (arguments : ℕ) → Item
call_item (OfBlock block) arguments = plain (op.Call block arguments)
call_item (OfEntry number) arguments = plain (op.CallExternal number arguments)

-- an operation's
abbrev pub operation_code : TypedOperation → Item
operation_code (tree.Fit description) = naming (OfDescription description) op.Fit
operation_code (tree.Operate operation) = plain (op.Operate operation)

abbrev mutual
  -- the value of an expression: a constant; a variable's place and what it holds; the operands and the
  -- operation; the arguments and the call; the count of generations; a variable's place and the pointer to
  -- it; a locator's value, the place of an area, and the conversion; an array's place and the bound
  pub value_code : TypedExpression → List Item
  value_code (Literal value) = naming (OfValue value) op.Constant ∷ []
  value_code (Held variable) = place_code variable ++ plain op.Load ∷ []
  value_code (Calculated operation operands) = operands_code operands ++ operation_code operation ∷ []
  value_code (Called callee arguments) =
      arguments_code arguments ++ call_item callee (argument_count arguments) ∷ []
  value_code (Generations number) = plain (op.CountGenerations number) ∷ []
  value_code (Address variable) = place_code variable ++ plain op.AddressOf ∷ []
  value_code (AsPointer area offset) = value_code offset ++ place_code area ++ plain op.ToPointer ∷ []
  value_code (AsOffset area pointer) = value_code pointer ++ place_code area ++ plain op.ToOffset ∷ []
  value_code (Bounded which dimension variable) =
      place_code variable ++ plain (op.BoundOf which dimension) ∷ []

  -- the place at which a reference begins; the global of a CONTROLLED variable is the place of its newest
  -- generation; a locator's value leads to that of a BASED one
  pub root_code : Root → List Item
  root_code (InSlot outward slot) = plain (op.Local outward slot) ∷ []
  root_code (OfProgram number) = plain (op.Global number) ∷ []
  root_code (NewestOf number) = plain (op.Global number) ∷ []
  root_code (Located locator description) =
      value_code locator ++ naming (OfDescription description) op.Based ∷ []

  -- a place: the variable's; for a part of one its field, and then its subscripts; for an element of an array
  -- that has the bounds of an argument its subscripts alone
  pub place_code : TypedReference → List Item
  place_code (Whole root) = root_code root
  place_code (Part root offset description subscripts) =
      root_code root ++ naming (OfDescription description) (op.Field offset) ∷ subscripts_code subscripts
  place_code (ElementOf root subscripts) = root_code root ++ dimensions_code 1 subscripts

  -- the values of operands, from left to right
  pub operands_code : Operands → List Item
  operands_code NoOperand = []
  operands_code (OperandThen first more) = value_code first ++ operands_code more

  -- the value of each subscript, and what it does to the place
  pub subscripts_code : Subscripts → List Item
  subscripts_code NoSubscript = []
  subscripts_code (SubscriptThen stride value more) =
      value_code value ++ plain (op.Subscript stride.low stride.high stride.multiplier)
      ∷ subscripts_code more

  -- the same by the dimensions from this one on
  pub dimensions_code : (dimension : ℕ) → Operands → List Item
  dimensions_code k NoOperand = []
  dimensions_code k (OperandThen value more) =
      value_code value ++ plain (op.SubscriptIn k) ∷ dimensions_code (suc k) more

  -- a place, or a value and its dummy argument
  pub arguments_code : TypedArguments → List Item
  arguments_code NoArgument = []
  arguments_code (ByPlace variable more) = place_code variable ++ arguments_code more
  arguments_code (ByDummy description value more) =
      value_code value ++ naming (OfTemplate (dummy description)) op.MakeDummy ∷ arguments_code more
  arguments_code (ByString form value more) =
      value_code value ++ plain (op.MakeStringDummy form) ∷ arguments_code more

-- a value becomes that of a variable that gets it, whose place is below it: by operations, by the place of an
-- area, or by operations and the length of the string at the place
abbrev pub conversion_code : Conversion → List Item
conversion_code (ByOperations operations) = map operation_code operations
conversion_code (AsPointerIn area) = place_code area ++ plain op.ToPointer ∷ []
conversion_code (AsOffsetIn area) = place_code area ++ plain op.ToOffset ∷ []
conversion_code (ToPlace operations) = map operation_code operations ++ plain op.FitToPlace ∷ []

-- an item of ALLOCATE; the pointer to a BASED variable's generation or block is kept till its target's place
-- is there. A block of an area is made after the area's place, and leads to where the item begins
abbrev pub allocation_code : AllocatedItem → List Item
allocation_code (AllocatesControlled number) = plain (op.AllocateControlled number) ∷ []
allocation_code (AllocatesBased template temporary target) =
    naming (OfTemplate template) op.AllocateBased ∷ plain (op.SetTemporary temporary)
    ∷ place_code target ++ plain (op.TakeTemporary temporary) ∷ plain op.Store ∷ []
allocation_code (AllocatesInArea area template temporary target conversion) =
    let before = place_code area in
    before
    ++ (Make (OfTemplate template) (Back (size before)) op.AllocateInArea
    ∷ plain (op.SetTemporary temporary)
    ∷ (place_code target
    ++ (plain (op.TakeTemporary temporary) ∷ (conversion_code conversion ++ plain op.Store ∷ []))))

-- an item of FREE
abbrev pub freeing_code : FreedItem → List Item
freeing_code (FreesControlled number) = plain (op.FreeControlled number) ∷ []
freeing_code (FreesBased locator description) =
    value_code locator ++ naming (OfDescription description) op.FreeBased ∷ []

-- turns of a loop: its statement, the test, a jump out of it, a step, the list, and the jump back
abbrev pub turns_code : (number : ℕ) (test list : List Item) → List Item
turns_code number test list =
    let turn =
    plain (op.Line number) ∷ test ++ leading (Ahead (suc (suc (size list)))) op.JumpUnless
    ∷ plain (op.Step number) ∷ list in
    turn ++ leading (Back (size turn)) op.Jump ∷ []

-- values, each kept in the next temporary
abbrev pub keeps_code : (temporary : ℕ) → List TypedExpression → List Item
keeps_code temporary [] = []
keeps_code temporary (e ∷ es) =
    value_code e ++ plain (op.SetTemporary temporary) ∷ keeps_code (suc temporary) es

-- the control variable gets a value, converted to it
abbrev pub sets_code : Iteration → (value : List Item) → List Item
sets_code i value =
    place_code i.control ++ (value ++ (conversion_code i.conversion ++ plain op.Store ∷ []))

-- what is done before the first turn: the start, TO and BY are kept, and the variable gets the start
abbrev pub start_code : Iteration → List Item
start_code i =
    keeps_code i.temporary (i.start ∷ kept_by i.range)
    ++ sets_code i (plain (op.TakeTemporary i.temporary) ∷ [])

-- the variable is tested against the limit with the step, if there is a limit
abbrev pub test_against : Iteration → (limit : Option ℕ) → (step : ℕ) → Option (List Item)
test_against i None step = None
test_against i (Some limit) step =
    Some
    (place_code i.control
    ++ plain op.Load ∷ plain (op.TakeTemporary (i.temporary + limit))
    ∷ plain (op.TakeTemporary (i.temporary + step)) ∷ plain (op.Operate Within) ∷ [])

-- a test, if there is one, and a jump past so many instructions unless it holds
abbrev pub guarded : (test : Option (List Item)) → (passed : ℕ) → List Item
guarded None passed = []
guarded (Some test) passed = test ++ leading (Ahead passed) op.JumpUnless ∷ []

-- the tests before a turn, past which so many instructions are: the limit of the range, then WHILE
abbrev pub tests_code : Iteration → (passed : ℕ) → List Item
tests_code i passed =
    let condition = guarded (option_map value_code i.condition) passed in
    guarded (test_against i (limit_number i.range) (step_number i.range)) (size condition + passed)
    ++ condition

-- the control variable gets a step more
abbrev pub counted_code : Iteration → (step : ℕ) → List Item
counted_code i step =
    sets_code i
    (place_code i.control
    ++ plain op.Load ∷ plain (op.TakeTemporary (i.temporary + step)) ∷ plain (op.Operate Add) ∷ [])

-- what comes between two turns: the variable gets a step more, or the value of REPEAT, which is converted
abbrev pub advances_code : TypedRange → Iteration → List Item
advances_code Once i = []
advances_code (ToBy to by) i = counted_code i 2
advances_code (ByTo by to) i = counted_code i 1
advances_code (Repeated next) i = place_code i.control ++ (value_code next ++ plain op.Store ∷ [])
advances_code (RepeatedString next) i =
    place_code i.control ++ (value_code next ++ (plain op.FitToPlace ∷ plain op.Store ∷ []))

-- and the jump back over so many instructions more, to the tests; nothing of it where there is one turn
abbrev pub back_code : (iterated : Bool) (number : ℕ) (between : List Item) (passed : ℕ) → List Item
back_code true number between passed =
    plain (op.Line number) ∷ between ++ leading (Back (suc (passed + size between))) op.Jump ∷ []
back_code false number between passed = []

-- the start, the tests, a step, the list, what comes between two turns, and the jump back
abbrev pub iterate_code : (number : ℕ) → Iteration → (list : List Item) → List Item
iterate_code number i list =
    let back = back_code (is_iterated i.range) number (advances_code i.range i) in
    let turn = tests_code i (suc (size list + size (back 0))) ++ plain (op.Step number) ∷ list in
    start_code i ++ turn ++ back (size turn)

abbrev mutual
  -- a statement begins with its label and its step
  pub statement_code : TypedStatement → List Item
  statement_code (Statement number form) = Label number ∷ plain (op.Step number) ∷ form_code number form

  -- the code of a form, of the statement of a number, after its step
  pub form_code : (number : ℕ) → Form → List Item
  form_code number Null = []
  form_code number (Assign target value) = place_code target ++ value_code value ++ plain op.Store ∷ []
  form_code number (AssignString target value) =
      place_code target ++ value_code value ++ (plain op.FitToPlace ∷ plain op.Store ∷ [])
  form_code number (AssignAggregate target source) =
      place_code target ++ place_code source ++ plain op.Copy ∷ []
  form_code number (AssignArea target source) =
      place_code target ++ place_code source ++ plain op.AssignArea ∷ []
  form_code number (EmptyArea target) = place_code target ++ plain op.EmptyArea ∷ []
  form_code number (Put skip items) =
      (if skip then plain op.Skip ∷ [] else [])
      ++ flat_map (λ e. value_code e ++ plain op.Put ∷ []) items
  form_code number (If condition consequence alternative) =
      if_code (value_code condition) (statement_code consequence) alternative
  form_code number (Begin head statements) = plain (op.Begin head.number) ∷ []
  form_code number (Group statements) = list_code statements
  form_code number (While condition statements) =
      turns_code number (value_code condition) (list_code statements)
  form_code number (Iterate iteration statements) = iterate_code number iteration (list_code statements)
  form_code number (Call callee arguments) = value_code (Called callee arguments)
  form_code number (Goto outward label) = leading (Labelled label) (op.Goto outward) ∷ []
  form_code number (Return outward) = plain (op.Return outward) ∷ []
  form_code number (ReturnValue outward value) = value_code value ++ plain (op.ReturnValue outward) ∷ []
  form_code number Stop = plain op.Stop ∷ []
  form_code number (On condition block) = plain (op.On condition block) ∷ []
  form_code number (Revert condition) = plain (op.Revert condition) ∷ []
  form_code number (Signal condition) = plain (op.Signal condition) ∷ []
  form_code number (Allocate items) = flat_map allocation_code items
  form_code number (Free items) = flat_map freeing_code items

  -- the test of an IF, a jump past the part that is executed where it holds, and that part; and an ELSE part
  -- after it, past which a jump leads
  pub if_code : (test part : List Item) → OtherWise → List Item
  if_code test part NoElse = test ++ leading (Ahead (size part)) op.JumpUnless ∷ part
  if_code test part (Else statement) =
      let other = statement_code statement in
      test ++ leading (Ahead (suc (size part))) op.JumpUnless
      ∷ part ++ leading (Ahead (size other)) op.Jump ∷ other

  -- the code of statements, one after the other
  pub list_code : TypedStatements → List Item
  list_code NoStatement = []
  list_code (StatementThen first more) = statement_code first ++ list_code more

-- what stands at a block's end: the return; that of a function must not be reached
abbrev pub end_code : (function_end : Option ℕ) → List Item
end_code None = plain (op.Return 0) ∷ []
end_code (Some number) = plain (op.Line number) ∷ plain (op.Raise NoReturnedValue) ∷ []

-- the code of a block, with its end
abbrev pub block_code : BlockTree → List Item
block_code b = list_code b.statements ++ end_code b.function_end
