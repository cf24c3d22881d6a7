-- What a typed tree says, apart from where it lies in memory.
use Rattle.std.specs.Prelude.{List, [], ◌∷◌, option_map, map}
use Rattle.pli_map.specs.views.DescriptionView.{description_view}
use Rattle.pli_value.specs.Value.{value_view}
use Rattle.pli_type_tree.specs.TypedTree as plain
use Rattle.pli_type_tree.specs.views.TemplateView.{groups_view, template_view}
use Rattle.pli_type_tree.specs.views.GlobalView.{signature_view, globals_view}
use Rattle.pli_type_tree.specs.declared.conversion.Conversion.{Conversion}
use Rattle.pli_type_tree.specs.declared.conversion.Conversion.TheVariants as conversions
use Rattle.pli_type_tree.specs.declared.expression.Callee.{Callee}
use Rattle.pli_type_tree.specs.declared.expression.Callee.TheVariants as callees
use Rattle.pli_type_tree.specs.declared.expression.Root.{Root, InSlot, OfProgram, NewestOf, Located'}
use Rattle.pli_type_tree.specs.declared.expression.Stride.{Stride}
use Rattle.pli_type_tree.specs.declared.expression.TypedExpression.{TypedExpression, Literal, Held}
use Rattle.pli_type_tree.specs.declared.expression.TypedExpression.{Generations, Address}
use Rattle.pli_type_tree.specs.declared.expression.TypedExpression.{Calculated', Called'}
use Rattle.pli_type_tree.specs.declared.expression.TypedExpression.{AsPointer', AsOffset', Bounded}
use Rattle.pli_type_tree.specs.declared.expression.Root.TheBlock.{Row_of-TypedExpression}
use Rattle.pli_type_tree.specs.declared.expression.Root.TheBlock.{end_of-TypedExpression}
use Rattle.pli_type_tree.specs.declared.expression.Root.TheBlock.{more_of-TypedExpression}
use Rattle.pli_type_tree.specs.declared.expression.Root.TheBlock.{Row_of-TypedSubscript}
use Rattle.pli_type_tree.specs.declared.expression.Root.TheBlock.{end_of-TypedSubscript}
use Rattle.pli_type_tree.specs.declared.expression.Root.TheBlock.{more_of-TypedSubscript}
use Rattle.pli_type_tree.specs.declared.expression.Root.TheBlock.{Row_of-TypedArgument}
use Rattle.pli_type_tree.specs.declared.expression.Root.TheBlock.{end_of-TypedArgument}
use Rattle.pli_type_tree.specs.declared.expression.Root.TheBlock.{more_of-TypedArgument}
use Rattle.pli_type_tree.specs.declared.expression.TypedOperation.{TypedOperation}
use Rattle.pli_type_tree.specs.declared.expression.TypedOperation.TheVariants as operations
use Rattle.pli_type_tree.specs.declared.expression.TypedSubscript.{TypedSubscript}
use Rattle.pli_type_tree.specs.declared.expression.TypedReference.{TypedReference, Whole, Part', ElementOf'}
use Rattle.pli_type_tree.specs.declared.expression.TypedArgument.{TypedArgument, ByPlace, ByDummy, ByString}
use Rattle.pli_type_tree.specs.declared.iteration.Iteration.{Iteration}
use Rattle.pli_type_tree.specs.declared.iteration.TypedRange.{TypedRange}
use Rattle.pli_type_tree.specs.declared.iteration.TypedRange.TheVariants as ranges
use Rattle.pli_type_tree.specs.declared.statement.AllocatedItem.{AllocatedItem}
use Rattle.pli_type_tree.specs.declared.statement.AllocatedItem.TheVariants as allocated
use Rattle.pli_type_tree.specs.declared.statement.BlockHead.{BlockHead}
use Rattle.pli_type_tree.specs.declared.statement.FreedItem.{FreedItem}
use Rattle.pli_type_tree.specs.declared.statement.FreedItem.TheVariants as freed
use Rattle.pli_type_tree.specs.declared.statement.TypedStatement.{TypedStatement}
use Rattle.pli_type_tree.specs.declared.statement.Form.{Form, Null, Assign, AssignAggregate, AssignArea}
use Rattle.pli_type_tree.specs.declared.statement.Form.{EmptyArea, Put, If', Begin'}
use Rattle.pli_type_tree.specs.declared.statement.Form.{Group', While', Iterate', Call, Goto, Return}
use Rattle.pli_type_tree.specs.declared.statement.Form.{ReturnValue, Stop, On, Revert, Signal, Allocate}
use Rattle.pli_type_tree.specs.declared.statement.Form.{Free, AssignString}
use Rattle.pli_type_tree.specs.declared.statement.Form.{Held-Form-If-2, None', Some', Row_of-TypedStatement}
use Rattle.pli_type_tree.specs.declared.statement.Form.{end_of-TypedStatement, more_of-TypedStatement}
use Rattle.pli_type_tree.specs.declared.unit.TypedProcedure.{TypedProcedure}
use Rattle.pli_type_tree.specs.declared.unit.TypedUnit.{TypedUnit}

-- what is called
abbrev pub callee_view : Callee → plain.Callee
callee_view (callees.OfBlock block) = plain.OfBlock block
callee_view (callees.OfEntry number) = plain.OfEntry number

-- an operation
abbrev pub operation_view : TypedOperation → plain.TypedOperation
operation_view (operations.Fit description) = plain.Fit (description_view description)
operation_view (operations.Operate operation) = plain.Operate operation

-- the stride of a subscript
abbrev pub stride_view : Stride → plain.Stride
stride_view s = record { low = s.low; high = s.high; multiplier = s.multiplier }

abbrev mutual
  -- an expression
  pub expression_view : TypedExpression → plain.TypedExpression
  expression_view (Literal value) = plain.Literal (value_view value)
  expression_view (Held variable) = plain.Held (reference_view variable)
  expression_view (Calculated' operation shape operands) =
      plain.Calculated (operation_view operation) (operand_row operands)
  expression_view (Called' callee shape arguments) =
      plain.Called (callee_view callee) (argument_row arguments)
  expression_view (Generations number) = plain.Generations number
  expression_view (Address variable) = plain.Address (reference_view variable)
  expression_view (AsPointer' area p offset) =
      plain.AsPointer (reference_view area) (expression_view offset)
  expression_view (AsOffset' area p pointer) =
      plain.AsOffset (reference_view area) (expression_view pointer)
  expression_view (Bounded which dimension variable) =
      plain.Bounded which dimension (reference_view variable)

  -- where a reference begins
  pub root_view : Root → plain.Root
  root_view (InSlot outward slot) = plain.InSlot outward slot
  root_view (OfProgram number) = plain.OfProgram number
  root_view (NewestOf number) = plain.NewestOf number
  root_view (Located' p locator description) =
      plain.Located (expression_view locator) (description_view description)

  -- a reference
  pub reference_view : TypedReference → plain.TypedReference
  reference_view (Whole root) = plain.Whole (root_view root)
  reference_view (Part' root offset description shape subscripts) =
      plain.Part (root_view root) offset (description_view description) (subscript_row subscripts)
  reference_view (ElementOf' root shape subscripts) =
      plain.ElementOf (root_view root) (operand_row subscripts)

  -- operands as they lie in a list
  pub operand_row : {m : _} → Row_of-TypedExpression m → plain.Operands
  operand_row end_of-TypedExpression = plain.NoOperand
  operand_row (more_of-TypedExpression e more) = plain.OperandThen (expression_view e) (operand_row more)

  -- subscripts as they lie in a list
  pub subscript_row : {m : _} → Row_of-TypedSubscript m → plain.Subscripts
  subscript_row end_of-TypedSubscript = plain.NoSubscript
  subscript_row (more_of-TypedSubscript stride value more) =
      plain.SubscriptThen (stride_view stride) (expression_view value) (subscript_row more)

  -- arguments as they lie in a list
  pub argument_row : {m : _} → Row_of-TypedArgument m → plain.TypedArguments
  argument_row end_of-TypedArgument = plain.NoArgument
  argument_row (more_of-TypedArgument a more) = argument_before a (argument_row more)

  -- an argument before others
  pub argument_before : TypedArgument → plain.TypedArguments → plain.TypedArguments
  argument_before (ByPlace variable) more = plain.ByPlace (reference_view variable) more
  argument_before (ByDummy description value) more =
      plain.ByDummy (description_view description) (expression_view value) more
  argument_before (ByString form value) more = plain.ByString form (expression_view value) more

-- lists as they stand in vectors
abbrev pub operands_view : List TypedExpression → plain.Operands
operands_view [] = plain.NoOperand
operands_view (e ∷ es) = plain.OperandThen (expression_view e) (operands_view es)

-- a list of subscripts
abbrev pub subscripts_view : List TypedSubscript → plain.Subscripts
subscripts_view [] = plain.NoSubscript
subscripts_view (s ∷ ss) =
    plain.SubscriptThen (stride_view s.stride) (expression_view s.value) (subscripts_view ss)

-- a list of arguments
abbrev pub arguments_view : List TypedArgument → plain.TypedArguments
arguments_view [] = plain.NoArgument
arguments_view (a ∷ more) = argument_before a (arguments_view more)

-- what an activation of a block begins with
abbrev pub head_view : BlockHead → plain.BlockHead
head_view h =
    record {
      number = h.number;
      statement = h.statement;
      variables = groups_view h.variables.items;
      temporaries = h.temporaries;
    }

-- what converts a value
abbrev pub conversion_view : Conversion → plain.Conversion
conversion_view (conversions.ByOperations list) =
    plain.ByOperations (map operation_view list.items)
conversion_view (conversions.AsPointerIn area) = plain.AsPointerIn (reference_view area)
conversion_view (conversions.AsOffsetIn area) = plain.AsOffsetIn (reference_view area)
conversion_view (conversions.ToPlace list) = plain.ToPlace (map operation_view list.items)

-- TO and BY, or REPEAT
abbrev pub range_view : TypedRange → plain.TypedRange
range_view ranges.Once = plain.Once
range_view (ranges.ToBy to by) = plain.ToBy (expression_view to) (option_map expression_view by)
range_view (ranges.ByTo by to) = plain.ByTo (expression_view by) (option_map expression_view to)
range_view (ranges.Repeated next) = plain.Repeated (expression_view next)
range_view (ranges.RepeatedString next) = plain.RepeatedString (expression_view next)

-- what controls an iteration
abbrev pub iteration_view : Iteration → plain.Iteration
iteration_view i =
    record {
      control = reference_view i.control;
      conversion = conversion_view i.conversion;
      start = expression_view i.start;
      range = range_view i.range;
      condition = option_map expression_view i.condition;
      temporary = i.temporary;
    }

-- an item of ALLOCATE
abbrev pub allocated_view : AllocatedItem → plain.AllocatedItem
allocated_view (allocated.Controlled number) = plain.AllocatesControlled number
allocated_view (allocated.Based template temporary target) =
    plain.AllocatesBased (template_view template) temporary (reference_view target)
allocated_view (allocated.InArea area template temporary target conversion) =
    plain.AllocatesInArea (reference_view area) (template_view template) temporary (reference_view target)
    (conversion_view conversion)

-- an item of FREE
abbrev pub freed_view : FreedItem → plain.FreedItem
freed_view (freed.Controlled number) = plain.FreesControlled number
freed_view (freed.Based locator description) =
    plain.FreesBased (expression_view locator) (description_view description)

abbrev mutual
  -- what a statement is, apart from its number
  pub form_view : Form → plain.Form
  form_view Null = plain.Null
  form_view (Assign target value) = plain.Assign (reference_view target) (expression_view value)
  form_view (AssignString target value) =
      plain.AssignString (reference_view target) (expression_view value)
  form_view (AssignAggregate target source) =
      plain.AssignAggregate (reference_view target) (reference_view source)
  form_view (AssignArea target source) = plain.AssignArea (reference_view target) (reference_view source)
  form_view (EmptyArea target) = plain.EmptyArea (reference_view target)
  form_view (Put skip items) = plain.Put skip (map expression_view items.items)
  form_view (Allocate items) = plain.Allocate (map allocated_view items.items)
  form_view (Free items) = plain.Free (map freed_view items.items)
  form_view (If' condition p number form alternative) =
      plain.If (expression_view condition) (plain.Statement number (form_view form)) (else_view alternative)
  form_view (Begin' head shape statements) = plain.Begin (head_view head) (statement_row statements)
  form_view (Group' shape statements) = plain.Group (statement_row statements)
  form_view (While' condition shape statements) =
      plain.While (expression_view condition) (statement_row statements)
  form_view (Iterate' iteration shape statements) =
      plain.Iterate (iteration_view iteration.value) (statement_row statements)
  form_view (Call callee arguments) = plain.Call (callee_view callee) (arguments_view arguments.items)
  form_view (Goto outward label) = plain.Goto outward label
  form_view (Return outward) = plain.Return outward
  form_view (ReturnValue outward value) = plain.ReturnValue outward (expression_view value)
  form_view Stop = plain.Stop
  form_view (On condition block) = plain.On condition block
  form_view (Revert condition) = plain.Revert condition
  form_view (Signal condition) = plain.Signal condition

  -- the ELSE of an IF, if it has one
  pub else_view : Held-Form-If-2 → plain.OtherWise
  else_view None' = plain.NoElse
  else_view (Some' p number form) = plain.Else (plain.Statement number (form_view form))

  -- statements as they lie in a list
  pub statement_row : {m : _} → Row_of-TypedStatement m → plain.TypedStatements
  statement_row end_of-TypedStatement = plain.NoStatement
  statement_row (more_of-TypedStatement number form more) =
      plain.StatementThen (plain.Statement number (form_view form)) (statement_row more)

-- a statement
abbrev pub statement_view : TypedStatement → plain.TypedStatement
statement_view s = plain.Statement s.number (form_view s.form)

-- a list of statements
abbrev pub statements_view : List TypedStatement → plain.TypedStatements
statements_view [] = plain.NoStatement
statements_view (s ∷ ss) = plain.StatementThen (statement_view s) (statements_view ss)

-- a procedure or an ON-unit
abbrev pub procedure_view : TypedProcedure → plain.TypedProcedure
procedure_view p =
    record {
      is_on_unit = p.is_on_unit;
      head = head_view p.head;
      parent = p.parent;
      parameters = p.parameters;
      function_end = p.function_end;
      statements = statements_view p.statements.items;
    }

-- a unit
abbrev pub unit_view : TypedUnit → plain.TypedUnit
unit_view u =
    record {
      name = u.name;
      procedure = u.procedure;
      is_main = u.is_main;
      signature = signature_view u.signature;
      globals = globals_view u.globals.items;
      procedures = map procedure_view u.procedures.items;
    }
